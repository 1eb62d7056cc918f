use Rattle.std.proofs.Common.{◌≡◌, ◌++◌, length, map, max, take}
use Rattle.comp_format.specs.Numbers.{number_text}
use Rattle.comp_format.specs.Definitions.{decls_of, decls_text}
use Rattle.comp_format.specs.Views.{decl_tree}
use Rattle.comp_encoder.specs.Largest.{decls_largest}
use Rattle.comp_encoder.specs.Texts.{TextsOfDecls}
use Rattle.comp_encoder.proofs.definitions.+writing.Given as goal

abbrev pub invariant-write_decls-loop-decl : goal.invariant-write_decls-loop-decl
invariant-write_decls-loop-decl l = record {
  text : l.out.bytes.items ≡ l.fn.out.bytes.items ++ (number_text (length l.decls) ++ decls_text (decls_of (map decl_tree (take l.decl-index l.decls))));
  largest : l.out.largest ≡ max (max l.fn.out.largest (length l.decls)) (decls_largest (decls_of (map decl_tree (take l.decl-index l.decls))));
  texts : TextsOfDecls (decls_of (map decl_tree (take l.decl-index l.decls)));
}
