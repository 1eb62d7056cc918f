use Rattle.std.proofs.Common.{◌≡◌, ◌++◌, length, map, max, take}
use Rattle.comp_format.specs.Numbers.{number_text}
use Rattle.comp_format.specs.CoreTypes.{module_decls, module_text}
use Rattle.comp_format.specs.Views.{module_decl_tree}
use Rattle.comp_encoder.specs.Largest.{module_largest}
use Rattle.comp_encoder.specs.Texts.{TextsOfModule}
use Rattle.comp_encoder.proofs.core_types.+core_writing.Given as goal

abbrev pub invariant-write_module_decls-loop-decl : goal.invariant-write_module_decls-loop-decl
invariant-write_module_decls-loop-decl l = record {
  text : l.out.bytes.items ≡ l.fn.out.bytes.items ++ (number_text (length l.decls) ++ module_text (module_decls (map module_decl_tree (take l.decl-index l.decls))));
  largest : l.out.largest ≡ max (max l.fn.out.largest (length l.decls)) (module_largest (module_decls (map module_decl_tree (take l.decl-index l.decls))));
  texts : TextsOfModule (module_decls (map module_decl_tree (take l.decl-index l.decls)));
}
