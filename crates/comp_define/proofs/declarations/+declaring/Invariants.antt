use Rattle.std.proofs.Common.{List, map, take}
use Rattle.comp_declare.specs.Outer.{AllShowSpaces, AreSpaces}
use Rattle.comp_declare.specs.Scopes.{IsScope, ShowsScope}
use Rattle.comp_entity.specs.Bounds.{bounded}
use Rattle.comp_format.specs.Definitions.{decls_of}
use Rattle.comp_format.specs.Views.{decl_tree}
use Rattle.comp_scope.specs.Spaces.{Spaces, nothing_known}
use Rattle.comp_scope.specs.Types.{with_decls}
use Rattle.comp_space.specs.Faults.{Found}
use Rattle.comp_table.specs.Trees.{Extends}
use Rattle.comp_define.proofs.declarations.+declaring.Given as goal

abbrev pub invariant-declared-loop-decl : goal.invariant-declared-loop-decl
invariant-declared-loop-decl l = record {
  extends : Extends l.fn.table l.table;
  own : IsScope l.table l.scope;
  around : AreSpaces l.table (map (λ s. s.now) l.around);
  found : (ss : List Spaces) → AllShowSpaces l.fn.table (map (λ s. s.now) l.around) ss
      → Found (ShowsScope l.table) l.scope (with_decls bounded ss (nothing_known l.is_closed) (decls_of (map decl_tree (take l.decl-index l.decls))));
}
