use Rattle.std.proofs.Common.{List, map, take}
use Rattle.comp_entity.specs.Bounds.{bounded}
use Rattle.comp_format.specs.CoreTypes.{module_decls}
use Rattle.comp_format.specs.Views.{module_decl_tree}
use Rattle.comp_scope.specs.CoreScopes.{module_of, no_module_scope}
use Rattle.comp_scope.specs.Spaces.{KnownCoreType}
use Rattle.comp_space.specs.CoreStandings.{ModuleIsThere, ScopesAreThere, ScopesShow, ShowsModule}
use Rattle.comp_space.specs.Faults.{Found}
use Rattle.comp_table.specs.Trees.{Extends}
use Rattle.comp_space.proofs.core_types.+core_reading.Given as goal

abbrev pub invariant-module_of-loop-decl : goal.invariant-module_of-loop-decl
invariant-module_of-loop-decl l = record {
  extends : Extends l.fn.table l.table;
  around : ScopesAreThere l.table (map (λ s. s.now) l.around);
  there : ModuleIsThere l.table l.own;
  found : (scopes : List (List KnownCoreType)) → ScopesShow l.fn.table (map (λ s. s.now) l.around) scopes
      → Found (ShowsModule l.table) l.own (module_of bounded scopes no_module_scope (module_decls (map module_decl_tree (take l.decl-index l.decls))));
}
