use Rattle.std.proofs.Common.{◌≡◌, ◌+◌, ◌*◌, ◌-◌, map}
use Rattle.comp_format.specs.Vectors.{many_at}
use Rattle.comp_format.specs.CoreTypes.{module_decl_at, core_at}
use Rattle.comp_format.specs.Views.{module_decl_tree}
use Rattle.comp_reader.proofs.ManyLaws.{with_front}
use Rattle.comp_reader.proofs.core_types.+core_reading.Given as goal

abbrev pub decreases-core_of : goal.decreases-core_of
decreases-core_of l = 8 * l.scopes + 3

abbrev pub decreases-module_decls_of : goal.decreases-module_decls_of
decreases-module_decls_of l = 8 * l.scopes + 2

abbrev pub decreases-many_module_decls_of : goal.decreases-many_module_decls_of
decreases-many_module_decls_of l = 8 * l.scopes + 5

abbrev pub decreases-module_decl_of : goal.decreases-module_decl_of
decreases-module_decl_of l = 8 * l.scopes + 4

abbrev pub invariant-many_module_decls_of-loop : goal.invariant-many_module_decls_of-loop
invariant-many_module_decls_of-loop l =
    with_front (map module_decl_tree l.decls.items) (many_at (module_decl_at (core_at l.scopes)) (l.count - l.counter) l.rest) ≡ many_at (module_decl_at (core_at l.scopes)) l.count l.bytes
