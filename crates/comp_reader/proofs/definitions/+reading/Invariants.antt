use Rattle.std.proofs.Common.{◌≡◌, ◌+◌, ◌*◌, ◌-◌, map}
use Rattle.comp_format.specs.Vectors.{many_at}
use Rattle.comp_format.specs.CoreTypes.{core_at}
use Rattle.comp_format.specs.Definitions.{decl_at, definition_at}
use Rattle.comp_format.specs.Views.{decl_tree}
use Rattle.comp_reader.proofs.ManyLaws.{with_front}
use Rattle.comp_reader.proofs.definitions.+reading.Given as goal

abbrev pub decreases-type_of : goal.decreases-type_of
decreases-type_of l = 8 * l.scopes + 3

abbrev pub decreases-decls_of : goal.decreases-decls_of
decreases-decls_of l = 8 * l.scopes + 2

abbrev pub decreases-many_decls_of : goal.decreases-many_decls_of
decreases-many_decls_of l = 8 * l.scopes + 6

abbrev pub decreases-decl_of : goal.decreases-decl_of
decreases-decl_of l = 8 * l.scopes + 5

abbrev pub decreases-inner_type_of : goal.decreases-inner_type_of
decreases-inner_type_of l = 8 * l.scopes + 4

abbrev pub invariant-many_decls_of-loop : goal.invariant-many_decls_of-loop
invariant-many_decls_of-loop l =
    with_front (map decl_tree l.decls.items) (many_at (decl_at l.imports (core_at l.scopes) (definition_at l.scopes)) (l.count - l.counter) l.rest) ≡ many_at (decl_at l.imports (core_at l.scopes) (definition_at l.scopes)) l.count l.bytes
