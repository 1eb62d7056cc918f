use Rattle.std.proofs.Common.{◌≡◌, ◌-◌}
use Rattle.comp_reader.specs.Places.{behind_many_at}
use Rattle.comp_reader.proofs.places.behind_many.Given as goal

abbrev pub invariant-loop : goal.invariant-loop
invariant-loop g l = behind_many_at (g.T.Field.tree_at 200) (l.count - l.counter) l.rest ≡ behind_many_at (g.T.Field.tree_at 200) l.count l.bytes
