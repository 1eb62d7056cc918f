use Rattle.std.proofs.Common.{◌≡◌, ◌-◌, map}
use Rattle.comp_format.specs.Vectors.{many_at}
use Rattle.comp_reader.proofs.ManyLaws.{with_front}
use Rattle.comp_reader.proofs.read.many_of.Given as goal

abbrev pub invariant-loop : goal.invariant-loop
invariant-loop g l = with_front (map g.T.Field.tree l.values.items) (many_at (g.T.Field.tree_at l.scopes) (l.count - l.counter) l.rest) ≡ many_at (g.T.Field.tree_at l.scopes) l.count l.bytes
