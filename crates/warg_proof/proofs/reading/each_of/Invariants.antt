use Rattle.std.proofs.Common.{◌≡◌, ◌-◌, map}
use Rattle.warg_proof.specs.Reading.{each_at}
use Rattle.warg_proof.proofs.Loops.{with_front}
use Rattle.warg_proof.proofs.reading.each_of.Given as goal

abbrev pub invariant-loop : goal.invariant-loop
invariant-loop g l = with_front g.T.Field.read_at (map g.T.Field.seen l.values.items) (each_at g.T.Field.read_at (l.count - l.counter) l.rest) ≡ each_at g.T.Field.read_at l.count l.bytes
