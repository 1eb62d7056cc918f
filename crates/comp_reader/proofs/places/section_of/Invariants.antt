use Rattle.std.proofs.Common.{length}
use Rattle.comp_reader.proofs.PlaceLaws.{IsUnderWay}
use Rattle.comp_reader.proofs.places.section_of.Given as goal

abbrev pub invariant-loop-rest : goal.invariant-loop-rest
invariant-loop-rest l = IsUnderWay l.number l.sections l.left l.rest

abbrev pub decreases-loop-rest : goal.decreases-loop-rest
decreases-loop-rest l = length l.rest
