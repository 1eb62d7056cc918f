use Rattle.compose_left.specs.Wired.{wiring_of}
use Rattle.compose_left.proofs.FollowLaws.{Following}
use Rattle.compose_left.proofs.numbering.follow.Given as goal

abbrev pub invariant-loop-passed : goal.invariant-loop-passed
invariant-loop-passed l = Following (wiring_of l.wired) l.fn.from l.held l.trail.items l._passed
