use Rattle.std.proofs.Common.{◌≡◌}
use Rattle.warg_demo.specs.Needs.{needs_among}
use Rattle.warg_demo.proofs.needs.draw_needs.Given as goal

abbrev pub invariant-loop-before : goal.invariant-loop-before
invariant-loop-before l = (record { state = l.draws.state; pairs = l.pairs.items }) ≡ needs_among l.initial.draws.state l.before
