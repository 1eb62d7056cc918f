use Rattle.std.proofs.Common.{◌≡◌, take}
use Rattle.warg_demo.specs.Needs.{needs_of}
use Rattle.warg_demo.proofs.needs.needs_of.Given as goal

abbrev pub invariant-loop-pair : goal.invariant-loop-pair
invariant-loop-pair l = l.needs.items ≡ needs_of l.user (take l.pair-index l.pairs)
