use Rattle.std.proofs.Common.{◌≡◌, take, map}
use Rattle.warg_prover.specs.Asked.{inclusion_in}
use Rattle.warg_prover.proofs.hashes.inclusions_in.Given as goal

abbrev pub invariant-loop-index : goal.invariant-loop-index
invariant-loop-index l = l.inclusions.items ≡ map (inclusion_in l.count) (take l.index-index l.indices)
