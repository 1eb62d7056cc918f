use Rattle.std.proofs.Common.{arith}
use Rattle.warg_proof.specs.LogTree.{ranges_beside, ranges_joining}
use Rattle.warg_proof.proofs.Climbing.{beside-ranges-less, joining-ranges-less}
use Rattle.warg_proof.proofs.LogLaws.{below_power, at_any_level}
use Rattle.warg_proof.proofs.laws.ranges_are_found_from_each_level.Goals as goal

pub returns-clause-inclusion : goal.returns-clause-inclusion
returns-clause-inclusion c = λ level count index few.
    at_any_level (λ n. ranges_beside n 0 count index) count (λ n le. beside-ranges-less n 0 count index le) level count few (let lt = below_power count in omega arith)

pub returns-clause-consistency : goal.returns-clause-consistency
returns-clause-consistency c = λ level old new few.
    at_any_level (λ n. ranges_joining n 0 old new) new (λ n le. joining-ranges-less n 0 old new le) level new few (let lt = below_power new in omega arith)
