use Rattle.std.proofs.Common.{rules}
use Rattle.compose_encode.proofs.HeldLaws.{nothing_behind}
use Rattle.compose_encode.proofs.output.Output.new.Goals as goal

pub returns : goal.returns
returns c = λ imports is. record { entries = is; instances = λ i. search rules; parts = λ p. search rules; fit = nothing_behind imports }
