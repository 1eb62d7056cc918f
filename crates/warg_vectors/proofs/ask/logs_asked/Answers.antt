use Rattle.std.proofs.Common.{Ok}
use Rattle.warg_vectors.specs.Asked.{Logs, logs_in}
use Rattle.warg_vectors.proofs.AskLaws.{option-same, entries-same}
use Rattle.warg_vectors.proofs.ask.logs_asked.Goals as goal

pub returns : goal.returns
unfolding logs_in
returns c =
    rw (c.in_ok-log_length.ensures, c.in_ok-operator.ensures, c.in_ok-packages.ensures)
    (λ k. Ok (Logs c.in_ok-log_length.log_length (option-same c.in_ok-operator.operator k) (entries-same c.in_ok-packages.packages.entries k)))
