use Rattle.std.proofs.Common.{rules}
use Rattle.std.proofs.lemmas.List.Sorted.{answers_always}
use Rattle.warg_proof.specs.LogProofs.{comes_before}
use Rattle.warg_proof.proofs.Loops.{ascending_answer}
use Rattle.warg_proof.proofs.reading.is_ascending.Goals as goal

pub returns : goal.returns
returns c = ascending_answer c.args.nodes.now c.is_sorted_by.result (c.is_sorted_by.ensures.cases comes_before (answers_always _ _ _ (λ f a r h called. search rules)))
