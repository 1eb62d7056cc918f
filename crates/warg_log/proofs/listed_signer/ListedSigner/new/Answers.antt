use Rattle.std.proofs.Common.{rules}
use Rattle.std.proofs.lemmas.List.Sorted.{answers_always}
use Rattle.warg_log.proofs.listed_signer.ListedSigner.new.Goals as goal

pub invariant_of-result : goal.invariant_of-result
invariant_of-result c = c.sort_unstable_by_key.ensures.sorted (λ x. x.0) (answers_always _ _ _ (λ f a r g called. search rules))
