use Rattle.std.proofs.Common.{rules, is_lt}
use Rattle.std.proofs.lemmas.List.Sorted.{answers_always}
use Rattle.warg_log.specs.Listed.{listed_cmp}
use Rattle.warg_log.proofs.ListedLaws.{listed_weak}
use Rattle.warg_log.proofs.listed_verifier.ListedVerifier.new.Goals as goal

pub invariant_of-result : goal.invariant_of-result
invariant_of-result c = c.sort_unstable_by.ensures.sorted (λ x y. is_lt (listed_cmp x y)) listed_weak (answers_always _ _ _ (λ f a r g called. search rules))
