use Rattle.std.proofs.lemmas.List.Filters.{dedup_is}
use Rattle.std.proofs.lemmas.List.Kept.{Contains-dedup, Contains-from_dedup, IsStrictlySortedBy-dedup}
use Rattle.std.proofs.lemmas.List.Sorted.{Contains-permutation, IsPermutation-sym}
use Rattle.warg_prover.proofs.Order.{place_cmp_total, place_eq_is, place_eq_equiv, place_eq_exact}
use Rattle.warg_prover.proofs.needed.sort_places.Goals as goal

pub returns-clause-ordered : goal.returns-clause-ordered
returns-clause-ordered c = rw (dedup_is _ _ _ c.dedup.ensures.filtered) (IsStrictlySortedBy-dedup place_cmp_total place_eq_is _ c.sort_unstable.ensures.sorted)

pub returns-clause-kept : goal.returns-clause-kept
returns-clause-kept c = λ at.
    let is = dedup_is _ _ _ c.dedup.ensures.filtered in
    let moved = c.sort_unstable.ensures.permutation in (
      λ h. rw is (Contains-dedup place_eq_equiv place_eq_exact _ at (Contains-permutation _ _ at moved h)),
      λ h. Contains-permutation _ _ at (IsPermutation-sym _ _ moved) (Contains-from_dedup _ _ at (rw is at h)),
    )
