use Rattle.std.proofs.Common.{◌≡◌, ◌<◌, ◌≤◌, ℕ, inl, inr, Err, sym, ap, subst, length}
use Rattle.std.specs.List.{All}
use Rattle.warg_ledger.specs.Registry.{entry_texts}
use Rattle.warg_vectors.proofs.AnswerLaws.{entries-length}
use Rattle.warg_vectors.proofs.ListLaws.{when-ok}
use Rattle.warg_vectors.proofs.answer.inclusion_by.Goals as goal

pub returns-in-Err-NoSuchProof : goal.returns-in-Err-NoSuchProof
returns-in-Err-NoSuchProof c =
    let n = c.args.below in
    let places = c.args.places.now in
    when-ok _ _ c.no_leaf.result
    (λ reply found w hashes le.
    let few : length (entry_texts w n) ≡ n = entries-length w n le in
    let place = found (λ all. c.in-Err-NoSuchProof.ensures.no_such_proof (ap Err c.in-Err-NoSuchProof.field-0-is) w n hashes (subst (λ (m : ℕ). All (λ index. index < m) places) (sym few) all)) in
    inr (inl (place.0, place.1, subst (λ (m : ℕ). m ≤ place.0) (sym few) place.2, place.3)))
    c.no_leaf.ensures
