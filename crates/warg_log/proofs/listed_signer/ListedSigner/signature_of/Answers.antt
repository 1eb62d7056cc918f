use Rattle.std.proofs.Common.{rules}
use Rattle.std.proofs.lemmas.List.Sorted.{answers_always}
use Rattle.warg_log.proofs.ListedLaws.{digest_found, digest_missing}
use Rattle.warg_log.proofs.listed_signer.ListedSigner.signature_of.Goals as goal

pub returns-in-Ok-clause-found : goal.returns-in-Ok-clause-found
returns-in-Ok-clause-found c =
    let by_digest = c.binary_search_by_key.ensures.position (λ x. x.0) (answers_always _ _ _ (λ f a r g called. search rules)) in
    let found = rw c.in-Ok.is at by_digest in
    rw (← c.self.view_is, ← c.deref.ensures.value, c.index.ensures, ← c.deref.ensures.value) (digest_found c.args.digest.now c.deref.result.now c.in-Ok.place c.index.result.now c.in-Ok.ensures.bound found)

pub returns-in-Err-clause-none : goal.returns-in-Err-clause-none
returns-in-Err-clause-none c =
    let by_digest = c.binary_search_by_key.ensures.position (λ x. x.0) (answers_always _ _ _ (λ f a r g called. search rules)) in
    let missing = rw c.in-Err.is at by_digest in
    rw (← c.self.view_is, ← c.deref.ensures.value) (digest_missing c.args.digest.now c.deref.result.now c.in-Err.field-0 (rw c.deref.ensures.value c.self.invariant) missing)
