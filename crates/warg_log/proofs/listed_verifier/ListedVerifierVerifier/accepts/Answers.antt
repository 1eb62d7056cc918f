use Rattle.std.proofs.Common.{rules, of_calls, ◌∙◌}
use Rattle.std.proofs.lemmas.Fn.{always_returns_same}
use Rattle.warg_log.specs.Listed.{listed_cmp}
use Rattle.warg_log.proofs.ListedLaws.{searched}
use Rattle.warg_log.proofs.listed_verifier.ListedVerifierVerifier.accepts.Goals as goal

pub returns : goal.returns
returns c =
    let facts = c.binary_search_by-found.ensures in
    let by_order = facts.position (λ x. listed_cmp x (c.args.key.now, c.sha256_of-digest.result, c.args.signature.now)) (always_returns_same _ _ _ (λ a r f called. search (rules, of_calls))) in
    c.is_ok.ensures.value
    ∙ rw (← c.self.view_is, ← c.deref.ensures.value, ← c.sha256_of-digest.ensures)
    (searched c.args.key.now c.sha256_of-digest.result c.args.signature.now c.deref.result.now c.binary_search_by-found.result (rw c.deref.ensures.value c.self.invariant) facts.bound by_order)
