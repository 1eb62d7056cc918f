use Rattle.std.proofs.Common.{sym, ◌∙◌}
use Rattle.std.proofs.lemmas.Bool.{false≢true}
use Rattle.warg_log.proofs.ListedLaws.{never}
use Rattle.warg_log.proofs.listed_signer.ListedSignerSigner.sign.Goals as goal

pub returns-in_err-try_clone-clause-failed : goal.returns-in_err-try_clone-clause-failed
returns-in_err-try_clone-clause-failed c =
    never (λ is_failed. let is_memory = rw is_failed at c.from_residual.ensures.1 in cc)
    (λ due. false≢true (rw c.if-fails_now.false at (c.fails_now.ensures.listed.1 (rw (← c.self.view_is) at due))))
    (λ unsigned. false≢true (sym (rw (← c.self.view_is) at (unsigned c.in-Some.signature.now)) ∙ rw c.sha256_of.ensures at c.in-Some.ensures.found))

pub returns-clause-failed : goal.returns-clause-failed
returns-clause-failed c =
    never (λ is_failed. cc)
    (λ due. false≢true (rw c.if-fails_now.false at (c.fails_now.ensures.listed.1 (rw (← c.self.view_is) at due))))
    (λ unsigned. false≢true (sym (rw (← c.self.view_is) at (unsigned c.in-Some.signature.now)) ∙ rw c.sha256_of.ensures at c.in-Some.ensures.found))
