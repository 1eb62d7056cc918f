-- The record is that of the signer's key, and its text is the one that is signed.
use Rattle.std.proofs.Common.{◌≡◌, ℕ, List, true, false, ap, subst, ◌∙◌, rules}
use Rattle.std.specs.Prelude.{IfSome}
use Rattle.warg_record.specs.Record.{Package, record_text}
use Rattle.warg_log.specs.Rules.{signed_text}
use Rattle.warg_publish.specs.Publish.{record_of}
use Rattle.warg_publish.specs.Shown.{info_view}
use Rattle.warg_publish.proofs.info.PublishInfo.finalize.Goals as goal

pub returns-in_err-signature-clause-refused : goal.returns-in_err-signature-clause-refused
returns-in_err-signature-clause-refused g c failed not_due =
    let r = record_of (g.S.Signer.key c.args.signer.now) c.args.now (info_view c.args.self) in
    let contents : c.in_ok-contents.contents.items ≡ record_text r =
    c.in_ok-contents.ensures.text ∙ ap record_text (c.in_ok-rec.ensures.record ∙ ap (λ k. record_of k c.args.now (info_view c.args.self)) c.public_key-key.ensures) in
    let text : c.deref-2.result.now ≡ signed_text Package (record_text r) =
    c.deref-2.ensures.value ∙ c.in_ok-text.ensures ∙ ap (signed_text Package) (c.deref.ensures.value ∙ contents) in
    subst (λ (t : List ℕ). IfSome (g.S.Signer.told c.args.signer.now) (λ gives. (signature : List ℕ) → gives t signature ≡ false)) text
    (c.in_err-signature.ensures.refused (search rules) not_due)

pub returns-clause-record : goal.returns-clause-record
returns-clause-record g c =
    c.in_ok-rec.ensures.record ∙ ap (λ k. record_of k c.args.now (info_view c.args.self)) c.public_key-key.ensures

pub returns-clause-contents : goal.returns-clause-contents
returns-clause-contents g c =
    c.in_ok-contents.ensures.text ∙ ap record_text (c.in_ok-rec.ensures.record ∙ ap (λ k. record_of k c.args.now (info_view c.args.self)) c.public_key-key.ensures)

pub returns-clause-signed : goal.returns-clause-signed
returns-clause-signed g c =
    let r = record_of (g.S.Signer.key c.args.signer.now) c.args.now (info_view c.args.self) in
    let contents : c.in_ok-contents.contents.items ≡ record_text r =
    c.in_ok-contents.ensures.text ∙ ap record_text (c.in_ok-rec.ensures.record ∙ ap (λ k. record_of k c.args.now (info_view c.args.self)) c.public_key-key.ensures) in
    let text : c.deref-2.result.now ≡ signed_text Package (record_text r) =
    c.deref-2.ensures.value ∙ c.in_ok-text.ensures ∙ ap (signed_text Package) (c.deref.ensures.value ∙ contents) in
    subst (λ (t : List ℕ). IfSome (g.S.Signer.told c.args.signer.now) (λ gives. gives t c.in_ok-signature.signature ≡ true)) text
    c.in_ok-signature.ensures.signed
