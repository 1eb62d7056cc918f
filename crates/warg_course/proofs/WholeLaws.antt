-- Where no reply was lost, the fault of a download over a link whose exchanges are kept is one over that link.
use Rattle.std.proofs.Common.{◌≡◌, inl, inr, List, ℕ, true, sym, ◌∙◌, ap}
use Rattle.std.proofs.lemmas.Bool.{false≢true}
use Rattle.warg_exchange.specs.Replies.{sources_in}
use Rattle.warg_exchange.specs.Requests.{Asker, sources_request}
use Rattle.warg_api.specs.Calls.{IsCallFault}
use Rattle.warg_api.specs.Download.{IsDownloadFault}
use Rattle.warg_api.specs.Errors.{content_error}
use Rattle.warg_api.specs.Link.{Asked}
use Rattle.warg_api.specs.declared.error.ClientError.{ClientError}
use Rattle.warg_session.specs.Recording.{Transcript, IsKept, IsRecorded}
use Rattle.warg_session.specs.RecordingLaws.{all_kept}

module _ {T : Type 0} (Steps : T → Asked → T → Type 0) where
  -- a step after which no reply is lost is kept
  step-kept : (old new : Transcript T) (asked : Asked) → IsRecorded Steps old asked new → new.is_whole ≡ true → IsKept Steps old asked new
  step-kept old new asked (inl kept) whole = kept
  step-kept old new asked (inr lost) whole = absurd (false≢true (sym lost.whole ∙ whole))

  call-whole : (a : Asker) (digest : List ℕ) (e : ClientError) (old new : Transcript T) → new.is_whole ≡ true → IsCallFault a content_error e (IsRecorded Steps) old (sources_request a digest) new sources_in
      → IsCallFault a content_error e Steps old.link (sources_request a digest) new.link sources_in
  call-whole a digest e old new whole (inl bad) = inl (bad.0, bad.1, ap (λ (t : Transcript T). t.link) bad.2)
  call-whole a digest e old new whole (inr (inl bad)) = inr (inl (bad.0, (step-kept old new _ bad.1 whole).passed))
  call-whole a digest e old new whole (inr (inr (inl bad))) = inr (inr (inl (bad.0, ap (λ (t : Transcript T). t.link) bad.1)))
  call-whole a digest e old new whole (inr (inr (inr bad))) = inr (inr (inr (bad.0, (step-kept old new _ bad.1 whole).passed, bad.2)))

  pub fault-whole : (a : Asker) (digest : List ℕ) (e : ClientError) (old new : Transcript T) → new.is_whole ≡ true → IsDownloadFault a digest e (IsRecorded Steps) old new → IsDownloadFault a digest e Steps old.link new.link
  fault-whole a digest e old new whole (inl bad) = inl (call-whole a digest e old new whole bad)
  fault-whole a digest e old new whole (inr (inl bad)) = inr (inl (bad.0, bad.1, (all_kept Steps old new bad.1 bad.2 whole).passed, bad.3))
  fault-whole a digest e old new whole (inr (inr (inl bad))) =
      let last = step-kept bad.2 new _ bad.6 whole in
      inr (inr (inl (bad.0, bad.1, bad.2.link, bad.3, (all_kept Steps old bad.2 bad.1 bad.4 (sym last.whole ∙ whole)).passed, bad.5, last.passed)))
  fault-whole a digest e old new whole (inr (inr (inr bad))) = inr (inr (inr (bad.0, bad.1, (all_kept Steps old new bad.1 bad.2 whole).passed, bad.3)))
