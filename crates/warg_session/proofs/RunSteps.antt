-- An update over a link, from its beginning to its end.
use Rattle.std.proofs.Common.{◌≡◌, ℕ, Bool, List, [], sym, ap, subst, ◌∙◌, arith}
use Rattle.std.proofs.lemmas.List.{append-nil, append_cancel_left}
use Rattle.warg_log.specs.Rules.{Accepts}
use Rattle.warg_exchange.specs.declared.checkpoint.SignedCheckpoint.{SignedCheckpoint}
use Rattle.warg_exchange.specs.Requests.{Asker}
use Rattle.warg_api.specs.Link.{Asked}
use Rattle.warg_page.specs.Logs.{Logs}
use Rattle.warg_page.specs.IdFaults.{IsIdsFault}
use Rattle.warg_page.specs.declared.ids.IdsError.{IdsError}
use Rattle.warg_page.specs.declared.ids.IdsError.TheVariants as ids_error
use Rattle.warg_update.specs.Proved.{Start, Proves}
use Rattle.warg_update.specs.Standing.{Stands, pages_left}
use Rattle.warg_update.specs.declared.step.UpdateStep.{UpdateStep}
use Rattle.warg_session.specs.Pages.{pages_asked}
use Rattle.warg_session.specs.Recording.{Transcript}
use Rattle.warg_session.specs.RecordingLaws.{none_kept}
use Rattle.warg_session.specs.Refusals.{ids_refusal}
use Rattle.warg_session.specs.Updating.{IsBegun, IsUnderWay, IsUpdated, IsUpdateRefusal, IsRefusedTurn, LeavesPages}
use Rattle.warg_session.specs.declared.error.UpdateRefusal.{UpdateRefusal}

-- before anything is asked
pub nothing_begun : {T : Type 0} (a : Asker) (start : Start) (now : Transcript T) → IsBegun a start now now
nothing_begun a start now = record { exchanges = []; kept = sym (append-nil now.exchanges); asked = λ n x e. absurd cc }

module _ {T : Type 0} (accepts : Accepts) (start : Start) (Steps : T → Asked → T → Type 0) where
  -- an update begins
  pub starts : (a : Asker) (limit : ℕ) (now : Transcript T) (step : UpdateStep) → pages_left step ≡ limit → Stands accepts a start step [] → IsUnderWay accepts a start Steps now now limit step
  starts a limit now step all stands = ([], record { kept = none_kept Steps now; stands = stands; counted = omega (arith, all) })

  -- and ends, with what is proved
  pub ends : (a b : Asker) (limit : ℕ) (begun now : Transcript T) (step : UpdateStep) (logs : Logs) (c : SignedCheckpoint) → a ≡ b → (w : IsUnderWay accepts a start Steps begun now limit step) → Proves accepts a start w.0 logs c → IsUpdated accepts b start Steps begun now logs c
  ends a b limit begun now step logs c same w proves = subst (λ d. IsUpdated accepts d start Steps begun now logs c) same (record { exchanges = w.0; kept = w.1.kept; asked = w.1.stands.asked; proves = proves })

  pub began : (a b : Asker) (limit : ℕ) (begun now : Transcript T) (step : UpdateStep) → a ≡ b → IsUnderWay accepts a start Steps begun now limit step → IsBegun b start begun now
  began a b limit begun now step same w = subst (λ d. IsBegun d start begun now) same (record { exchanges = w.0; kept = w.1.kept.exchanges; asked = w.1.stands.asked })

  -- and so many pages are left as were not asked for
  pub leaves : (a b : Asker) (limit left : ℕ) (begun now : Transcript T) (step : UpdateStep) → a ≡ b → left ≡ pages_left step → IsUnderWay accepts a start Steps begun now limit step → LeavesPages b begun now limit left
  leaves a b limit left begun now step same is w xs kept =
      let these : xs ≡ w.0 = append_cancel_left begun.exchanges xs w.0 (sym kept ∙ w.1.kept.exchanges) in
      let asked : pages_asked b xs ≡ pages_asked a w.0 = ap (pages_asked b) these ∙ ap (λ d. pages_asked d w.0) (sym same) in
      omega (arith, is, asked, w.1.counted)

  -- or is refused
  pub refused : (said : Bool → Bool) (limit : ℕ) (a b : Asker) (e : UpdateRefusal) (ids : List (List ℕ)) (begun now : Transcript T) → a ≡ b → IsRefusedTurn e ids accepts said limit a start Steps begun now → IsRefusedTurn e ids accepts said limit b start Steps begun now
  refused said limit a b e ids begun now same h = subst (λ d. IsRefusedTurn e ids accepts said limit d start Steps begun now) same h

  -- two packages have one log
  pub same_log : (said : Bool → Bool) (limit : ℕ) (a : Asker) (e : IdsError) (ids : List (List ℕ)) (begun now : Transcript T) → IsIdsFault e ids → IsUpdateRefusal (ids_refusal e) ids accepts said limit a start Steps begun now
  same_log said limit a (ids_error.SameLog id) ids begun now h = h
  same_log said limit a ids_error.Memory ids begun now h = record {}
