use Rattle.std.proofs.Common.{◌≡◌, ◌≤◌, ℕ}
use Rattle.warg_api.specs.declared.client.Client.{Client}
use Rattle.warg_update.specs.Proved.{Start}
use Rattle.warg_update.specs.Standing.{asker_of, turns_left, HasSoundLogs, IsRefused}
use Rattle.warg_session.specs.Recording.{Transcript, transcript}
use Rattle.warg_session.specs.Updating.{IsUnderWay}
use Rattle.warg_session.proofs.update.go_on.Given as goal

abbrev pub invariant-loop-refusal : goal.invariant-loop-refusal
invariant-loop-refusal g l = record {
  faults : g.L.Link.faults l.fn.link.link ≤ g.L.Link.faults l.link.link;
  asker : (client : Client) → asker_of client l.step ≡ asker_of client l.fn.step;
  sound : HasSoundLogs l.fn.step → HasSoundLogs l.step;
  come : (limit : ℕ) (start : Start) (begun : Transcript g.L.Link.Told) → IsUnderWay (g.V.Verifier.good l.fn.verifier) (asker_of l.fn.client l.fn.step) start g.L.Link.Steps begun (transcript g.L.Link.told l.fn.link) limit l.fn.step
      → IsUnderWay (g.V.Verifier.good l.fn.verifier) (asker_of l.fn.client l.fn.step) start g.L.Link.Steps begun (transcript g.L.Link.told l.link) limit l.step;
  unasked : (limit : ℕ) (start : Start) (begun : Transcript g.L.Link.Told) → IsUnderWay (g.V.Verifier.good l.fn.verifier) (asker_of l.fn.client l.fn.step) start g.L.Link.Steps begun (transcript g.L.Link.told l.fn.link) limit l.fn.step
      → (IsRefused l.step → ⊥) → l.decide ≡ l.fn.decide;
}

abbrev pub decreases-loop-refusal : goal.decreases-loop-refusal
decreases-loop-refusal g l = turns_left l.step
