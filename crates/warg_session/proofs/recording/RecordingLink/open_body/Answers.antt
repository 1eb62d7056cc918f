use Rattle.std.proofs.Common.{refl, inr}
use Rattle.warg_session.proofs.RecordingSteps.{any_reply}
use Rattle.warg_session.proofs.recording.RecordingLink.open_body.Goals as goal

pub returns-in-Err-Memory-clause-memory : goal.returns-in-Err-Memory-clause-memory
returns-in-Err-Memory-clause-memory g c = λ _. inr (any_reply, inr (record { exchanges = refl; whole = refl }))
