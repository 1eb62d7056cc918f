use Rattle.warg_session.specs.RecordingLaws.{all_kept}
use Rattle.warg_session.proofs.laws.what_is_kept_was_said.Goals as goal

pub returns : goal.returns
returns g c = all_kept g.L.Link.Steps
