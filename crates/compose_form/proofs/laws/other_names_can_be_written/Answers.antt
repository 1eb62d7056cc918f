use Rattle.compose_form.proofs.ChangeLaws.{entity_kept}
use Rattle.compose_form.proofs.laws.other_names_can_be_written.Goals as goal

pub returns : goal.returns
returns c = entity_kept
