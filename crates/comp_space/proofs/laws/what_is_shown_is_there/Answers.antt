use Rattle.comp_space.specs.SpaceLaws.{space_is_there}
use Rattle.comp_space.proofs.laws.what_is_shown_is_there.Goals as goal

pub returns : goal.returns
returns c = space_is_there
