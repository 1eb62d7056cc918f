use Rattle.comp_space.specs.SpaceLaws.{space_kept}
use Rattle.comp_space.proofs.laws.a_growing_table_keeps_spaces.Goals as goal

pub returns : goal.returns
returns c = space_kept
