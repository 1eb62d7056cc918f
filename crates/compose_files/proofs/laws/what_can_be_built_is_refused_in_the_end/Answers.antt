use Rattle.compose_files.proofs.BuildOutside.{refused_in_the_end}
use Rattle.compose_files.proofs.laws.what_can_be_built_is_refused_in_the_end.Goals as goal

pub returns : goal.returns
returns c root s b e built numbers calm h = refused_in_the_end c.one_shape.ensures c.shapes_are_read.ensures root s b built numbers e calm h
