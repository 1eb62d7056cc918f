use Rattle.comp_entity.specs.Bounds.{bounded}
use Rattle.compose_shapes.proofs.laws.what_is_read_can_be_written.Goals as goal

pub returns : goal.returns
returns c = λ bytes s has. c.what_is_read_can_be_written.ensures bounded bytes has.parts s has.has_parts has.shape_is
