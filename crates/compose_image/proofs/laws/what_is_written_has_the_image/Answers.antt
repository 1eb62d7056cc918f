use Rattle.compose_image.proofs.ImageLaws.{image_of_composition}
use Rattle.compose_image.proofs.laws.what_is_written_has_the_image.Goals as goal

pub returns : goal.returns
returns c = image_of_composition
