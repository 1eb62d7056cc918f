use Rattle.compose_image.proofs.AdditionLaws.{calls_gained, item_gained, needs_gained}
use Rattle.compose_image.proofs.laws.an_import_is_one_item.Goals as goal

pub returns : goal.returns
returns c = record { needs = needs_gained; item = item_gained; calls = calls_gained }
