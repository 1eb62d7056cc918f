use Rattle.comp_encoder.proofs.ReadLaws.{items_fit}
use Rattle.comp_encoder.proofs.laws.what_is_read_can_be_written.Goals as goal

pub returns : goal.returns
returns c = λ bytes items h. items_fit bytes items h
