use Rattle.comp_format.specs.SectionLaws.{reads_once}
use Rattle.comp_format.proofs.laws.one_reading.Goals as goal

pub returns : goal.returns
returns c = λ bytes a b h k. reads_once bytes a b h k
