use Rattle.comp_format.specs.SectionLaws.{component_form}
use Rattle.comp_format.proofs.laws.what_is_read_is_a_component.Goals as goal

pub returns : goal.returns
returns c = λ scopes bytes ss e. component_form scopes bytes ss e
