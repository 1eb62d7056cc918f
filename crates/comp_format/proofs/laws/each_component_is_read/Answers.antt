use Rattle.comp_format.specs.DepthLaws.{component_within}
use Rattle.comp_format.proofs.laws.each_component_is_read.Goals as goal

pub returns : goal.returns
returns c = λ ss scopes bytes h. component_within ss scopes bytes h
