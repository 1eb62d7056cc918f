use Rattle.compose_image.proofs.UsedLaws.{component_placed, instance_placed, instances_placed}
use Rattle.compose_image.proofs.laws.each_instance_stands_in_the_image.Goals as goal

pub returns-clause-components : goal.returns-clause-components
returns-clause-components a =
    λ c define export order imports i n k is made there. component_placed c define export order imports i n k is made
    there

pub returns-clause-instances : goal.returns-clause-instances
returns-clause-instances a =
    λ c define export order imports i o lt. instance_placed c define export order imports i o lt

pub returns-clause-as_many : goal.returns-clause-as_many
returns-clause-as_many a = λ c define export order imports o. instances_placed c define export order imports o
