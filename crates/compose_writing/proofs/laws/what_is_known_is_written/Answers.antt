use Rattle.compose_writing.proofs.PossibleLaws.{entity_possible, instance_possible, component_possible}
use Rattle.compose_writing.proofs.laws.what_is_known_is_written.Goals as goal

pub returns-clause-entity : goal.returns-clause-entity
returns-clause-entity c = entity_possible

pub returns-clause-instance : goal.returns-clause-instance
returns-clause-instance c = instance_possible

pub returns-clause-component : goal.returns-clause-component
returns-clause-component c = component_possible
