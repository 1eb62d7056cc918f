use Rattle.compose_check.specs.Open.{left_open}
use Rattle.compose_check.proofs.InstanceLaws.{no_circle_has_none}
use Rattle.compose_check.proofs.RefusalLaws.{no_disagreement}
use Rattle.compose_check.proofs.laws.refusals_exclude_each_other.Goals as goal

pub returns-clause-circle : goal.returns-clause-circle
returns-clause-circle k = λ c i n reason made circle other. no_circle_has_none c made other.no_circle i circle.last.on

pub returns-clause-disagree : goal.returns-clause-disagree
returns-clause-disagree k = λ w n differs agreed. no_disagreement (left_open w) n agreed differs
