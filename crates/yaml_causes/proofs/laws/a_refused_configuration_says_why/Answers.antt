use Rattle.std.proofs.Common.{suc, zero}
use Rattle.compose_config.specs.Plan.{settings_node, settings_at}
use Rattle.compose_config.specs.PlanLaws.{settings_reads}
use Rattle.yaml_causes.specs.PlanCauses.{RefusesSettings}
use Rattle.yaml_causes.specs.PlanCauseLaws.{settings_tells}
use Rattle.yaml_causes.specs.WholeLaws.{whole_told}
use Rattle.yaml_causes.proofs.laws.a_refused_configuration_says_why.Goals as goal

pub returns : goal.returns
returns c text node refusal carried is =
    let emits = c.carried_is_emitted.ensures text node (suc zero) carried in whole_told settings_node RefusesSettings settings_at settings_reads settings_tells text node emits.0 refusal emits.1 is
