use Rattle.std.proofs.Common.{◌∙◌}
use Rattle.warg_plan.specs.contracts.key.PlanKeyPartialEq.TheImpl as of_key
use Rattle.compose_config.specs.MapLaws.{lookup_there}
use Rattle.warg_plan.proofs.FoundSteps.{any_entry}
use Rattle.warg_plan.proofs.walk.is_found.Goals as goal

pub returns : goal.returns
returns c = c.contains_key.ensures ∙ lookup_there (of_key.ghosts.eq c.args.key.now) c.args.walk.now.entries.entries ∙ any_entry c.args.key.now c.args.walk.now.entries.entries
