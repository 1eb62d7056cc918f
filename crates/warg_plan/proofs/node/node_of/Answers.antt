use Rattle.std.proofs.Common.{ap, sym, ◌∙◌, subst}
use Rattle.warg_values.specs.Answers.{Gives}
use Rattle.warg_names.specs.Import.{dependency_import}
use Rattle.warg_names.specs.View.{import_tree}
use Rattle.compose_config.specs.View.{settings_of}
use Rattle.warg_plan.specs.View.{facts_view, key_view, stop_view}
use Rattle.warg_plan.specs.Steps.{node_view}
use Rattle.warg_plan.proofs.NodeSteps.{node_is}
use Rattle.warg_plan.proofs.node.node_of.Goals as goal

pub returns-in-Ok : goal.returns-in-Ok
returns-in-Ok c =
    let named = ap dependency_import (sym c.dependency_of.ensures ∙ sym c.as_str.ensures) ∙ c.in-Ok.ensures.ok in
    subst (Gives stop_view node_view c.node_by-in-Ok.result)
    (sym (node_is (settings_of c.args.question.now.config.now) (facts_view c.args.question.now.facts.now) (key_view c.args.key.now) (import_tree c.in-Ok.import) (rw c.in-Named.is named)))
    c.node_by-in-Ok.ensures
