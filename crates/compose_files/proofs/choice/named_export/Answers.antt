use Rattle.std.proofs.Common.{◌≡◌, Some, rules}
use Rattle.compose_component.specs.Component.{shape_of}
use Rattle.compose_graph.specs.Listed.{graph_of}
use Rattle.compose_files.specs.Choice.{instance_export}
use Rattle.compose_files.specs.Needs.{need_of}
use Rattle.compose_files.proofs.ChoiceLaws.{judge_export, named_there}
use Rattle.compose_files.proofs.RefusalSteps.{handed_on}
use Rattle.compose_files.proofs.choice.named_export.Goals as goal

pub returns-in_err-fits-clause-refused : goal.returns-in_err-fits-clause-refused
returns-in_err-fits-clause-refused c =
    let shape = shape_of c.in_ok-component.component.now in
    let found : instance_export shape c.args.name.now ≡ Some c.in-Some.place = search rules in
    handed_on c.from_residual-in_err-fits.result c.in_err-fits.field-0.0 _ c.from_residual-in_err-fits.ensures.1
    (judge_export (graph_of c.args.graph.now) c.args.source.0 c.in-Some.place (need_of c.args.need.now) (Some c.args.name.now) shape c.in_ok-component.ensures.found
    (named_there shape c.args.name.now c.in-Some.place found) c.in_err-fits.field-0.0 c.in_err-fits.ensures.refused)
