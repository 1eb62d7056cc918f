use Rattle.std.proofs.Common.{ap, sym, ◌∙◌, take, ◌++◌, ◌∷◌, []}
use Rattle.std.proofs.lemmas.List.{take_more}
use Rattle.compose_config.specs.Arguments.{arguments_view}
use Rattle.warg_plan.specs.Walk.{wires_of}
use Rattle.warg_plan.specs.View.{stop_view}
use Rattle.warg_plan.specs.Steps.{wires_view, wire_view}
use Rattle.warg_plan.proofs.NodeSteps.{wires_step, wires_fail, wires_push, ok_wires}
use Rattle.warg_plan.proofs.node.wires_of.Goals as goal

pub returns-in-Err : goal.returns-in-Err
returns-in-Err c =
    let imports = c.args.imports.now in
    let i = c.loop-name.name-index in
    let item = c.name-item.result in
    let front = take_more imports i item c.loop-name-test.true ∙ ap (λ n. take i imports ++ n ∷ []) (sym c.name-item.is) in
    wires_fail (stop_view c.in-Err.stop) (arguments_view c.args.arguments) imports i (wires_view c.loop-name.wires.items) item c.loop-name.invariant front c.in-Err.ensures

pub loop-name-preserved : goal.loop-name-preserved
loop-name-preserved c =
    let imports = c.args.imports.now in
    let i = c.loop-name.name-index in
    let item = c.name-item.result in
    let front = take_more imports i item c.loop-name-test.true ∙ ap (λ n. take i imports ++ n ∷ []) (sym c.name-item.is) in
    ap (wires_of (arguments_view c.args.arguments)) front
    ∙ wires_step (arguments_view c.args.arguments) (take i imports) (wires_view c.loop-name.wires.items) item (wire_view c.in-Ok.wire) c.loop-name.invariant c.in-Ok.ensures
    ∙ ap ok_wires (sym (ap wires_view c.in_ok-push-in-Ok.ensures.items ∙ wires_push c.loop-name.wires.items _))
