use Rattle.std.proofs.Common.{◌∙◌, ℕ, List, map, sym, ap, ◌++◌}
use Rattle.warg_plan.specs.declared.plan.PlanArg.{PlanArg}
use Rattle.warg_plan.specs.View.{entry_view}
use Rattle.warg_compose.specs.Composed.{wires_to}
use Rattle.warg_compose.proofs.StepLaws.{entry_more, view}
use Rattle.warg_compose.proofs.wires.wires_of.Goals as goal

pub loop-target-preserved : goal.loop-target-preserved
loop-target-preserved c =
    c.in_ok-add_wires.ensures
    ∙ ap (λ (xs : List (List ℕ × PlanArg)). c.loop-target.wires.items ++ wires_to c.loop-target.target 0 (map view xs)) c.deref.ensures.value
    ∙ ap (λ ws. ws ++ wires_to c.loop-target.target 0 (entry_view c.index-entries-target.result).arguments) c.loop-target.invariant
    ∙ sym (entry_more c.args.entries.now c.loop-target.target c.index-entries-target.result c.loop-target-test.true c.index-entries-target.is)
