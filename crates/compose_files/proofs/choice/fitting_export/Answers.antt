use Rattle.std.proofs.Common.{ap, sym, ◌∙◌, subst, arith, None, Some}
use Rattle.comp_entity.specs.Entity.{ShapeTree}
use Rattle.compose_component.specs.Component.{shape_of}
use Rattle.compose_graph.specs.Listed.{graph_of}
use Rattle.compose_files.specs.Built.{IsJudged}
use Rattle.compose_files.specs.Needs.{need_of}
use Rattle.compose_files.proofs.ChoiceLaws.{first_found, judge_export, other_passed, place_there, unfit_passed}
use Rattle.compose_files.proofs.RefusalSteps.{handed_on}
use Rattle.compose_files.proofs.choice.fitting_export.Goals as goal
use Rattle.compose_files.proofs.choice.fitting_export.Goals.{else-is_instance-via-then-is_instance+in_ok-fits+else-branch, else-is_instance-via-else-is_instance}

pub returns-in_err-fits-clause-refused : goal.returns-in_err-fits-clause-refused
returns-in_err-fits-clause-refused c =
    let exports = ap (λ (t : ShapeTree). t.exports) (sym c.types.ensures.value) in
    let shape = shape_of c.in_ok-component_of.field-0.now in
    handed_on c.from_residual-in_err-fits.result c.in_err-fits.field-0.0 _ c.from_residual-in_err-fits.ensures.1
    (judge_export (graph_of c.args.graph.now) c.args.source.0 c.loop-place.place (need_of c.args.need.now) None shape c.in_ok-component_of.ensures.found
    (place_there shape c.types.result.now.exports.items c.index.result.now c.loop-place.place exports (omega arith) c.index.ensures) c.in_err-fits.field-0.0 c.in_err-fits.ensures.refused)

pub returns-then-branch-clause-chosen : goal.returns-then-branch-clause-chosen
returns-then-branch-clause-chosen c =
    let exports = ap (λ (t : ShapeTree). t.exports) (sym c.types.ensures.value) in
    first_found (graph_of c.args.graph.now) c.args.source.0 c.loop-place.place (need_of c.args.need.now) c.requires (shape_of c.in_ok-component_of.field-0.now) c.types.result.now.exports.items c.index.result.now
    c.in_ok-component_of.ensures.found exports (omega arith) c.index.ensures (c.loop-place.invariant c.requires)
    (sym c.is_instance.ensures ∙ c.if-is_instance.true)
    (subst (IsJudged (graph_of c.args.graph.now) c.args.source.0 (Some c.loop-place.place) (need_of c.args.need.now)) c.if-branch.true c.in_ok-fits.ensures.judged)

pub loop-place-preserved : goal.loop-place-preserved
loop-place-preserved c = λ j.
    let exports = ap (λ (t : ShapeTree). t.exports) (sym c.types.ensures.value) in
    elim c.else-is_instance.branch [
      | else-is_instance-via-then-is_instance+in_ok-fits+else-branch w ↦
          sym (unfit_passed (graph_of c.args.graph.now) c.args.source.0 c.loop-place.place (need_of c.args.need.now) j (shape_of c.in_ok-component_of.field-0.now) c.types.result.now.exports.items c.index.result.now
          c.in_ok-component_of.ensures.found exports (omega arith) c.index.ensures
          (subst (IsJudged (graph_of c.args.graph.now) c.args.source.0 (Some c.loop-place.place) (need_of c.args.need.now)) w.if-branch.false w.in_ok-fits.ensures.judged)) ∙ c.loop-place.invariant j
      | else-is_instance-via-else-is_instance w ↦
          sym (other_passed j.asked c.loop-place.place c.types.result.now.exports.items c.index.result.now (omega arith) c.index.ensures
          (sym c.is_instance.ensures ∙ w.if-is_instance.false)) ∙ c.loop-place.invariant j
    ]
