use Rattle.std.proofs.Common.{◌++◌, ap, sym, subst, ◌∙◌, length, ◌≤◌}
use Rattle.std.proofs.lemmas.List.{take_all}
use Rattle.comp_entity.specs.Views.{named_entities}
use Rattle.compose_check.specs.Open.{asked_by_all, asked_from}
use Rattle.compose_left.specs.Wired.{FindsWires}
use Rattle.compose_left.specs.Wiring.{shapes_of}
use Rattle.compose_check.proofs.AskedLaws.{all_more}
use Rattle.compose_check.proofs.open.all_asked.Goals as goal

pub loop-target-preserved : goal.loop-target-preserved
loop-target-preserved c = λ w origins no_circle finds.
    let i = c.loop-target.target in
    let s = c.index-shapes-target.result in
    c.in_ok-push_all_asked.ensures w origins no_circle finds
    ∙ (λ k. c.loop-target.invariant w origins no_circle finds k ++ asked_from w i 0 (named_entities (c.deref.ensures.value k)))
    ∙ all_more w c.args.shapes.now i s c.loop-target-test.true c.index-shapes-target.is

pub returns : goal.returns
returns c = λ w origins no_circle shapes wires.
    let finds : FindsWires c.in_ok-by_import.by_import w.wires = subst (FindsWires c.in_ok-by_import.by_import) (sym wires) c.in_ok-by_import.ensures in
    let past : length c.args.shapes.now ≤ c.loop-target.target = c.loop-target-test.false in
    c.loop-target.invariant w origins no_circle finds ∙ ap (λ ss. asked_by_all w 0 (shapes_of ss)) (take_all c.loop-target.target c.args.shapes.now past) ∙ ap (asked_by_all w 0) (sym shapes)
