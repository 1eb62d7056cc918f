use Rattle.std.proofs.Common.{◌+◌, take, sym, subst}
use Rattle.std.proofs.lemmas.List.{take_all}
use Rattle.warg_learn.specs.Groups.{AreAnswers}
use Rattle.warg_learn.proofs.GroupLaws.{answers_to, found_without, no_answers}
use Rattle.warg_learn.proofs.group.in_order.Goals as goal

pub loop-name-init : goal.loop-name-init
loop-name-init c = λ logs had. (had, no_answers logs _ c.new-infos.ensures.items)

pub loop-name-preserved : goal.loop-name-preserved
loop-name-preserved c = λ logs had.
    let at = c.loop-name in
    let was = at.invariant logs had in (
      found_without logs _ _ _ was.0 c.swap_remove.ensures.updates.0,
      subst (AreAnswers logs (take (at.name-index + 1) c.args.names.now)) (sym c.in_ok-push-in-Some.ensures.items)
          (answers_to logs c.args.names.now at.infos.items at.name-index c.name-item.result c.in-Some.info c.loop-name-test.true c.name-item.is was.1 (was.0 _ _ (sym c.in-Some.ensures.value))),
    )

pub returns : goal.returns
returns c = record {
  answers = λ logs had.
      subst (λ ns. AreAnswers logs ns c.loop-name.infos.items) (take_all c.loop-name.name-index c.args.names.now c.loop-name-test.false) (c.loop-name.invariant logs had).1;
}
