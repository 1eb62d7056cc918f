use Rattle.std.proofs.Common.{◌∙◌, ap, sym}
use Rattle.warg_demo.proofs.NeedLaws.{found_next, passed}
use Rattle.warg_demo.proofs.needs.needs_of.Goals as goal
use Rattle.warg_demo.proofs.needs.needs_of.Goals.{then-pair-user+in_ok-push, else-pair-user}

pub loop-pair-preserved : goal.loop-pair-preserved
loop-pair-preserved c = elim c.if-pair-user.branch [
  | then-pair-user+in_ok-push w ↦ ap (λ v. v.items) w.needs-is
      ∙ found_next c.args.user c.args.pairs.now c.loop-pair.pair-index (0, 0) c.loop-pair-test.true c.loop-pair.needs.items _ w.if-pair-user.true c.loop-pair.invariant w.in_ok-push.ensures.items
  | else-pair-user w ↦ ap (λ v. v.items) w.needs-is ∙ c.loop-pair.invariant
      ∙ sym (passed c.args.user c.args.pairs.now c.loop-pair.pair-index (0, 0) c.loop-pair-test.true w.if-pair-user.false)
]
