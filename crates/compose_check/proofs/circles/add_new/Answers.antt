use Rattle.std.proofs.Common.{◌≡◌, refl, sym, ap, ◌∙◌, get_or}
use Rattle.compose_check.specs.Spread.{with_number}
use Rattle.compose_check.proofs.CircleLaws.{one_added, pushed, not_pushed}
use Rattle.compose_check.proofs.circles.add_new.Goals as goal
use Rattle.compose_check.proofs.circles.add_new.Goals.{then-branch+in_ok-push, else-branch}

pub loop-number-preserved : goal.loop-number-preserved
loop-number-preserved c =
    let number = get_or c.args.numbers.now c.loop-number.number-index 0 in
    let before = c.loop-number.invariant in
    let is : c.if-branch.list.items ≡ with_number c.loop-number.list.items number = elim c.if-branch.branch [
      | then-branch+in_ok-push w ↦ ap (λ v. v.items) w.list-is ∙ w.in_ok-push.ensures.items ∙ pushed c.loop-number.seen c.loop-number.list.items number before.seen (sym w.if-branch.true ∙ c.in_ok-insert.ensures.added)
      | else-branch w ↦ ap (λ v. v.items) w.list-is ∙ not_pushed c.loop-number.seen c.loop-number.list.items number before.seen (sym w.if-branch.false ∙ c.in_ok-insert.ensures.added)
    ] in
    let both = one_added c.loop-number.seen c.insert.new.self _ _ c.if-branch.list.items c.loop-number.number-index number c.args.numbers.now c.loop-number-test.true refl before.list before.seen c.in_ok-insert.ensures.updates is in
    record { list = both.0; seen = both.1 }
