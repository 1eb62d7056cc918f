use Rattle.std.proofs.Common.{rules, ◌≡◌, ◌+◌, ◌<◌, ◌∷◌, true, false, ap, drop, subst, sym, ◌∙◌, arith}
use Rattle.std.proofs.lemmas.Result.{err_from_is_err_and}
use Rattle.warg_plan.specs.View.{key_view}
use Rattle.warg_plan.specs.Walk.{To, has_key, keys}
use Rattle.warg_plan.specs.Onward.{GoesAlong}
use Rattle.warg_plan.specs.OnwardLaws.{stopped_at, stopped_within}
use Rattle.warg_plan.specs.Steps.{wire_view, wires_view, node_view}
use Rattle.warg_plan.specs.Found.{OnStop, found_entries, open_keys, nodes}
use Rattle.warg_plan.proofs.VisitSteps.{IsAlong, along_open, along_to, same_along, opened_is, still_new, hands_on, on_stop, stops, wires_left}
use Rattle.warg_plan.proofs.walk.+walking.Goals as goal
use Rattle.warg_plan.proofs.walk.+walking.Goals.{visit_each-in-To+in_ok-visit, visit_each-in_default}

pub visit_open-returns-in_err-close-clause-gives : goal.visit_open-returns-in_err-close-clause-gives
visit_open-returns-in_err-close-clause-gives t c = λ new free.
    let path = open_keys c.args.walk.now in
    let es = found_entries c.args.walk.now in
    let k = key_view c.args.key.now in
    let x = node_view c.args.node in
    let node = nodes c.args.question.now in
    let mid = found_entries c.visit_each.new.walk in
    let a =
    same_along node c.args.left path _ es _ k x _ (c.in_ok-open.ensures.open free) c.in_ok-open.ensures.entries (ap wires_view c.as_slice.ensures.value)
    ∙ c.in_ok-visit_each.ensures.gives in
    let q = err_from_is_err_and c.from_residual-in_err-close.result c.from_residual-in_err-close.ensures.1 in
    hands_on _ c.from_residual-in_err-close.result c.in_err-close.field-0.0 _ _ (q.1 ∙ ap stops q.2) (opened_is node c.args.left path es mid k x a)
    (c.in_err-close.ensures.gives path k (c.in_ok-visit_each.ensures.open ∙ c.in_ok-open.ensures.open free) (still_new node c.args.left path es mid k x new a))

pub visit_open-returns-clause-gives : goal.visit_open-returns-clause-gives
visit_open-returns-clause-gives t c = λ new free.
    let path = open_keys c.args.walk.now in
    let es = found_entries c.args.walk.now in
    let k = key_view c.args.key.now in
    let x = node_view c.args.node in
    let node = nodes c.args.question.now in
    let mid = found_entries c.visit_each.new.walk in
    let a =
    same_along node c.args.left path _ es _ k x _ (c.in_ok-open.ensures.open free) c.in_ok-open.ensures.entries (ap wires_view c.as_slice.ensures.value)
    ∙ c.in_ok-visit_each.ensures.gives in
    opened_is node c.args.left path es mid k x a
    ∙ c.in_ok-close.ensures.gives path k (c.in_ok-visit_each.ensures.open ∙ c.in_ok-open.ensures.open free) (still_new node c.args.left path es mid k x new a)

pub visit-returns-clause-goes_on : goal.visit-returns-clause-goes_on
visit-returns-clause-goes_on t c =
    let path = open_keys c.args.walk.now in
    let es = found_entries c.args.walk.now in
    let k = key_view c.args.key.now in
    let new : has_key (keys es) k ≡ false = search rules in
    let free : has_key path k ≡ false = search rules in
    let deep : 0 < c.args.left = omega (arith, c.if-left-eq0.false) in
    on_stop c.visit_open.result (stopped_within (nodes c.args.question.now) c.args.left path es _ k (node_view c.in_ok-node.node) deep new free c.in_ok-node.ensures) (c.visit_open.ensures.goes_on free)

pub visit_each-returns-in_err-visit-clause-goes_on : goal.visit_each-returns-in_err-visit-clause-goes_on
visit_each-returns-in_err-visit-clause-goes_on t c =
    let node = nodes c.args.question.now in
    let here = open_keys c.loop-wire.walk in
    let now = found_entries c.loop-wire.walk in
    let later = found_entries c.visit.new.walk in
    let item = c.loop-wire-item.result in
    let left = drop (c.loop-wire.wire-index + 1) c.args.wires.now in
    let q = err_from_is_err_and c.from_residual.result c.from_residual.ensures.1 in
    let split : wires_view (drop c.loop-wire.wire-index c.args.wires.now) ≡ (item.0.now, To (key_view c.in-To.key)) ∷ wires_view left =
    wires_left c.args.wires.now c.loop-wire.wire-index item c.loop-wire-test.true c.loop-wire-item.is ∙ ap (λ v. (item.0.now, wire_view v) ∷ wires_view left) c.in-To.is in
    subst (λ r. OnStop r (GoesAlong node c.args.left (open_keys c.args.walk.now) (found_entries c.args.walk.now) later (wires_view c.args.wires.now))) (sym (q.1 ∙ ap stops q.2))
    (on_stop (stops c.in_err-visit.field-0.0)
    (λ g. c.loop-wire.invariant.goes_on later (subst (λ ws. GoesAlong node c.args.left here now later ws) (sym split) (stopped_at node c.args.left here now later item.0.now (key_view c.in-To.key) (wires_view left) g)))
    c.in_err-visit.ensures.goes_on)

pub visit_each-loop-wire-preserved : goal.visit_each-loop-wire-preserved
visit_each-loop-wire-preserved t c =
    let node = nodes c.args.question.now in
    let path = open_keys c.args.walk.now in
    let es = found_entries c.args.walk.now in
    let ws = wires_view c.args.wires.now in
    let here = open_keys c.loop-wire.walk in
    let now = found_entries c.loop-wire.walk in
    let item = c.loop-wire-item.result in
    let left = drop (c.loop-wire.wire-index + 1) c.args.wires.now in
    let split = wires_left c.args.wires.now c.loop-wire.wire-index item c.loop-wire-test.true c.loop-wire-item.is in
    let before : IsAlong node c.args.left path es ws here now ((item.0.now, wire_view item.1) ∷ wires_view left) =
    subst (λ l. IsAlong node c.args.left path es ws here now l) split (record { stands = c.loop-wire.invariant.«open»; gives = c.loop-wire.invariant.gives; goes_on = c.loop-wire.invariant.goes_on }) in
    elim c.match-wire.branch [
      | visit_each-in-To+in_ok-visit w ↦
          let a = along_to node c.args.left path es ws here now item.0.now (key_view w.in-To.key) (wires_view left) (open_keys w.visit.new.walk) (found_entries w.visit.new.walk) w.in_ok-visit.ensures.«open» w.in_ok-visit.ensures.gives
          (subst (λ v. IsAlong node c.args.left path es ws here now ((item.0.now, wire_view v) ∷ wires_view left)) w.in-To.is before) in
          let b = subst (λ u. IsAlong node c.args.left path es ws (open_keys u) (found_entries u) (wires_view left)) (sym w.walk-is) a in
          record { «open» = b.stands; gives = b.gives; goes_on = b.goes_on }
      | visit_each-in_default w ↦
          let a = along_open node c.args.left path es ws here now item.0.now (wires_view left) (subst (λ v. IsAlong node c.args.left path es ws here now ((item.0.now, v) ∷ wires_view left)) (search rules) before) in
          let b = subst (λ u. IsAlong node c.args.left path es ws (open_keys u) (found_entries u) (wires_view left)) (sym w.walk-is) a in
          record { «open» = b.stands; gives = b.gives; goes_on = b.goes_on }
    ]
