use Rattle.std.proofs.Common.{List, ◌∙◌, ap, refl}
use Rattle.compose_left.specs.declared.spots.Spot.{Spot}
use Rattle.compose_naming.specs.Bits.{Scope, behind_call, behind_calls}
use Rattle.compose_naming.specs.Scopes.{scopes_in, where_passed}
use Rattle.compose_naming.proofs.PassLaws.{one_failed, one_passed}
use Rattle.compose_naming.proofs.lefts.pass_calls.Goals as goal

pub returns-then-not-branch : goal.returns-then-not-branch
returns-then-not-branch c = λ leaves h.
    one_failed (behind_calls leaves) (λ (s : Spot) (scopes : List Scope). behind_call leaves scopes s) (λ x xs s. refl)
    c.args.calls.now c.loop-call.call-index c.call-item.result (scopes_in c.loop-call.scopes.items) _ c.loop-call-test.true
    c.call-item.is
    (c.in_ok-pass_call.ensures leaves h ∙ ap (λ passes. where_passed passes (scopes_in c.pass_call.new.scopes.items)) c.if-not-branch.true)
    (c.loop-call.invariant leaves h)

pub loop-call-preserved : goal.loop-call-preserved
loop-call-preserved c = λ leaves h.
    one_passed (behind_calls leaves) (λ (s : Spot) (scopes : List Scope). behind_call leaves scopes s) (λ x xs s. refl)
    c.args.calls.now c.loop-call.call-index c.call-item.result (scopes_in c.loop-call.scopes.items)
    (scopes_in c.pass_call.new.scopes.items) _ c.loop-call-test.true c.call-item.is
    (c.in_ok-pass_call.ensures leaves h ∙ ap (λ passes. where_passed passes (scopes_in c.pass_call.new.scopes.items)) c.if-not-branch.false)
    (c.loop-call.invariant leaves h)
