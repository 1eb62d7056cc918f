use Rattle.std.proofs.Common.{◌++◌, ◌∷◌, [], sym, ap, subst, ◌∙◌, take}
use Rattle.std.proofs.lemmas.List.{take_more}
use Rattle.compose_order.specs.Known.{AreCalls}
use Rattle.compose_order.proofs.calls.calls_of.Goals as goal

pub loop-spot-preserved : goal.loop-spot-preserved
loop-spot-preserved c =
    subst (λ xs. AreCalls c.add_call.new.calls xs)
    (sym (take_more c.args.spots.now c.loop-spot.spot-index c.spot-item.result c.loop-spot-test.true ∙ ap (λ x. take c.loop-spot.spot-index c.args.spots.now ++ x ∷ []) (sym c.spot-item.is)))
    (c.in_ok-add_call.ensures (take c.loop-spot.spot-index c.args.spots.now) c.loop-spot.invariant)
