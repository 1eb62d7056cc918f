use Rattle.std.proofs.Common.{None, sym, subst, length}
use Rattle.std.specs.List.{AllByRecursion}
use Rattle.std.proofs.lemmas.List.{take_all, length-map}
use Rattle.compose_left.specs.Wiring.{lent_shape, IsForward, shapes_of}
use Rattle.compose_left.proofs.OrderLaws.{forward_step, no_circle}
use Rattle.compose_left.proofs.wiring.follows_order.Goals as goal

pub loop-wire-preserved : goal.loop-wire-preserved
loop-wire-preserved c =
    forward_step (length c.args.shapes.now) c.args.wires.now c.loop-wire.wire-index (record { target = 0; import = 0; source = 0; export = None }) c.loop-wire-test.true c.loop-wire.invariant c.if-wire.false c.if-wire-shapes.false

pub returns-clause-no_circle : goal.returns-clause-no_circle
returns-clause-no_circle c = λ t.
    no_circle (shapes_of c.args.shapes.now) c.args.wires.now
    (subst (λ n. AllByRecursion (IsForward n) c.args.wires.now) (sym (length-map c.args.shapes.now lent_shape))
    (subst (AllByRecursion (IsForward (length c.args.shapes.now))) (take_all c.loop-wire.wire-index c.args.wires.now c.loop-wire-test.false) c.loop-wire.invariant))
