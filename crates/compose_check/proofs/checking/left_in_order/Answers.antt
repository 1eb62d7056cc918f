use Rattle.std.proofs.Common.{sym}
use Rattle.compose_check.specs.Composition.{composition_tree, wiring}
use Rattle.compose_check.proofs.checking.left_in_order.Goals as goal

pub returns-in_ok-lefts-in-Ok-clause-agree : goal.returns-in_ok-lefts-in-Ok-clause-agree
returns-in_ok-lefts-in-Ok-clause-agree c =
    let tree = composition_tree c.args.composition.now in
    let shapes = sym c.requires.shapes in
    let wires = sym c.deref.ensures.value in
    c.in_ok-lefts-in-Ok.ensures.agree tree c.requires.origins (c.in-Ok.ensures.lefts (wiring tree) c.requires.origins c.requires.no_circle shapes wires)
    (c.in-Ok.ensures.agree (wiring tree) c.requires.origins c.requires.no_circle shapes wires)
