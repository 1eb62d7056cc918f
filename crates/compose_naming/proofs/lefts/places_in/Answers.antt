use Rattle.compose_naming.proofs.PlaceLaws.{places_step}
use Rattle.compose_naming.proofs.lefts.places_in.Goals as goal

pub loop-leaf-preserved : goal.loop-leaf-preserved
loop-leaf-preserved c =
    places_step c.note_place.new.places _ c.loop-leaf.leaf-index c.leaf-item.result c.loop-leaf-test.true c.leaf-item.is
    (c.in_ok-note_place.ensures _ c.loop-leaf.invariant)
