use Rattle.std.proofs.Common.{rules}
use Rattle.compose_left.proofs.PlaceLaws.{all_places_step}
use Rattle.compose_left.proofs.wiring.all_places.Goals as goal

pub loop-shape-preserved : goal.loop-shape-preserved
loop-shape-preserved c =
    all_places_step c.loop-shape.found.items _ c.args.shapes.now c.loop-shape.shape-index c.shape-item.result c.in_ok-places_of.field-0 (search rules) (search rules) c.shape-item.is c.in_ok-places_of.ensures c.loop-shape.invariant
