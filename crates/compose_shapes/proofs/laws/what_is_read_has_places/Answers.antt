use Rattle.comp_entity.specs.Bounds.{bounded}
use Rattle.compose_shapes.proofs.Shapes.{each_placed, shape_good}
use Rattle.compose_shapes.proofs.laws.what_is_read_has_places.Goals as goal

pub returns : goal.returns
returns c =
    λ bytes s has. each_placed s.imports
    (shape_good bytes has.parts has.has_parts bounded s has.shape_is).imports_placed
