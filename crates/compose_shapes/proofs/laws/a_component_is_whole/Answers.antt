use Rattle.std.proofs.Math.Logic.{∥∥₁_elim}
use Rattle.compose_component.specs.Component.{bytes_of, shape_of}
use Rattle.compose_shapes.proofs.OneFact.{one_whole}
use Rattle.compose_shapes.proofs.laws.a_component_is_whole.Goals as goal

pub returns : goal.returns
returns c = λ component.
    ∥∥₁_elim (c.a_component_has_the_shape_of_its_bytes.ensures component) (one_whole (shape_of component))
    (c.what_is_read_is_whole.ensures (bytes_of component) (shape_of component))
