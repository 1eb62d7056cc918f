use Rattle.std.proofs.Math.Logic.{∥∥₁_elim}
use Rattle.compose_component.specs.Component.{bytes_of, shape_of}
use Rattle.compose_shapes.proofs.OneFact.{all_apart, all_placed}
use Rattle.compose_shapes.proofs.laws.a_component_names_its_imports.Goals as goal

pub returns-clause-apart : goal.returns-clause-apart
returns-clause-apart c = λ component.
    ∥∥₁_elim (c.a_component_has_the_shape_of_its_bytes.ensures component) (all_apart (shape_of component).imports)
    (λ has. (c.what_is_read_is_well_named.ensures (bytes_of component) (shape_of component) has).imports_apart)

pub returns-clause-placed : goal.returns-clause-placed
returns-clause-placed c = λ component.
    ∥∥₁_elim (c.a_component_has_the_shape_of_its_bytes.ensures component) (all_placed (shape_of component).imports)
    (c.what_is_read_has_places.ensures (bytes_of component) (shape_of component))
