use Rattle.std.proofs.Math.Logic.{∥∥₁_elim}
use Rattle.comp_entity.specs.Views.{entries_of}
use Rattle.compose_component.specs.Component.{bytes_of, shape_of}
use Rattle.compose_shapes.proofs.laws.a_component_can_be_written.Goals as goal

pub returns-clause-imports : goal.returns-clause-imports
returns-clause-imports c = λ component.
    ∥∥₁_elim (c.a_component_has_the_shape_of_its_bytes.ensures component)
    (c.the_form_of_an_entity_is_one_fact.ensures.entries (entries_of (shape_of component).imports))
    (λ has. (c.what_is_read_can_be_written.ensures (bytes_of component) (shape_of component) has).0)

pub returns-clause-exports : goal.returns-clause-exports
returns-clause-exports c = λ component.
    ∥∥₁_elim (c.a_component_has_the_shape_of_its_bytes.ensures component)
    (c.the_form_of_an_entity_is_one_fact.ensures.entries (entries_of (shape_of component).exports))
    (λ has. (c.what_is_read_can_be_written.ensures (bytes_of component) (shape_of component) has).1)
