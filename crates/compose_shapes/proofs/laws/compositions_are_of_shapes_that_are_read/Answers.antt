use Rattle.comp_entity.specs.Entity.{ShapeTree}
use Rattle.comp_entity.specs.Views.{entries_of}
use Rattle.compose_known.specs.Whole.{IsWhole}
use Rattle.compose_settled.specs.Named.{IsWellNamed}
use Rattle.compose_shapes.proofs.Compositions.{all_of, imports_named, shapes_well_named}
use Rattle.compose_shapes.proofs.laws.compositions_are_of_shapes_that_are_read.Goals as goal
use Rattle.compose_writing.specs.Conditions.{KeepsEntries}

pub returns-clause-well_named : goal.returns-clause-well_named
returns-clause-well_named c = λ w held are.
    shapes_well_named w.components w.instances
    (all_of (λ (s : ShapeTree). ∥ IsWellNamed s ∥₁) c.a_component_is_well_named.ensures w.components held are)

pub returns-clause-whole : goal.returns-clause-whole
returns-clause-whole c = λ w held are. all_of IsWhole c.a_component_is_whole.ensures w.components held are

pub returns-clause-named : goal.returns-clause-named
returns-clause-named c = λ w held are.
    imports_named c.a_component_names_its_imports.ensures.apart c.a_component_names_its_imports.ensures.placed
    w.components held are

pub returns-clause-imports : goal.returns-clause-imports
returns-clause-imports c = λ w held are.
    all_of (λ (s : ShapeTree). KeepsEntries (entries_of s.imports)) c.a_component_can_be_written.ensures.imports
    w.components held are

pub returns-clause-exports : goal.returns-clause-exports
returns-clause-exports c = λ w held are.
    all_of (λ (s : ShapeTree). KeepsEntries (entries_of s.exports)) c.a_component_can_be_written.ensures.exports
    w.components held are
