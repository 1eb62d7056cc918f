use Rattle.std.proofs.Math.Logic.{∥∥₁_elim}
use Rattle.compose_check.specs.Composition.{wiring}
use Rattle.compose_check.specs.Open.{lefts}
use Rattle.compose_settled.specs.Imports.{used_components}
use Rattle.compose_shapes.proofs.Sound.{IsReady, all_have_names, all_numbered, all_ready, importable, of_used, one_order}
use Rattle.compose_shapes.proofs.laws.sound_compositions_of_components_can_be_written.Goals as goal

pub returns : goal.returns
returns c = λ w held are define order out is sound hides.
    let read = c.compositions_are_of_shapes_that_are_read.ensures in
    let whole = read.whole w held are in
    let named = all_have_names c.a_component_has_a_name.ensures w.components held are in
    let ready = all_ready w.components named (read.imports w held are) (read.exports w held are) whole in
    let in_order = ∥∥₁_elim (read.well_named w held are) (one_order (lefts (wiring w)))
    (λ well. c.a_sound_composition_is_settled.ensures.in_order w order out is sound well
    (all_numbered w.components w.instances whole)) in
    c.what_agrees_can_be_written.ensures w define order out sound (read.imports w held are) (read.named w held are)
    in_order
    (λ e. importable (used_components w) (of_used IsReady w ready) (hides e))
