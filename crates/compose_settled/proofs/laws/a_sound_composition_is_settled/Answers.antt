use Rattle.compose_check.specs.Composition.{wiring}
use Rattle.compose_settled.proofs.laws.a_sound_composition_is_settled.Goals as goal

pub returns-clause-cohere : goal.returns-clause-cohere
returns-clause-cohere c = λ composition order out is sound named.
    c.settled_imports_cohere.ensures (wiring composition) (c.a_sound_composition_has_one_type_each.ensures composition order out is sound named)

pub returns-clause-in_order : goal.returns-clause-in_order
returns-clause-in_order c = λ composition order out is sound named ordered.
    c.settled_imports_stand_in_order.ensures (wiring composition) (c.a_sound_composition_has_one_type_each.ensures composition order out is sound named) ordered

pub returns-clause-meanings : goal.returns-clause-meanings
returns-clause-meanings c = λ composition order out is sound named.
    c.settled_imports_have_a_meaning.ensures (wiring composition) (c.a_sound_composition_has_one_type_each.ensures composition order out is sound named)

pub returns-clause-readable : goal.returns-clause-readable
returns-clause-readable c = λ composition order out is sound named placed.
    c.settled_imports_are_readable.ensures (wiring composition) (c.a_sound_composition_has_one_type_each.ensures composition order out is sound named) placed
