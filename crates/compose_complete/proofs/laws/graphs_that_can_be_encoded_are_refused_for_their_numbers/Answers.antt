use Rattle.compose_complete.proofs.RefusedLaws.{unwritten_graph}
use Rattle.compose_complete.proofs.laws.graphs_that_can_be_encoded_are_refused_for_their_numbers.Goals as goal

pub returns : goal.returns
returns c = λ g o order lefts e kept there quiet can refused.
    unwritten_graph c.what_can_be_written_is_not_refused.ensures c.a_sound_composition_has_one_order.ensures.order c.a_sound_composition_has_one_order.ensures.lefts
    g (c.a_graph_is_a_composition.ensures g kept) o order lefts can there quiet e refused
