use Rattle.std.proofs.Common.{true}
use Rattle.compose_coherence.specs.Agreement.{meaning_of}
use Rattle.compose_settled.proofs.Lefts.{stand_in_order}
use Rattle.compose_settled.proofs.laws.settled_imports_stand_in_order.Goals as goal

pub returns : goal.returns
returns c = λ w one ordered. stand_in_order
    (λ names t coheres. c.one_tree_stands_apart.ensures (meaning_of (λ n. n) (λ n. true) names) t
    (c.a_coherent_type_has_one_tree.ensures names (meaning_of (λ n. n) (λ n. true) names) (c.names_have_a_meaning.ensures names (λ n. n) (λ n. true)) t coheres))
    w (c.settled_imports_cohere.ensures w one) ordered
