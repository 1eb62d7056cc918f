use Rattle.std.proofs.Common.{◌≡◌, ◌⊎◌, ℕ, List, rules, subst}
use Rattle.warg_model.specs.Held.{registry_of}
use Rattle.warg_model.specs.State.{held}
use Rattle.warg_vectors.specs.Answers.{GivesPlaces, RefusesPlaces}
use Rattle.warg_vectors.proofs.ListLaws.{when-ok}
use Rattle.warg_vectors.proofs.answer.inclusion_answer.Goals as goal

pub returns : goal.returns
returns c =
    let w = registry_of (held c.args.named.now.registry) in
    let n = c.smaller-length.result in
    let places : c.as_slice.result.now ≡ c.args.asked.now.leafs = search rules in
    when-ok _ _ c.inclusion_below.result
    (λ reply is last sound latest long.
    let given = is last sound latest long c.smaller-length.ensures.below in
    let at = subst (λ (l : List ℕ). GivesPlaces w n l reply ⊎ RefusesPlaces w n l reply) places given in
    subst (λ (m : ℕ). GivesPlaces w m c.args.asked.now.leafs reply ⊎ RefusesPlaces w m c.args.asked.now.leafs reply) c.smaller-length.ensures.value at)
    c.inclusion_below.ensures
