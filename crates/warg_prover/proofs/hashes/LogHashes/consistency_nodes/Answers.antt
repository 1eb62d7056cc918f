use Rattle.std.proofs.Common.{rules, ◌≡◌, ◌^◌, ◌<◌, ◌≤◌, ℕ, refl, List, length, take, map, ap, sym, subst, ◌∙◌, arith}
use Rattle.std.specs.List.{All}
use Rattle.warg_proof.specs.declared.node.Node.{Node}
use Rattle.warg_prover.specs.Asked.{ListsConsistency, consistency_needs}
use Rattle.warg_prover.specs.Places.{IsPlaceOf, node_at}
use Rattle.warg_prover.proofs.Listed.{SamePlaces, whole_kept, consistency_listed, front_are, front_length, front_size}
use Rattle.warg_prover.proofs.Whole.{all_turned, front_nodes, wider}
use Rattle.warg_prover.proofs.hashes.LogHashes.consistency_nodes.Goals as goal

pub nodes_at-requires-clause-whole : goal.nodes_at-requires-clause-whole
nodes_at-requires-clause-whole c =
    let sorted = c.sort_places.new.places.items in
    let all = c.deref.result.now in
    let long : c.args.new ≤ length all = search rules in
    let kept = whole_kept (IsPlaceOf c.args.new) c.in_ok-places.places.items sorted c.sort_places.ensures.kept c.in_ok-places.ensures.whole in
    subst (All (IsPlaceOf (length all))) (sym c.as_slice.ensures.value) (all_turned sorted (wider c.args.new (length all) long) kept)

pub returns-clause-nodes : goal.returns-clause-nodes
returns-clause-nodes c = λ entries are.
    let all = c.args.self.now in
    let hashes = take c.args.new all in
    let long : c.args.new ≤ length all = search rules in
    let sorted = c.sort_places.new.places.items in
    let law = c.root_is_that_of_the_hashes.ensures in
    let fits : c.args.new < 2 ^ 64 = omega arith in
    let kept = whole_kept (IsPlaceOf c.args.new) c.in_ok-places.places.items sorted c.sort_places.ensures.kept c.in_ok-places.ensures.whole in
    let whole = subst (λ (n : ℕ). All (IsPlaceOf n) sorted) (front_size all hashes c.args.new long refl) kept in
    let same : SamePlaces (consistency_needs c.args.old c.args.new) sorted = subst (λ (xs : List (ℕ × ℕ)). SamePlaces xs sorted) c.in_ok-places.ensures.places c.sort_places.ensures.kept in
    let made : c.in_ok-nodes_at.field-0.items ≡ map (node_at hashes) sorted =
    c.in_ok-nodes_at.ensures ∙ ap (λ hs. map (node_at hs) c.as_slice.result.now) (search rules) ∙ ap (map (node_at all)) c.as_slice.ensures.value ∙ front_nodes all c.args.new sorted kept in
    subst (λ (nodes : List Node). ListsConsistency nodes (take c.args.new entries) c.args.old) (sym made)
    (consistency_listed law.hashes law.digest (take c.args.new entries) hashes c.args.old c.args.new sorted (front_length entries all c.args.new long are) fits
    (front_are entries all hashes c.args.new refl are) c.sort_places.ensures.ordered same whole)
