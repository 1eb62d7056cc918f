use Rattle.std.proofs.Common.{◌^◌, ◌<◌, ◌++◌, ℕ, List, get_or, take, ap, ◌∙◌, arith}
use Rattle.std.specs.List.{flat_map}
use Rattle.std.proofs.lemmas.List.Elements.{All-append, All-from_recursion, All-more, All-same}
use Rattle.warg_proof.specs.LogTree.{Range}
use Rattle.warg_proof.specs.TrueProofs.{needed}
use Rattle.warg_prover.specs.Asked.{inclusion_needs}
use Rattle.warg_prover.specs.Places.{IsPlaceOf}
use Rattle.warg_prover.proofs.Bounds.{beside_places}
use Rattle.warg_prover.proofs.Steps.{beside, flat_map-take}
use Rattle.warg_prover.proofs.nodes.inclusion_places.Goals as goal

pub loop-index-preserved : goal.loop-index-preserved
loop-index-preserved c =
    let count = c.args.count in
    let i = c.loop-index.index-index in
    let indices = c.args.indices.now in
    let index = get_or indices i 0 in
    let lt = c.loop-index-test.true in
    let fits : count < 2 ^ 64 = omega arith in
    let front = flat_map (inclusion_needs count) (take i indices) in
    record {
      places =
          c.in_ok-push_beside.ensures
          ∙ ap (λ (xs : List (ℕ × ℕ)). xs ++ beside 64 0 count index) c.loop-index.invariant.places
          ∙ ap (λ (rs : List Range). front ++ flat_map needed rs) (c.ranges_are_found_from_each_level.ensures.inclusion 64 count index (omega arith))
          ∙ flat_map-take (inclusion_needs count) indices i 0 lt;
      whole =
          All-same (IsPlaceOf count) _ _ c.in_ok-push_beside.ensures
          (All-append (IsPlaceOf count) c.loop-index.places.items (beside 64 0 count index) c.loop-index.invariant.whole
          (All-from_recursion (IsPlaceOf count) (beside 64 0 count index) (beside_places count index fits (omega arith))));
      below = All-more (λ index. index < count) indices i 0 lt c.loop-index.invariant.below (omega arith);
    }
