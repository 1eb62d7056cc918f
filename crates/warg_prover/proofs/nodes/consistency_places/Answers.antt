use Rattle.std.proofs.Common.{◌^◌, ◌<◌, ◌++◌, ℕ, List, ap, ◌∙◌, arith}
use Rattle.std.proofs.lemmas.List.Elements.{All-from_recursion, All-same}
use Rattle.warg_prover.specs.Places.{IsPlaceOf}
use Rattle.warg_prover.proofs.Bounds.{joining_places}
use Rattle.warg_prover.proofs.Steps.{joining}
use Rattle.warg_prover.proofs.nodes.consistency_places.Goals as goal

pub returns-clause-whole : goal.returns-clause-whole
returns-clause-whole c =
    let new = c.args.new in
    let fits : new < 2 ^ 64 = omega arith in
    All-same (IsPlaceOf new) _ _ (c.in_ok-push_joining.ensures ∙ ap (λ (xs : List (ℕ × ℕ)). xs ++ joining 64 0 c.args.old new) c.new-places.ensures.items)
    (All-from_recursion (IsPlaceOf new) (joining 64 0 c.args.old new) (joining_places c.args.old new fits (omega arith)))
