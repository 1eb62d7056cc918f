use Rattle.std.proofs.Common.{◌+◌, ◌-◌, ◌*◌, ◌++◌, ℕ, List, ap, ◌∙◌, arith}
use Rattle.warg_prover.proofs.Steps.{place_fits, beside, beside_none, beside_less, beside_left, beside_right}
use Rattle.warg_prover.proofs.needed.+push_beside.Goals as goal

pub returns-then-level-eq0 : goal.returns-then-level-eq0
returns-then-level-eq0 t c = beside_none c.args.out.now.items c.args.level c.args.place c.args.count c.args.index c.if-level-eq0.true

pub push_beside-requires : goal.push_beside-requires
push_beside-requires t c =
    let fits = place_fits c.args.level c.args.place (omega arith) c.requires.within c.requires.place_within in
    (omega arith, (omega arith, omega arith))

pub returns-then-count-half : goal.returns-then-count-half
returns-then-count-half t c =
    c.in_ok-push_beside.ensures ∙ beside_less c.args.out.now.items c.args.level c.size_of-half.result c.args.place c.args.count c.args.index (omega arith) c.size_of-half.ensures (omega arith)

pub push_needed-requires-clause-place_within : goal.push_needed-requires-clause-place_within
push_needed-requires-clause-place_within t c =
    let fits = place_fits c.args.level c.args.place (omega arith) c.requires.within c.requires.place_within in
    omega arith

pub push_beside-requires-then-index-half : goal.push_beside-requires-then-index-half
push_beside-requires-then-index-half t c =
    let fits = place_fits c.args.level c.args.place (omega arith) c.requires.within c.requires.place_within in
    (omega arith, (omega arith, omega arith))

pub push_needed-requires-else-index-half-clause-place_within :
    goal.push_needed-requires-else-index-half-clause-place_within
push_needed-requires-else-index-half-clause-place_within t c =
    let fits = place_fits c.args.level c.args.place (omega arith) c.requires.within c.requires.place_within in
    omega arith

pub push_beside-requires-else-index-half : goal.push_beside-requires-else-index-half
push_beside-requires-else-index-half t c =
    let fits = place_fits c.args.level c.args.place (omega arith) c.requires.within c.requires.place_within in
    (omega arith, (omega arith, omega arith))

pub returns-in_ok-push_beside-2 : goal.returns-in_ok-push_beside-2
returns-in_ok-push_beside-2 t c =
    c.in_ok-push_beside-2.ensures
    ∙ ap (λ (xs : List (ℕ × ℕ)). xs ++ beside (c.args.level - 1) (2 * c.args.place) c.size_of-half.result c.args.index) c.in_ok-push_needed.ensures
    ∙ beside_left c.args.out.now.items c.args.level c.size_of-half.result c.args.place c.args.count c.args.index (omega arith) c.size_of-half.ensures (omega arith) (omega arith)

pub returns-in_ok-push_beside-3 : goal.returns-in_ok-push_beside-3
returns-in_ok-push_beside-3 t c =
    c.in_ok-push_beside-3.ensures
    ∙ ap (λ (xs : List (ℕ × ℕ)). xs ++ beside (c.args.level - 1) (2 * c.args.place + 1) (c.args.count - c.size_of-half.result) (c.args.index - c.size_of-half.result)) c.in_ok-push_needed-2.ensures
    ∙ beside_right c.args.out.now.items c.args.level c.size_of-half.result c.args.place c.args.count c.args.index (omega arith) c.size_of-half.ensures (omega arith) (omega arith)
