use Rattle.std.proofs.Common.{◌-◌, ◌*◌, Some, List, ℕ, arith, sym, ap, ◌∙◌}
use Rattle.warg_proof.specs.LogProofs.{hash_within}
use Rattle.warg_proof.specs.Judging.{root_beside}
use Rattle.warg_proof.proofs.Climbing.{place_fits, beside-none, beside_less, beside_left, beside_right, none_left, none_right, both_are}
use Rattle.warg_proof.proofs.ranges.+rebuilt_root.Goals as goal

pub returns-then-level-eq0 : goal.returns-then-level-eq0
returns-then-level-eq0 t c =
    ap (λ (h : List ℕ). Some h) c.leaf_hash.ensures ∙ sym (beside-none c.args.nodes.now c.args.level c.args.place c.args.count c.args.index c.args.leaf.now c.if-level-eq0.true)

pub rebuilt_root-requires : goal.rebuilt_root-requires
rebuilt_root-requires t c =
    let fits = place_fits c.args.level c.args.place (omega arith) c.requires.within c.requires.place_within in
    (omega arith, (c.requires.ascending, (omega arith, omega arith)))

pub rebuilt_root-requires-then-index-half : goal.rebuilt_root-requires-then-index-half
rebuilt_root-requires-then-index-half t c =
    let fits = place_fits c.args.level c.args.place (omega arith) c.requires.within c.requires.place_within in
    (omega arith, (c.requires.ascending, (omega arith, omega arith)))

pub rebuilt_root-requires-else-index-half : goal.rebuilt_root-requires-else-index-half
rebuilt_root-requires-else-index-half t c =
    let fits = place_fits c.args.level c.args.place (omega arith) c.requires.within c.requires.place_within in
    (omega arith, (c.requires.ascending, (omega arith, omega arith)))

pub hash_of-requires-clause-place_within : goal.hash_of-requires-clause-place_within
hash_of-requires-clause-place_within t c =
    let fits = place_fits c.args.level c.args.place (omega arith) c.requires.within c.requires.place_within in
    omega arith

pub hash_of-requires-else-index-half-clause-place_within : goal.hash_of-requires-else-index-half-clause-place_within
hash_of-requires-else-index-half-clause-place_within t c =
    let fits = place_fits c.args.level c.args.place (omega arith) c.requires.within c.requires.place_within in
    omega arith

pub returns-then-count-half : goal.returns-then-count-half
returns-then-count-half t c =
    c.rebuilt_root.ensures ∙ sym (beside_less c.args.nodes.now c.args.level c.half_of-half.result c.args.place c.args.count c.args.index c.args.leaf.now (omega arith) c.half_of-half.ensures (omega arith))

pub returns-in_err-right : goal.returns-in_err-right
returns-in_err-right t c =
    let split = beside_left c.args.nodes.now c.args.level c.half_of-half.result c.args.place c.args.count c.args.index c.args.leaf.now (omega arith) c.half_of-half.ensures (omega arith) c.if-index-half.true in
    c.from_residual.ensures ∙ sym (split ∙ none_right (root_beside c.args.nodes.now (c.args.level - 1) (2 * c.args.place) c.half_of-half.result c.args.index c.args.leaf.now) _ (sym c.hash_of.ensures ∙ c.in_err-right.was))

pub returns-in_err-left : goal.returns-in_err-left
returns-in_err-left t c =
    let split = beside_left c.args.nodes.now c.args.level c.half_of-half.result c.args.place c.args.count c.args.index c.args.leaf.now (omega arith) c.half_of-half.ensures (omega arith) c.if-index-half.true in
    c.from_residual-in_err-left.ensures ∙ sym (split ∙ none_left _ _ (sym c.rebuilt_root-then-index-half.ensures ∙ c.in_err-left.was))

pub returns-in_ok-left : goal.returns-in_ok-left
returns-in_ok-left t c =
    let split = beside_left c.args.nodes.now c.args.level c.half_of-half.result c.args.place c.args.count c.args.index c.args.leaf.now (omega arith) c.half_of-half.ensures (omega arith) c.if-index-half.true in
    ap (λ (h : List ℕ). Some h) c.branch_hash.ensures ∙ sym (split ∙ both_are _ _ _ _ (sym c.rebuilt_root-then-index-half.ensures ∙ c.in_ok-left.was) (sym c.hash_of.ensures ∙ c.in_ok-right.was))

pub returns-in_err-left-2 : goal.returns-in_err-left-2
returns-in_err-left-2 t c =
    let split = beside_right c.args.nodes.now c.args.level c.half_of-half.result c.args.place c.args.count c.args.index c.args.leaf.now (omega arith) c.half_of-half.ensures (omega arith) (omega arith) in
    c.from_residual-in_err-left-2.ensures ∙ sym (split ∙ none_left _ _ (sym c.hash_of-else-index-half.ensures ∙ c.in_err-left-2.was))

pub returns-in_err-right-2 : goal.returns-in_err-right-2
returns-in_err-right-2 t c =
    let split = beside_right c.args.nodes.now c.args.level c.half_of-half.result c.args.place c.args.count c.args.index c.args.leaf.now (omega arith) c.half_of-half.ensures (omega arith) (omega arith) in
    c.from_residual-in_err-right-2.ensures ∙ sym (split ∙ none_right (hash_within c.args.nodes.now (c.args.level - 1) (2 * c.args.place) c.half_of-half.result) _ (sym c.rebuilt_root-else-index-half.ensures ∙ c.in_err-right-2.was))

pub returns-in_ok-right-2 : goal.returns-in_ok-right-2
returns-in_ok-right-2 t c =
    let split = beside_right c.args.nodes.now c.args.level c.half_of-half.result c.args.place c.args.count c.args.index c.args.leaf.now (omega arith) c.half_of-half.ensures (omega arith) (omega arith) in
    ap (λ (h : List ℕ). Some h) c.branch_hash-else-index-half.ensures ∙ sym (split ∙ both_are _ _ _ _ (sym c.hash_of-else-index-half.ensures ∙ c.in_ok-left-2.was) (sym c.rebuilt_root-else-index-half.ensures ∙ c.in_ok-right-2.was))
