use Rattle.std.proofs.Common.{◌-◌, ◌*◌, Some, List, ℕ, arith, sym, ap, ◌∙◌}
use Rattle.warg_proof.specs.LogProofs.{hash_within}
use Rattle.warg_proof.proofs.Climbing.{place_fits, hash-none, hash_less, hash_whole, hash_split, none_left, none_right, both_are}
use Rattle.warg_proof.proofs.ranges.+hash_of.Goals as goal

pub returns-then-level-eq0 : goal.returns-then-level-eq0
returns-then-level-eq0 t c = c.listed.ensures ∙ sym (hash-none c.args.nodes.now c.args.level c.args.place c.args.count c.if-level-eq0.true)

pub hash_of-requires : goal.hash_of-requires
hash_of-requires t c =
    let fits = place_fits c.args.level c.args.place (omega arith) c.requires.within c.requires.place_within in
    (omega arith, (c.requires.ascending, (omega arith, omega arith)))

pub returns-then-count-half : goal.returns-then-count-half
returns-then-count-half t c =
    c.hash_of.ensures ∙ sym (hash_less c.args.nodes.now c.args.level c.half_of-half.result c.args.place c.args.count (omega arith) c.half_of-half.ensures (omega arith))

pub returns-then-count-half-2 : goal.returns-then-count-half-2
returns-then-count-half-2 t c =
    c.listed-then-count-half-2.ensures ∙ sym (hash_whole c.args.nodes.now c.args.level c.half_of-half.result c.args.place c.args.count (omega arith) c.half_of-half.ensures (omega arith) (omega arith))

pub hash_of-requires-2 : goal.hash_of-requires-2
hash_of-requires-2 t c =
    let fits = place_fits c.args.level c.args.place (omega arith) c.requires.within c.requires.place_within in
    (omega arith, (c.requires.ascending, (omega arith, omega arith)))

pub hash_of-requires-3 : goal.hash_of-requires-3
hash_of-requires-3 t c =
    let fits = place_fits c.args.level c.args.place (omega arith) c.requires.within c.requires.place_within in
    (omega arith, (c.requires.ascending, (omega arith, omega arith)))

pub returns-in_err-left : goal.returns-in_err-left
returns-in_err-left t c =
    let split = hash_split c.args.nodes.now c.args.level c.half_of-half.result c.args.place c.args.count (omega arith) c.half_of-half.ensures (omega arith) (λ e. c.if-count-half-2.false e) in
    c.from_residual.ensures ∙ sym (split ∙ none_left _ _ (sym (c.hash_of-2.ensures) ∙ c.in_err-left.was))

pub returns-in_err-right : goal.returns-in_err-right
returns-in_err-right t c =
    let split = hash_split c.args.nodes.now c.args.level c.half_of-half.result c.args.place c.args.count (omega arith) c.half_of-half.ensures (omega arith) (λ e. c.if-count-half-2.false e) in
    c.from_residual-in_err-right.ensures ∙ sym (split ∙ none_right (hash_within c.args.nodes.now (c.args.level - 1) (2 * c.args.place) c.half_of-half.result) _ (sym (c.hash_of-3.ensures) ∙ c.in_err-right.was))

pub returns : goal.returns
returns t c =
    let split = hash_split c.args.nodes.now c.args.level c.half_of-half.result c.args.place c.args.count (omega arith) c.half_of-half.ensures (omega arith) (λ e. c.if-count-half-2.false e) in
    ap (λ (h : List ℕ). Some h) c.branch_hash.ensures ∙ sym (split ∙ both_are _ _ _ _ (sym c.hash_of-2.ensures ∙ c.in_ok-left.was) (sym c.hash_of-3.ensures ∙ c.in_ok-right.was))
