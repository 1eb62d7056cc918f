use Rattle.std.proofs.Common.{◌-◌, ◌+◌, ◌*◌, Option, List, ℕ, arith, sym, ap, ◌∙◌}
use Rattle.warg_proof.specs.LogProofs.{hash_within}
use Rattle.warg_proof.specs.Judging.{roots_joining}
use Rattle.warg_proof.proofs.Climbing.{place_fits, joining-none, joining_less, joining_whole, joining_left, joining_right, doubled, left_roots, right_roots, none_of_left, none_of_right, right_are, left_are}
use Rattle.warg_proof.proofs.ranges.+rebuilt_roots.Goals as goal

pub rebuilt_roots-requires : goal.rebuilt_roots-requires
rebuilt_roots-requires t c =
    let fits = place_fits c.args.level c.args.place (omega arith) c.requires.within c.requires.place_within in
    (omega arith, (c.requires.ascending, (omega arith, (omega arith, omega arith))))

pub rebuilt_roots-requires-then-half-old : goal.rebuilt_roots-requires-then-half-old
rebuilt_roots-requires-then-half-old t c =
    let fits = place_fits c.args.level c.args.place (omega arith) c.requires.within c.requires.place_within in
    (omega arith, (c.requires.ascending, (omega arith, (omega arith, omega arith))))

pub rebuilt_roots-requires-else-half-old : goal.rebuilt_roots-requires-else-half-old
rebuilt_roots-requires-else-half-old t c =
    let fits = place_fits c.args.level c.args.place (omega arith) c.requires.within c.requires.place_within in
    (omega arith, (c.requires.ascending, (omega arith, (omega arith, omega arith))))

pub hash_of-requires-then-half-old-clause-place_within : goal.hash_of-requires-then-half-old-clause-place_within
hash_of-requires-then-half-old-clause-place_within t c =
    let fits = place_fits c.args.level c.args.place (omega arith) c.requires.within c.requires.place_within in
    omega arith

pub hash_of-requires-else-half-old-clause-place_within : goal.hash_of-requires-else-half-old-clause-place_within
hash_of-requires-else-half-old-clause-place_within t c =
    let fits = place_fits c.args.level c.args.place (omega arith) c.requires.within c.requires.place_within in
    omega arith

pub returns-in_err-whole : goal.returns-in_err-whole
returns-in_err-whole t c = c.from_residual.ensures ∙ sym (joining-none c.args.nodes.now c.args.level c.args.place c.args.old c.args.new c.if-level-eq0.true ∙ ap doubled (sym c.hash_of.ensures ∙ c.in_err-whole.was))

pub returns-then-level-eq0 : goal.returns-then-level-eq0
returns-then-level-eq0 t c = sym (joining-none c.args.nodes.now c.args.level c.args.place c.args.old c.args.new c.if-level-eq0.true ∙ ap doubled (sym c.hash_of.ensures ∙ c.in_ok-whole.was))

pub returns-then-new-half : goal.returns-then-new-half
returns-then-new-half t c = c.rebuilt_roots.ensures ∙ sym (joining_less c.args.nodes.now c.args.level c.half_of-half.result c.args.place c.args.old c.args.new (omega arith) c.half_of-half.ensures (omega arith))

pub returns-in_err-whole-2 : goal.returns-in_err-whole-2
returns-in_err-whole-2 t c = c.from_residual-in_err-whole-2.ensures ∙ sym (joining_whole c.args.nodes.now c.args.level c.half_of-half.result c.args.place c.args.old c.args.new (omega arith) c.half_of-half.ensures (omega arith) c.if-old-new.true ∙ ap doubled (sym c.hash_of-then-old-new.ensures ∙ c.in_err-whole-2.was))

pub returns-then-old-new : goal.returns-then-old-new
returns-then-old-new t c = sym (joining_whole c.args.nodes.now c.args.level c.half_of-half.result c.args.place c.args.old c.args.new (omega arith) c.half_of-half.ensures (omega arith) c.if-old-new.true ∙ ap doubled (sym c.hash_of-then-old-new.ensures ∙ c.in_ok-whole-2.was))

pub returns-in_err-left : goal.returns-in_err-left
returns-in_err-left t c =
    let rest = roots_joining c.args.nodes.now (c.args.level - 1) (2 * c.args.place + 1) (c.args.old - c.half_of-half.result) (c.args.new - c.half_of-half.result) in
    c.from_residual-in_err-left.ensures ∙ sym (joining_right c.args.nodes.now c.args.level c.half_of-half.result c.args.place c.args.old c.args.new (omega arith) c.half_of-half.ensures (omega arith) (omega arith) ∙ ap (λ (o : Option (List ℕ)). right_roots o rest) (sym c.hash_of-then-half-old.ensures ∙ c.in_err-left.was))

pub returns-in_err-right : goal.returns-in_err-right
returns-in_err-right t c =
    let first = hash_within c.args.nodes.now (c.args.level - 1) (2 * c.args.place) c.half_of-half.result in
    c.from_residual-in_err-right.ensures ∙ sym (joining_right c.args.nodes.now c.args.level c.half_of-half.result c.args.place c.args.old c.args.new (omega arith) c.half_of-half.ensures (omega arith) (omega arith) ∙ none_of_right first _ (sym c.rebuilt_roots-then-half-old.ensures ∙ c.in_err-right.was))

pub returns-in_ok-right : goal.returns-in_ok-right
returns-in_ok-right t c =
    sym (joining_right c.args.nodes.now c.args.level c.half_of-half.result c.args.place c.args.old c.args.new (omega arith) c.half_of-half.ensures (omega arith) (omega arith) ∙ right_are _ _ c.in_ok-left.left c.in_ok-right.right c.branch_hash.result c.branch_hash-then-half-old.result
    (sym c.hash_of-then-half-old.ensures ∙ c.in_ok-left.was) (sym c.rebuilt_roots-then-half-old.ensures ∙ c.in_ok-right.was) c.branch_hash.ensures c.branch_hash-then-half-old.ensures)

pub returns-in_err-right-2 : goal.returns-in_err-right-2
returns-in_err-right-2 t c =
    let rest = roots_joining c.args.nodes.now (c.args.level - 1) (2 * c.args.place) c.args.old c.half_of-half.result in
    c.from_residual-in_err-right-2.ensures ∙ sym (joining_left c.args.nodes.now c.args.level c.half_of-half.result c.args.place c.args.old c.args.new (omega arith) c.half_of-half.ensures (omega arith) (omega arith) (omega arith) ∙ ap (λ (o : Option (List ℕ)). left_roots o rest) (sym c.hash_of-else-half-old.ensures ∙ c.in_err-right-2.was))

pub returns-in_err-left-2 : goal.returns-in_err-left-2
returns-in_err-left-2 t c =
    let first = hash_within c.args.nodes.now (c.args.level - 1) (2 * c.args.place + 1) (c.args.new - c.half_of-half.result) in
    c.from_residual-in_err-left-2.ensures ∙ sym (joining_left c.args.nodes.now c.args.level c.half_of-half.result c.args.place c.args.old c.args.new (omega arith) c.half_of-half.ensures (omega arith) (omega arith) (omega arith) ∙ none_of_left first _ (sym c.rebuilt_roots-else-half-old.ensures ∙ c.in_err-left-2.was))

pub returns-in_ok-left-2 : goal.returns-in_ok-left-2
returns-in_ok-left-2 t c =
    sym (joining_left c.args.nodes.now c.args.level c.half_of-half.result c.args.place c.args.old c.args.new (omega arith) c.half_of-half.ensures (omega arith) (omega arith) (omega arith) ∙ left_are _ _ c.in_ok-right-2.right c.in_ok-left-2.left c.branch_hash-else-half-old.result
    (sym c.hash_of-else-half-old.ensures ∙ c.in_ok-right-2.was) (sym c.rebuilt_roots-else-half-old.ensures ∙ c.in_ok-left-2.was) c.branch_hash-else-half-old.ensures)
