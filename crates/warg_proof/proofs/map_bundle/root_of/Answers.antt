use Rattle.std.proofs.Common.{◌≡◌, ◌+◌, ◌-◌, ◌∙◌, ℕ, [], get_or, Bool, true, false, cond, sym, ap, arith}
use Rattle.warg_proof.specs.MapTree.{has_bit}
use Rattle.warg_proof.specs.Merkle.{branch_hash}
use Rattle.warg_proof.specs.MapProofs.{MapPath, given_before, sibling_at}
use Rattle.warg_proof.proofs.Loops.{given_before-le}
use Rattle.warg_proof.proofs.Siblings.{given_before-mono, given-at, not_given-at, none_below, root_above, sibling-given, sibling-empty}
use Rattle.warg_proof.proofs.map_bundle.root_of.Goals as goal
use Rattle.warg_proof.proofs.map_bundle.root_of.Goals.{then-has_bit, else-has_bit}

pub loop-height-init : goal.loop-height-init
loop-height-init c = record {
  root_is = c.leaf_hash-root.ensures ∙ sym (none_below (record { given = c.args.given.now; siblings = c.args.siblings.now }) c.args.key.now c.args.value.now);
  next_is = c.requires;
}

pub overflow_sub-next : goal.overflow_sub-next
overflow_sub-next c =
    let next = c.loop-height.invariant.next_is in
    omega (arith, given-at c.loop-height.height c.args.given.now (omega arith) (sym c.has_bit.ensures ∙ c.if-has_bit.true))

pub offset_bounds-siblings-next : goal.offset_bounds-siblings-next
offset_bounds-siblings-next c =
    let next = c.loop-height.invariant.next_is in
    omega (arith, given_before-le (256 - c.loop-height.height) c.args.given.now)

pub bounds-siblings-next : goal.bounds-siblings-next
bounds-siblings-next c =
    let next = c.loop-height.invariant.next_is in
    let some = given-at c.loop-height.height c.args.given.now (omega arith) (sym c.has_bit.ensures ∙ c.if-has_bit.true) in
    let most = given_before-mono (256 - c.loop-height.height) 256 c.args.given.now (omega arith) in
    let all = c.requires in
    omega arith

pub loop-height-preserved : goal.loop-height-preserved
loop-height-preserved c =
    let height = c.loop-height.height in
    let given = c.args.given.now in
    let path : MapPath = record { given = given; siblings = c.args.siblings.now } in
    let chosen : (c.if-has_bit.next ≡ given_before (255 - height) given) × (c.if-has_bit.sibling ≡ sibling_at path (255 - height)) =
    elim c.if-has_bit.branch [
      | then-has_bit w ↦
          let set : has_bit given (255 - height) ≡ true = sym c.has_bit.ensures ∙ w.if-has_bit.true in
          let less : c.loop-height.next - 1 ≡ given_before (255 - height) given =
          let next = c.loop-height.invariant.next_is in omega (arith, given-at height given (omega arith) set) in
          (w.next-is ∙ less, w.sibling-is ∙ ap (λ (i : ℕ). get_or c.args.siblings.now i []) less ∙ sym (sibling-given path (255 - height) set))
      | else-has_bit w ↦
          let unset : has_bit given (255 - height) ≡ false = sym c.has_bit.ensures ∙ w.if-has_bit.false in (
            w.next-is ∙ c.loop-height.invariant.next_is ∙ not_given-at height given (omega arith) unset,
            w.sibling-is ∙ w.empty_root-sibling.ensures ∙ sym (sibling-empty path height (omega arith) unset),
          )
    ] in
    record {
      root_is = c.branch_beside-root.ensures ∙ ap (λ (b : Bool). cond b (branch_hash c.if-has_bit.sibling c.loop-height.root) (branch_hash c.loop-height.root c.if-has_bit.sibling)) c.has_bit-in-loop-height.ensures
          ∙ root_above path c.args.key.now c.args.value.now c.loop-height.root c.if-has_bit.sibling height c.loop-height.invariant.root_is chosen.1;
      next_is = let same : 255 - height ≡ 256 - (height + 1) = omega arith in chosen.0 ∙ ap (λ (d : ℕ). given_before d given) same;
    }
