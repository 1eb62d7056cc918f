use Rattle.std.proofs.Common.{arith, sym, ◌∙◌}
use Rattle.warg_proof.proofs.Loops.{given_before-le, given_before-none, given_before-set, given_before-unset}
use Rattle.warg_proof.proofs.reading.given_count.Goals as goal
use Rattle.warg_proof.proofs.reading.given_count.Goals.{then-has_bit, else-has_bit}

pub loop-depth-init : goal.loop-depth-init
loop-depth-init c = sym (given_before-none c.args.given.now)

pub overflow_add-count : goal.overflow_add-count
overflow_add-count c = omega (arith, given_before-le c.loop-depth.depth c.args.given.now, c.loop-depth.invariant)

pub loop-depth-preserved : goal.loop-depth-preserved
loop-depth-preserved c =
    elim c.if-has_bit.branch [
      | then-has_bit w ↦ omega (arith, w.count-is, c.loop-depth.invariant, given_before-set c.loop-depth.depth c.args.given.now (sym c.has_bit.ensures ∙ w.if-has_bit.true))
      | else-has_bit w ↦ omega (arith, w.count-is, c.loop-depth.invariant, given_before-unset c.loop-depth.depth c.args.given.now (sym c.has_bit.ensures ∙ w.if-has_bit.false))
    ]
