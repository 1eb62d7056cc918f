-- Both go on, or one ends, or they part.
use Rattle.std.specs.Borrow.{Bor}
use Rattle.std.proofs.Common.{ℕ, List, [], sym, ◌∙◌, arith}
use Rattle.warg_config.proofs.PathLaws.{way_on, way_apart, way_from_end, way_to_end}
use Rattle.warg_config.proofs.paths.shared.Goals as goal

pub loop-count-preserved : goal.loop-count-preserved
loop-count-preserved c =
    let none : Bor (List ℕ) = record { ref_ptr = (0, 0); now = [] } in (
      c.loop-count.invariant.0 ∙ way_on c.args.from.now c.args.to.now c.loop-count.count none none (omega arith) (omega arith) (sym c.eq.ensures ∙ c.if-eq.true),
      omega arith,
      omega arith,
    )

pub returns-else-eq-clause-way : goal.returns-else-eq-clause-way
returns-else-eq-clause-way c =
    let none : Bor (List ℕ) = record { ref_ptr = (0, 0); now = [] } in
    c.loop-count.invariant.0 ∙ way_apart c.args.from.now c.args.to.now c.loop-count.count none none (omega arith) (omega arith) (sym c.eq.ensures ∙ c.if-eq.false)

pub returns-else-count-to-clause-way : goal.returns-else-count-to-clause-way
returns-else-count-to-clause-way c = c.loop-count.invariant.0 ∙ way_to_end c.args.from.now c.args.to.now c.loop-count.count (omega arith)

pub returns-after-loop-count-clause-way : goal.returns-after-loop-count-clause-way
returns-after-loop-count-clause-way c = c.loop-count.invariant.0 ∙ way_from_end c.args.from.now c.args.to.now c.loop-count.count (omega arith)
