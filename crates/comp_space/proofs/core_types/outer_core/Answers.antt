use Rattle.std.proofs.Common.{rules, arith, subst, sym}
use Rattle.warg_values.specs.Answers.{Gives}
use Rattle.comp_space.specs.Faults.{fault_of}
use Rattle.comp_space.specs.CoreLaws.{out_here, out_past}
use Rattle.comp_space.proofs.core_types.outer_core.Goals as goal

pub returns-then-outer-around : goal.returns-then-outer-around
returns-then-outer-around c =
    let h = c.in-Some.ensures in
    subst (Gives fault_of (λ t. t) c.core_type_at-then-outer-around.result) (sym (out_here (λ s. s.now) c.args.own.now c.args.around.now c.args.count c.in-Some.outer c.args.index _ (omega (arith, h)) (search rules))) c.core_type_at-then-outer-around.ensures

pub returns-else-outer-around : goal.returns-else-outer-around
returns-else-outer-around c =
    let h = c.in-Some.ensures in
    out_past (λ s. s.now) c.args.own.now c.args.around.now c.args.count c.in-Some.outer c.args.index (omega (arith, h)) (search rules)
