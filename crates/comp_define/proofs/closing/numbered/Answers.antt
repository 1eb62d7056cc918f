use Rattle.std.proofs.Common.{subst, sym}
use Rattle.comp_define.specs.Sides.{ShowsSides}
use Rattle.comp_define.proofs.closing.numbered.Goals as goal

pub returns-then-is_settled-clause-found : goal.returns-then-is_settled-clause-found
returns-then-is_settled-clause-found c = λ s shows.
    subst (ShowsSides c.args.table.now c.args.sides) (sym (c.is_settled.ensures s (c.in_ok-order.ensures s shows) c.if-is_settled.true)) shows

pub returns-clause-found : goal.returns-clause-found
returns-clause-found c = λ s shows. c.with_numbers.ensures.found s (c.in_ok-order.ensures s shows) shows
