use Rattle.comp_space.specs.StandingLaws.{passed_on}
use Rattle.comp_space.proofs.ValueLaws.{variant_fails, variant_found}
use Rattle.comp_space.proofs.values.variant_of.Goals as goal

pub returns-in_err-numbers-clause-found : goal.returns-in_err-numbers-clause-found
returns-in_err-numbers-clause-found c = λ s shows.
    passed_on _ c.from_residual.result c.in_err-numbers.field-0.0 _ c.from_residual.ensures.1 (variant_fails s c.args.cases.now c.in_err-numbers.field-0.0 (c.in_err-numbers.ensures.found s shows))

pub returns-clause-found : goal.returns-clause-found
returns-clause-found c = λ s shows.
    variant_found s c.args.cases.now c.cases_of.new.table c.node.new.table c.in_ok-numbers.field-0 c.in_ok-number.number (c.in_ok-numbers.ensures.found s shows) c.in_ok-number.ensures.number
