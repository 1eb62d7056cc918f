use Rattle.comp_space.specs.StandingLaws.{passed_on}
use Rattle.comp_space.proofs.ValueLaws.{option_fails, option_found}
use Rattle.comp_space.proofs.values.option_of.Goals as goal

pub returns-in_err-part-clause-found : goal.returns-in_err-part-clause-found
returns-in_err-part-clause-found c = λ s shows.
    passed_on _ c.from_residual.result c.in_err-part.field-0.0 _ c.from_residual.ensures.1 (option_fails s c.args.item.now c.in_err-part.field-0.0 (c.in_err-part.ensures.found s shows))

pub returns-clause-found : goal.returns-clause-found
returns-clause-found c = λ s shows.
    option_found s c.args.item.now c.part_of.new.table c.around.new.table c.in_ok-part.part c.in_ok-number.number (c.in_ok-part.ensures.found s shows) c.in_ok-number.ensures.number
