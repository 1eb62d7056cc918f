use Rattle.comp_space.specs.StandingLaws.{passed_on}
use Rattle.comp_space.proofs.ValueLaws.{borrow_fails, borrow_found}
use Rattle.comp_space.proofs.values.borrow_of.Goals as goal

pub returns-in_err-resource-clause-found : goal.returns-in_err-resource-clause-found
returns-in_err-resource-clause-found c = λ s shows.
    passed_on _ c.from_residual.result c.in_err-resource.field-0.0 _ c.from_residual.ensures.1 (borrow_fails s c.args.index c.in_err-resource.field-0.0 (c.in_err-resource.ensures s shows))

pub returns-clause-found : goal.returns-clause-found
returns-clause-found c = λ s shows.
    borrow_found s c.args.index c.in_ok-resource.resource c.in_ok-resource.named c.leaf.new.table c.in_ok-number.number (c.in_ok-resource.ensures s shows) c.in_ok-number.ensures.number
