use Rattle.comp_space.proofs.ValueLaws.{enum_found}
use Rattle.comp_space.proofs.values.enum_of.Goals as goal

pub returns-clause-found : goal.returns-clause-found
returns-clause-found c = λ s. enum_found s c.args.labels.now c.labelled.new.table c.in_ok-number.number c.in_ok-number.ensures.number
