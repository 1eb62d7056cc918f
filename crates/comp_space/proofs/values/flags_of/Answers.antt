use Rattle.comp_space.proofs.ValueLaws.{flags_found}
use Rattle.comp_space.proofs.values.flags_of.Goals as goal

pub returns-clause-found : goal.returns-clause-found
returns-clause-found c = λ s. flags_found s c.args.labels.now c.labelled.new.table c.in_ok-number.number c.in_ok-number.ensures.number
