use Rattle.warg_fetch.specs.StoredLaws.{tells_then, loaded_lawful}
use Rattle.warg_fetch.proofs.start.start_of.Goals as goal

pub returns-in_err-stored-clause-kept : goal.returns-in_err-stored-clause-kept
returns-in_err-stored-clause-kept g c = tells_then _ _ _ c.operator_of.ensures.kept c.load_checkpoint.ensures.kept

pub returns-clause-kept : goal.returns-clause-kept
returns-clause-kept g c = tells_then _ _ _ c.operator_of.ensures.kept c.load_checkpoint.ensures.kept

pub returns-clause-good : goal.returns-clause-good
returns-clause-good g c = λ accepts own are. record {
  operator = record { sound = c.in_ok-operator.ensures.sound; lawful = loaded_lawful accepts _ _ _ own c.in_ok-operator.ensures.found };
  packages = are;
}

pub returns-clause-sound : goal.returns-clause-sound
returns-clause-sound g c = λ are. record { operator = c.in_ok-operator.ensures.sound; packages = are }
