use Rattle.compose_naming.proofs.FoundLaws.{bits_are_had}
use Rattle.compose_naming.proofs.PassingLaws.{bits_are_found}
use Rattle.compose_naming.proofs.laws.naming_bits_are_decided.Goals as goal

pub returns-clause-had : goal.returns-clause-had
returns-clause-had c = bits_are_had

pub returns-clause-found : goal.returns-clause-found
returns-clause-found c = bits_are_found
