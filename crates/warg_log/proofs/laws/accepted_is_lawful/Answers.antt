use Rattle.warg_log.proofs.LawfulLaws.{breach_weaker, lawful_weaker}
use Rattle.warg_log.proofs.laws.accepted_is_lawful.Goals as goal

pub returns-clause-record : goal.returns-clause-record
returns-clause-record c = breach_weaker

pub returns-clause-list : goal.returns-clause-list
returns-clause-list c = lawful_weaker
