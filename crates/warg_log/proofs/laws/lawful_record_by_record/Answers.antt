use Rattle.warg_log.proofs.FollowsLaws.{lawful-none}
use Rattle.warg_log.proofs.LawfulLaws.{lawful-more}
use Rattle.warg_log.proofs.laws.lawful_record_by_record.Goals as goal

pub returns-clause-none : goal.returns-clause-none
returns-clause-none c = lawful-none

pub returns-clause-more : goal.returns-clause-more
returns-clause-more c = lawful-more
