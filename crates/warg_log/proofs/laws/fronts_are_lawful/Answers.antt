use Rattle.std.proofs.Common.{refl}
use Rattle.warg_log.proofs.LawfulLaws.{lawful_front}
use Rattle.warg_log.proofs.laws.fronts_are_lawful.Goals as goal

pub returns-clause-front : goal.returns-clause-front
returns-clause-front c = lawful_front

pub returns-clause-next : goal.returns-clause-next
returns-clause-next c = λ kind accepts log more s lawful. lawful log more s refl
