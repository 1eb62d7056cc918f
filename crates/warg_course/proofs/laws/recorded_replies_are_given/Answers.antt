use Rattle.warg_course.proofs.RecordedLaws.{recorded-given, recorded-answered}
use Rattle.warg_course.proofs.laws.recorded_replies_are_given.Goals as goal

pub returns-clause-given : goal.returns-clause-given
returns-clause-given c = recorded-given

pub returns-clause-answered : goal.returns-clause-answered
returns-clause-answered c = recorded-answered
