use Rattle.warg_course.proofs.AskLaws.{proves-one}
use Rattle.warg_course.proofs.laws.proved_logs_are_one.Goals as goal

pub returns : goal.returns
returns c = proves-one c.brought_pages_are_taken.ensures.one
