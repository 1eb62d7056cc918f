use Rattle.warg_course.proofs.AskLaws.{asks-once}
use Rattle.warg_course.proofs.laws.exchanges_determine_requests.Goals as goal

pub returns : goal.returns
returns c = asks-once c.brought_pages_are_taken.ensures.one
