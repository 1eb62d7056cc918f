use Rattle.warg_course.proofs.AskLaws.{asks-over}
use Rattle.warg_course.proofs.FrontLaws.{proves-asked}
use Rattle.warg_course.proofs.laws.proving_exchanges_are_asked.Goals as goal

pub returns-clause-asked : goal.returns-clause-asked
returns-clause-asked c = proves-asked (record { once = c.brought_pages_are_taken.ensures.one; first = c.exchanges_come_in_turn.ensures.checkpoint; more = c.exchanges_come_in_turn.ensures.page })

pub returns-clause-over : goal.returns-clause-over
returns-clause-over c = asks-over c.brought_pages_are_taken.ensures.one
