use Rattle.warg_course.proofs.FrontLaws.{proves-front}
use Rattle.warg_course.proofs.GivenLaws.{given-rest, given-first}
use Rattle.warg_course.proofs.laws.given_replies_are_followed.Goals as goal

pub returns-clause-front : goal.returns-clause-front
returns-clause-front g c = proves-front g.L.Link.Steps (record { once = c.brought_pages_are_taken.ensures.one; first = c.exchanges_come_in_turn.ensures.checkpoint; more = c.exchanges_come_in_turn.ensures.page })

pub returns-clause-rest : goal.returns-clause-rest
returns-clause-rest g c = given-rest g.L.Link.Steps

pub returns-clause-first : goal.returns-clause-first
returns-clause-first g c = given-first g.L.Link.Steps
