use Rattle.warg_course.proofs.TakenLaws.{refused, proved}
use Rattle.warg_course.proofs.laws.proving_replies_are_taken.Goals as goal

pub returns-clause-refused : goal.returns-clause-refused
returns-clause-refused g c = refused g.L.Link.Steps (record { once = c.brought_pages_are_taken.ensures.one; first = c.exchanges_come_in_turn.ensures.checkpoint; more = c.exchanges_come_in_turn.ensures.page }) (record { asked = c.proving_exchanges_are_taken.ensures.asked; taken = c.proving_exchanges_are_taken.ensures.never_refused; behind = c.refusals_are_of_what_came.ensures.behind })

pub returns-clause-proved : goal.returns-clause-proved
returns-clause-proved g c = proved g.L.Link.Steps (record { once = c.brought_pages_are_taken.ensures.one; first = c.exchanges_come_in_turn.ensures.checkpoint; more = c.exchanges_come_in_turn.ensures.page })
