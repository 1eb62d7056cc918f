use Rattle.warg_page.proofs.TakenLaws.{brings-once, brings-lawful, page-taken}
use Rattle.warg_page.proofs.laws.brought_pages_are_taken.Goals as goal

pub returns-clause-one : goal.returns-clause-one
returns-clause-one c before after other page b other_way = brings-once c.growth_is_taken.ensures.one before after other page b other_way

pub returns-clause-lawful : goal.returns-clause-lawful
returns-clause-lawful c accepts before after page b lawful = brings-lawful c.fronts_are_lawful.ensures.front accepts before after page b lawful

pub returns-clause-never_refused : goal.returns-clause-never_refused
returns-clause-never_refused c accepts before after page e b lawful bad =
    page-taken c.growth_is_taken.ensures.one c.growth_is_taken.ensures.apart c.growth_is_taken.ensures.never_refused c.fronts_are_lawful.ensures.front e accepts before after page b lawful bad
