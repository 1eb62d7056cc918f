use Rattle.warg_update.proofs.RunLaws.{run-asked, run-taken}
use Rattle.warg_update.proofs.laws.proving_exchanges_are_taken.Goals as goal

pub returns-clause-asked : goal.returns-clause-asked
returns-clause-asked c accepts a start before x after logs checkpoint step request p stands asks =
    let laws = c.brought_pages_are_taken.ensures in
    run-asked (record { once = laws.one; lawful = laws.lawful; taken = laws.never_refused }) accepts a start before x after logs checkpoint step request p stands asks

pub returns-clause-never_refused : goal.returns-clause-never_refused
returns-clause-never_refused c accepts a start before x after logs checkpoint step request said e p stands asks bad =
    let laws = c.brought_pages_are_taken.ensures in
    run-taken (record { once = laws.one; lawful = laws.lawful; taken = laws.never_refused }) accepts a start before x after logs checkpoint step request said e p stands asks bad
