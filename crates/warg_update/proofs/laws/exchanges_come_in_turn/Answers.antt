use Rattle.warg_update.proofs.PagesLaws.{opens-first, opens-push, proves-all, proves-continued}
use Rattle.warg_update.proofs.laws.exchanges_come_in_turn.Goals as goal

pub returns : goal.returns
returns c = record { checkpoint = opens-first; page = opens-push; inclusion = proves-all; consistency = proves-continued }
