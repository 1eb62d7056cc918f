use Rattle.comp_define.proofs.ScopeLaws.{shows_one_core_type}
use Rattle.comp_define.proofs.core_types.add_known.Goals as goal

pub returns-clause-added : goal.returns-clause-added
returns-clause-added c = λ table s t shows stands. shows_one_core_type table c.args.space.now s c.push.new.self c.args.known t shows stands c.in_ok-push.ensures.items
