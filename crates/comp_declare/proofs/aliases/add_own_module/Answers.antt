use Rattle.comp_declare.proofs.AliasLaws.{shows_own_module}
use Rattle.comp_declare.proofs.aliases.add_own_module.Goals as goal

pub returns-clause-added : goal.returns-clause-added
returns-clause-added c = λ table s shows stands. shows_own_module table c.args.space.now s shows c.push.new.self c.args.number stands c.in_ok-push.ensures.items
