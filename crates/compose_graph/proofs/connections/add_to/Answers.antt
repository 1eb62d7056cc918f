use Rattle.std.proofs.Common.{sym, subst}
use Rattle.compose_graph.specs.Found.{AreFound}
use Rattle.compose_graph.proofs.ConnectionLaws.{found_added, found_again}
use Rattle.compose_graph.proofs.connections.add_to.Goals as goal

pub returns-in-Ok-clause-found : goal.returns-in-Ok-clause-found
returns-in-Ok-clause-found c =
    subst (λ cs. AreFound cs c.insert.new.self) (sym c.in-Ok.ensures.items)
    (found_added c.args.list.now.items c.args.connection c.requires.free c.args.sources.now c.insert.new.self c.in_ok-insert.ensures.updates c.requires.found)

pub returns-in-Err-clause-found : goal.returns-in-Err-clause-found
returns-in-Err-clause-found c =
    subst (λ cs. AreFound cs c.remove-source.new.self) (sym c.in-Err.ensures.items)
    (found_again c.args.list.now.items c.args.connection c.requires.free c.args.sources.now c.insert.new.self c.remove-source.new.self c.in_ok-insert.ensures.updates c.remove-source.ensures.updates c.requires.found)
