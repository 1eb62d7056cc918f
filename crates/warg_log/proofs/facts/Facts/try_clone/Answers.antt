use Rattle.warg_log.proofs.Copying.{known_alike}
use Rattle.warg_log.proofs.facts.Facts.try_clone.Goals as goal

pub returns : goal.returns
returns c = known_alike (record { keys = c.in_ok-keys.keys; releases = c.in_ok-releases.releases; namespaces = c.in_ok-namespaces.namespaces }) c.args.self.now c.in_ok-keys.ensures c.in_ok-releases.ensures c.in_ok-namespaces.ensures
