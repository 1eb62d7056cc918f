use Rattle.std.proofs.Common.{Some, bytes_eq, subst}
use Rattle.indexmap.specs.IndexMap.{Updates}
use Rattle.warg_learn.proofs.group.put_info.Goals as goal

pub returns : goal.returns
returns c = subst (λ n. Updates bytes_eq c.args.found.now c.insert.new.self n (Some c.args.info)) c.in_ok-name.ensures c.in_ok-insert.ensures.updates
