use Rattle.std.proofs.Common.{◌<◌, length, arith}
use Rattle.compose_check.proofs.InstanceLaws.{written}
use Rattle.compose_check.proofs.instances.add_source.Goals as goal

pub returns : goal.returns
returns c =
    let there : c.args.wire.target < length c.args.lists.now.items = omega arith in
    written c.args.lists.now.items c.args.wire.target c.push.new.self c.args.wire.source c.index_mut-list.result.now there c.index_mut-list.ensures.value c.in_ok-push.ensures.items
