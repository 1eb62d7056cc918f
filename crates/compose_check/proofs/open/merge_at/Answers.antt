use Rattle.std.proofs.Common.{◌<◌, length, arith}
use Rattle.comp_entity.specs.Views.{entity_tree}
use Rattle.compose_check.proofs.MergeLaws.{merges_at}
use Rattle.compose_check.proofs.open.merge_at.Goals as goal

pub returns-clause-merges : goal.returns-clause-merges
returns-clause-merges c = λ l at.
    let there : c.args.place < length c.args.list.now.items = omega arith in
    let e = c.in_ok-merge.ensures in
    merges_at c.args.list.now.items c.args.place c.index_mut-import.result.now c.merge.new.self l (entity_tree c.args.entity.now) there c.index_mut-import.ensures.value at e.name e.merged e.calls e.agree
