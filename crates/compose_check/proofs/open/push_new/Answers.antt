use Rattle.std.proofs.Common.{◌≡◌, arith, length}
use Rattle.comp_entity.specs.Views.{entity_tree}
use Rattle.compose_check.proofs.MergeLaws.{added}
use Rattle.compose_check.proofs.open.push_new.Goals as goal

pub returns-clause-merging : goal.returns-clause-merging
returns-clause-merging c =
    let e = c.in_ok-import.ensures in
    let last : c.len-place.result ≡ length c.args.merging.now.list.items = omega arith in
    (added c.args.merging.now (record { list = c.push.new.self; places = c.insert.new.self }) (c.args.name, entity_tree c.args.entity) c.in_ok-import.import c.in_ok-noted.noted c.len-place.result
    c.requires.merging c.requires.new c.in_ok-push.ensures.items (λ i. record { name = e.name i; entity = e.entity i; calls = e.calls i }) e.made c.in_ok-noted.ensures last c.in_ok-insert.ensures.updates).merging

pub returns-clause-takes : goal.returns-clause-takes
returns-clause-takes c =
    let e = c.in_ok-import.ensures in
    let last : c.len-place.result ≡ length c.args.merging.now.list.items = omega arith in
    (added c.args.merging.now (record { list = c.push.new.self; places = c.insert.new.self }) (c.args.name, entity_tree c.args.entity) c.in_ok-import.import c.in_ok-noted.noted c.len-place.result
    c.requires.merging c.requires.new c.in_ok-push.ensures.items (λ i. record { name = e.name i; entity = e.entity i; calls = e.calls i }) e.made c.in_ok-noted.ensures last c.in_ok-insert.ensures.updates).takes
