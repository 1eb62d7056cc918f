use Rattle.std.proofs.Common.{map}
use Rattle.comp_format.specs.Items.{item_tree}
use Rattle.test_bundle.proofs.ContentLaws.{one_more}
use Rattle.test_bundle.proofs.bundles.add.Goals as goal

pub returns : goal.returns
returns c =
    let items = map item_tree c.in_ok-_items._items.items in
    one_more c.args.contents.now c.insert.new.self c.in_ok-name.name c.args.bytes c.in_ok-_old.ensures.updates.0
    (items, c.in_ok-_items.ensures.found) c.requires
