use Rattle.std.proofs.Common.{◌<◌, All, length, map, sym, ap, subst, ◌∙◌, arith}
use Rattle.std.proofs.lemmas.List.{length-map, get_or-map}
use Rattle.comp_format.specs.Items.{item_tree}
use Rattle.comp_format.specs.Fits.{FitsItem}
use Rattle.test_components.proofs.encoder.written_again.Goals as goal

-- each item that was read has a written form
pub push_item-requires : goal.push_item-requires
push_item-requires c =
    let items = c.deref-item-items.result.now in
    let i = c.loop-item.item-index in
    let item = c.item-item.result in
    let fit : All FitsItem (map item_tree items) = rw c.deref-item-items.ensures.value (c.what_is_read_can_be_written.ensures c.args.bytes.now _ c.in_ok-items.ensures.found) in
    let within : i < length (map item_tree items) = omega (arith, length-map items item_tree, c.loop-item-test.true) in
    subst FitsItem (get_or-map item_tree items i item (item_tree item) c.loop-item-test.true ∙ ap item_tree (sym c.item-item.is)) (fit i (item_tree item) within)
