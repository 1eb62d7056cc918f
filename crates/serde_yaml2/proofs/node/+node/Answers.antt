use Rattle.std.proofs.Common.{◌≡◌, ◌+◌, length, refl, sym, ap, ◌∙◌, subst}
use Rattle.std.proofs.lemmas.Option.{slice_get_read}
use Rattle.std.proofs.lemmas.Result.{err_from_is_err_and}
use Rattle.yaml_small.specs.Trees.{depth}
use Rattle.yaml_text.specs.Written.{Written, new_line, tree_of, written}
use Rattle.serde_yaml2.specs.Nodes.{node_written}
use Rattle.serde_yaml2.specs.Output.{Output, output_of, Writes, below}
use Rattle.serde_yaml2.specs.PieceLaws.{puts_first, puts_front}
use Rattle.serde_yaml2.specs.ListLaws as lists
use Rattle.serde_yaml2.specs.MapLaws as maps
use Rattle.serde_yaml2.proofs.Nodes.{array_written, hash_written}
use Rattle.serde_yaml2.proofs.node.+node.Goals as goal

pub write_node-returns-in-Array : goal.write_node-returns-in-Array
write_node-returns-in-Array t c =
    let same = array_written c.args.node.now c.in-Array.items c.as_slice.result.now c.in-Array.is c.as_slice.ensures in
    subst (λ (w : Written). Writes c.write_items.result (output_of c.args.ser.now) w (output_of c.write_items.new.ser)) (sym same) c.write_items.ensures

pub write_node-returns-in-Hash : goal.write_node-returns-in-Hash
write_node-returns-in-Hash t c =
    let same = hash_written c.args.node.now c.in-Hash.pairs c.as_slice-in-Hash.result.now c.in-Hash.is c.as_slice-in-Hash.ensures in
    subst (λ (w : Written). Writes c.write_pairs.result (output_of c.args.ser.now) w (output_of c.write_pairs.new.ser)) (sym same) c.write_pairs.ensures

pub write_items-returns-in_err-write_item : goal.write_items-returns-in_err-write_item
write_items-returns-in_err-write_item t c =
    let p = err_from_is_err_and c.from_residual-in_err-write_item.result c.from_residual-in_err-write_item.ensures.1 in
    rw (p.1, p.2)
    (lists.each_refused node_written c.in_err-write_item.field-0.0 (output_of c.args.ser.now) (output_of c.loop-item.ser) (output_of c.write_item.new.ser) c.args.items.now c.loop-item.item-index c.item-item.result
    c.loop-item-test.true (sym c.item-item.is) c.loop-item.invariant.done c.in_err-write_item.ensures)

pub write_items-loop-item-preserved : goal.write_items-loop-item-preserved
write_items-loop-item-preserved t c =
    let items = c.args.items.now in
    let index = c.loop-item.item-index in
    let before = output_of c.args.ser.now in
    let middle = output_of c.loop-item.ser in
    let level : middle.level ≡ before.level = ap (λ (o : Output). o.level) c.loop-item.invariant.done in
    record {
      done = lists.each_done node_written before middle (output_of c.write_item.new.ser) items index c.item-item.result c.loop-item-test.true (sym c.item-item.is) c.loop-item.invariant.done c.in_ok-write_item.ensures.0;
      fits = lists.each_fits node_written before.level items index c.item-item.result c.loop-item-test.true (sym c.item-item.is) c.loop-item.invariant.fits (rw level at c.in_ok-write_item.ensures.1);
    }

pub write_nested-returns-in_err-write_below : goal.write_nested-returns-in_err-write_below
write_nested-returns-in_err-write_below t c =
    let p = err_from_is_err_and c.from_residual.result c.from_residual.ensures.1 in
    let level = c.args.ser.now.level.depth in
    let w = node_written c.args.node.now in
    rw (p.1, p.2) (puts_first c.in_err-write_below.field-0.0 (output_of c.args.ser.now) (output_of c.write_below.new.ser) (below level w) (new_line level) (depth (tree_of w) + 1) c.in_err-write_below.ensures)

pub write_on_new_line-returns-in_err-new_line : goal.write_on_new_line-returns-in_err-new_line
write_on_new_line-returns-in_err-new_line t c =
    let p = err_from_is_err_and c.from_residual.result c.from_residual.ensures.1 in
    let level = c.args.ser.now.level.depth in
    let w = node_written c.args.node.now in
    rw (p.1, p.2) (puts_front c.in_err-new_line.field-0.0 (output_of c.args.ser.now) (output_of c.new_line.new.self) (new_line level) (written level w) (depth (tree_of w)) c.in_err-new_line.ensures)

pub write_pairs-returns-in_err-push_key : goal.write_pairs-returns-in_err-push_key
write_pairs-returns-in_err-push_key t c =
    let p = err_from_is_err_and c.from_residual-in_err-push_key.result c.from_residual-in_err-push_key.ensures.1 in
    let pairs = c.args.pairs.now in
    let index = c.loop-key.key-index in
    let here = slice_get_read pairs (length pairs) index c.loop-key-item.result refl c.loop-key-test.true c.loop-key-item.is in
    rw (p.1, p.2)
    (maps.each_key_refused node_written c.in_err-push_key.field-0.0 (output_of c.args.ser.now) (output_of c.loop-key.ser) (output_of c.push_key.new.self) pairs index c.loop-key-item.result here c.loop-key.invariant.done
    (rw c.as_str.ensures at c.in_err-push_key.ensures))

pub write_pairs-returns-in_err-write_nested : goal.write_pairs-returns-in_err-write_nested
write_pairs-returns-in_err-write_nested t c =
    let p = err_from_is_err_and c.from_residual-in_err-write_nested.result c.from_residual-in_err-write_nested.ensures.1 in
    let pairs = c.args.pairs.now in
    let index = c.loop-key.key-index in
    let here = slice_get_read pairs (length pairs) index c.loop-key-item.result refl c.loop-key-test.true c.loop-key-item.is in
    rw (p.1, p.2)
    (maps.each_value_refused node_written c.in_err-write_nested.field-0.0 (output_of c.args.ser.now) (output_of c.loop-key.ser) (output_of c.push_key.new.self) (output_of c.write_nested.new.ser) pairs index c.loop-key-item.result here c.loop-key.invariant.done
    (rw c.as_str.ensures at c.in_ok-push_key.ensures) c.in_err-write_nested.ensures)

pub write_pairs-loop-key-preserved : goal.write_pairs-loop-key-preserved
write_pairs-loop-key-preserved t c =
    let pairs = c.args.pairs.now in
    let index = c.loop-key.key-index in
    let before = output_of c.args.ser.now in
    let middle = output_of c.loop-key.ser in
    let here = slice_get_read pairs (length pairs) index c.loop-key-item.result refl c.loop-key-test.true c.loop-key-item.is in
    let key = rw c.as_str.ensures at c.in_ok-push_key.ensures in
    let level : (output_of c.push_key.new.self).level ≡ before.level = ap (λ (o : Output). o.level) c.in_ok-push_key.ensures ∙ ap (λ (o : Output). o.level) c.loop-key.invariant.done in
    record {
      done = maps.each_done node_written before middle (output_of c.push_key.new.self) (output_of c.write_nested.new.ser) pairs index c.loop-key-item.result here c.loop-key.invariant.done key c.in_ok-write_nested.ensures.0;
      fits = maps.each_fits node_written before.level pairs index c.loop-key-item.result here c.loop-key.invariant.fits (rw level at c.in_ok-write_nested.ensures.1);
    }
