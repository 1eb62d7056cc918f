use Rattle.std.proofs.Common.{map}
use Rattle.comp_format.specs.Items.{item_tree}
use Rattle.comp_parts.proofs.PartLaws.{read_again}
use Rattle.comp_parts.proofs.parts.items_again.Goals as goal

pub returns-in-Ok : goal.returns-in-Ok
returns-in-Ok c = λ parts has.
    let as_items = c.parts_are_items.ensures c.args.bytes.now parts has in
    read_again (map item_tree c.in-Ok.items.items) as_items.0 parts (c.in-Ok.ensures.only as_items.0 as_items.1) as_items.2
