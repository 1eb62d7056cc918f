use Rattle.std.proofs.Common.{length, sym}
use Rattle.comp_table.specs.Table.{trees}
use Rattle.comp_table.specs.Trees.{node_tree}
use Rattle.comp_table.proofs.TableLaws.{trees_length}
use Rattle.comp_table.proofs.BareLaws.{node_bare, bare_itself}
use Rattle.comp_table.proofs.table.is_bare.Goals as goal

pub returns-then-is_bare_head : goal.returns-then-is_bare_head
returns-then-is_bare_head c =
    let ts = trees c.args.nodes.now in
    let t = node_tree ts c.args.head.now c.args.parts.now in
    λ e. bare_itself ts t t (length c.args.nodes.now) (sym (trees_length c.args.nodes.now))
    (node_bare ts c.args.head.now c.args.head.now c.args.parts.now c.args.parts.now (c.is_bare_head.ensures c.if-is_bare_head.true) (c.are_bare.ensures e))
