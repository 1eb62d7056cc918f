use Rattle.std.proofs.Common.{rules, ap, ◌∙◌, ◌≡◌, sym, subst, length, map, List, arith}
use Rattle.comp_table.specs.declared.table.Node.{Node}
use Rattle.comp_table.specs.Table.{AreBare, trees}
use Rattle.comp_table.specs.Trees.{AllStand, node_tree, tree_at}
use Rattle.comp_table.specs.Changes.{bare_tree}
use Rattle.comp_table.specs.StandLaws.{number_of_same}
use Rattle.comp_table.proofs.TableLaws.{nodes_below, trees_length}
use Rattle.comp_table.proofs.BareLaws.{node_bare, bare_itself}
use Rattle.comp_table.proofs.table.place_bare.Goals as goal

pub place_node-requires-clause-below : goal.place_node-requires-clause-below
place_node-requires-clause-below c =
    let all = subst (λ (ns : List Node). AllStand (trees ns) c.in_ok-bare_parts.bare_parts.items (map (λ p. bare_tree (tree_at (trees ns) p)) c.args.parts.now)) c.deref.ensures.value c.in_ok-bare_parts.ensures in
    rw c.from_vec.ensures (nodes_below c.args.nodes.now.items c.in_ok-bare_parts.bare_parts.items all.all_there)

pub place_node-requires-clause-bare : goal.place_node-requires-clause-bare
place_node-requires-clause-bare c =
    let all = subst (λ (ns : List Node). AllStand (trees ns) c.in_ok-bare_parts.bare_parts.items (map (λ p. bare_tree (tree_at (trees ns) p)) c.args.parts.now)) c.deref.ensures.value c.in_ok-bare_parts.ensures in
    let at : c.len-own.result ≡ length c.args.nodes.now.items = search rules in
    let count = trees_length c.args.nodes.now.items in
    bare_itself (trees c.args.nodes.now.items) _ (node_tree (trees c.args.nodes.now.items) c.args.head.now c.args.parts.now) c.len-own.result (omega (arith, at, count))
    (ap (node_tree (trees c.args.nodes.now.items) c.in_ok-bare.bare) c.from_vec.ensures
    ∙ node_bare (trees c.args.nodes.now.items) c.args.head.now c.in_ok-bare.bare c.args.parts.now c.in_ok-bare_parts.bare_parts.items c.in_ok-bare.ensures all)

pub returns-clause-number : goal.returns-clause-number
returns-clause-number c =
    let all = subst (λ (ns : List Node). AllStand (trees ns) c.in_ok-bare_parts.bare_parts.items (map (λ p. bare_tree (tree_at (trees ns) p)) c.args.parts.now)) c.deref.ensures.value c.in_ok-bare_parts.ensures in
    number_of_same c.place_node.result (trees c.place_node.new.nodes.items) _ _
    (ap (node_tree (trees c.args.nodes.now.items) c.in_ok-bare.bare) c.from_vec.ensures
    ∙ node_bare (trees c.args.nodes.now.items) c.args.head.now c.in_ok-bare.bare c.args.parts.now c.in_ok-bare_parts.bare_parts.items c.in_ok-bare.ensures all)
    c.place_node.ensures.number

pub bare_parts-requires-clause-bare : goal.bare_parts-requires-clause-bare
bare_parts-requires-clause-bare c = subst AreBare (sym c.deref.ensures.value) c.requires.table.bare
