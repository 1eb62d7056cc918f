use Rattle.std.proofs.Common.{rules, ap, sym, ◌∙◌, ◌≡◌, subst, map, ℕ, List, length}
use Rattle.comp_table.specs.declared.table.Node.{Node}
use Rattle.comp_table.specs.Changes.{bare_tree}
use Rattle.comp_table.specs.Table.{AreBare, IsBareOf, trees}
use Rattle.comp_table.specs.Trees.{IsBelow, node_tree, tree_at}
use Rattle.comp_table.specs.StandLaws.{number_of_same, same_stands, node_is}
use Rattle.comp_table.proofs.TableLaws.{nodes_below}
use Rattle.comp_table.proofs.BareLaws.{node_kept, bare_there}
use Rattle.comp_table.proofs.table.add.Goals as goal

pub place_node-requires-clause-below : goal.place_node-requires-clause-below
place_node-requires-clause-below c =
    let all = node_kept c.args.nodes.now.items c.place_bare.new.nodes.items c.args.parts c.in_ok-bare.ensures.extends c.requires.below in
    nodes_below c.place_bare.new.nodes.items c.args.parts all.all_there

pub place_node-requires-clause-bare : goal.place_node-requires-clause-bare
place_node-requires-clause-bare c =
    let all = node_kept c.args.nodes.now.items c.place_bare.new.nodes.items c.args.parts c.in_ok-bare.ensures.extends c.requires.below in
    let same = node_is (trees c.place_bare.new.nodes.items) c.args.head c.args.parts (map (tree_at (trees c.args.nodes.now.items)) c.args.parts) all in
    bare_there (trees c.place_bare.new.nodes.items) (node_tree (trees c.place_bare.new.nodes.items) c.args.head c.args.parts) c.in_ok-bare.bare
    (same_stands (trees c.place_bare.new.nodes.items) c.in_ok-bare.bare _ _
    (ap (λ ps. bare_tree (node_tree (trees c.args.nodes.now.items) c.args.head ps)) c.as_slice-2.ensures ∙ ap bare_tree (sym same)) c.in_ok-bare.ensures.number)

pub returns-clause-number : goal.returns-clause-number
returns-clause-number c =
    let all = node_kept c.args.nodes.now.items c.place_bare.new.nodes.items c.args.parts c.in_ok-bare.ensures.extends c.requires.below in
    let same = node_is (trees c.place_bare.new.nodes.items) c.args.head c.args.parts (map (tree_at (trees c.args.nodes.now.items)) c.args.parts) all in
    number_of_same c.place_node.result (trees c.place_node.new.nodes.items) _ _ same c.place_node.ensures.number

pub is_bare-requires-clause-bare : goal.is_bare-requires-clause-bare
is_bare-requires-clause-bare c = subst AreBare (sym c.deref.ensures.value) c.requires.table.bare

pub is_bare-requires-clause-below : goal.is_bare-requires-clause-below
is_bare-requires-clause-below c =
    subst (IsBelow (length c.deref.result.now)) (sym c.as_slice.ensures)
    (subst (λ (ns : List Node). IsBelow (length ns) c.args.parts) (sym c.deref.ensures.value) c.requires.below)

pub add_measured-requires-clause-bare : goal.add_measured-requires-clause-bare
add_measured-requires-clause-bare c =
    let at : length c.args.nodes.now.items ≡ c.len-own.result = search rules in
    let bare = subst (λ (ps : List ℕ). IsBareOf (trees c.deref.result.now) (node_tree (trees c.deref.result.now) c.args.head ps) (length c.deref.result.now)) c.as_slice.ensures (c.is_bare.ensures c.if-is_bare.true) in
    subst (IsBareOf (trees c.args.nodes.now.items) (node_tree (trees c.args.nodes.now.items) c.args.head c.args.parts)) at
    (subst (λ (ns : List Node). IsBareOf (trees ns) (node_tree (trees ns) c.args.head c.args.parts) (length ns)) c.deref.ensures.value bare)
