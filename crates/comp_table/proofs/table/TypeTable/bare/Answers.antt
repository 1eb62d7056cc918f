use Rattle.std.proofs.Common.{rules, ◌<◌, sym, subst, List, length}
use Rattle.comp_table.specs.declared.table.Node.{Node}
use Rattle.comp_table.specs.Changes.{bare_tree}
use Rattle.comp_table.specs.Table.{trees}
use Rattle.comp_table.specs.Trees.{PlainTree, Stands, tree_at}
use Rattle.comp_table.proofs.TableLaws.{within, number_bare}
use Rattle.comp_table.proofs.BareLaws.{bare_stands}
use Rattle.comp_table.proofs.table.TypeTable.bare.Goals as goal

pub index-requires : goal.index-requires
index-requires c =
    let h = within c.self.inside.nodes.items c.args.number (subst (λ (ts : List PlainTree). c.args.number < length ts) (sym c.self.view_is) c.requires) in
    search (rules, h)

pub returns : goal.returns
returns c =
    let lt = subst (λ (ts : List PlainTree). c.args.number < length ts) (sym c.self.view_is) c.requires in
    let is = number_bare c.self.inside.nodes.items c.self.inside.numbers c.self.invariant c.args.number lt c.index.result.now in
    let stands = bare_stands c.self.inside.nodes.items c.args.number _ (within c.self.inside.nodes.items c.args.number lt) is in
    subst (λ (ts : List PlainTree). Stands ts c.index.result.now.bare (bare_tree (tree_at ts c.args.number))) c.self.view_is
    (subst (λ (n : Node). Stands (trees c.self.inside.nodes.items) n.bare (bare_tree (tree_at (trees c.self.inside.nodes.items) c.args.number))) (sym c.index.ensures) stands)
