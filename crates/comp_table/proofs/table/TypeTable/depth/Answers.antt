use Rattle.std.proofs.Common.{rules, ◌<◌, ◌∙◌, ap, sym, subst, List, length}
use Rattle.comp_table.specs.declared.table.Node.{Node}
use Rattle.comp_table.specs.Facts.{capped, tree_depth}
use Rattle.comp_table.specs.Trees.{PlainTree, tree_at}
use Rattle.comp_table.proofs.TableLaws.{within, number_measured}
use Rattle.comp_table.proofs.table.TypeTable.depth.Goals as goal

pub index-requires : goal.index-requires
index-requires c =
    let h = within c.self.inside.nodes.items c.args.number (subst (λ (ts : List PlainTree). c.args.number < length ts) (sym c.self.view_is) c.requires) in
    search (rules, h)

pub returns : goal.returns
returns c =
    let lt = subst (λ (ts : List PlainTree). c.args.number < length ts) (sym c.self.view_is) c.requires in
    let is = number_measured c.self.inside.nodes.items c.self.inside.numbers c.self.invariant c.args.number lt c.index.result.now in
    ap (λ (n : Node). n.depth) c.index.ensures ∙ is.depth_is ∙ ap (λ (ts : List PlainTree). capped (tree_depth (tree_at ts c.args.number))) c.self.view_is
