use Rattle.std.proofs.Common.{rules, ◌≡◌, ◌<◌, ◌∙◌, ap, sym, subst, ℕ, List, map, length}
use Rattle.comp_table.specs.declared.table.Node.{Node}
use Rattle.comp_table.specs.Table.{trees}
use Rattle.comp_table.specs.Trees.{PlainTree, IsBelow, tree_at, below_root, trees_of}
use Rattle.comp_table.proofs.TableLaws.{within, number_is, number_below}
use Rattle.comp_table.proofs.table.TypeTable.parts.Goals as goal

pub index-requires : goal.index-requires
index-requires c =
    let h = within c.self.inside.nodes.items c.args.number (subst (λ (ts : List PlainTree). c.args.number < length ts) (sym c.self.view_is) c.requires) in
    search (rules, h)

pub returns-clause-parts : goal.returns-clause-parts
returns-clause-parts c =
    let lt = subst (λ (ts : List PlainTree). c.args.number < length ts) (sym c.self.view_is) c.requires in
    let is = number_is c.self.inside.nodes.items c.self.inside.numbers c.self.invariant c.args.number lt c.index.result.now in
    let parts : c.as_slice.result.now ≡ _ = c.as_slice.ensures ∙ ap (λ (n : Node). n.parts) c.index.ensures in
    subst (λ (ts : List PlainTree). trees_of (map (tree_at ts) c.as_slice.result.now) ≡ below_root (tree_at ts c.args.number)) c.self.view_is
    (ap (λ (ps : List ℕ). trees_of (map (tree_at (trees c.self.inside.nodes.items)) ps)) parts ∙ sym (ap below_root is))

pub returns-clause-below : goal.returns-clause-below
returns-clause-below c =
    let lt = subst (λ (ts : List PlainTree). c.args.number < length ts) (sym c.self.view_is) c.requires in
    let below = number_below c.self.inside.nodes.items c.self.inside.numbers c.self.invariant c.args.number lt c.index.result.now in
    let parts : c.as_slice.result.now ≡ _ = c.as_slice.ensures ∙ ap (λ (n : Node). n.parts) c.index.ensures in
    subst (IsBelow c.args.number) (sym parts) below
