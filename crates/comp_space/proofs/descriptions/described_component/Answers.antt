use Rattle.std.proofs.Common.{ap, sym, ◌∙◌, map}
use Rattle.comp_table.specs.Trees.{tree_at, trees_of}
use Rattle.comp_space.proofs.DescriptionLaws.{component_found}
use Rattle.comp_space.proofs.descriptions.described_component.Goals as goal

pub returns-clause-found : goal.returns-clause-found
returns-clause-found c = λ e stands. rw c.plainly.ensures
    (component_found c.args.table.now c.node.new.table c.args.standing.number c.in_ok-number.number c.head.result.now (trees_of (map (tree_at c.args.table.now) c.in_ok-parts.parts.items)) e c.args.standing.named c.head.ensures stands
    (ap (λ xs. trees_of (map (tree_at c.args.table.now) xs)) c.in_ok-parts.ensures ∙ c.parts.ensures.parts) c.in_ok-number.ensures.number
    (sym c.is_component_type.ensures ∙ c.if-not-is_component_type.false))
