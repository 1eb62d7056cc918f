use Rattle.std.proofs.Common.{ap, ◌∙◌}
use Rattle.comp_entity.specs.Entity.{IsComponent}
use Rattle.comp_table.specs.Facts.{capped, tree_size}
use Rattle.comp_parts.proofs.shape.node_count.Goals as goal

pub returns : goal.returns
returns c = λ s stands.
    c.size.ensures ∙ ap (λ t. capped (tree_size t)) stands.tree_is ∙ ap capped (c.trees_are_as_large.ensures (IsComponent s.imports s.exports))
