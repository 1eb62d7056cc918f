use Rattle.std.proofs.Common.{sym, ap, ◌∙◌}
use Rattle.comp_entity.specs.Names.{entity_by}
use Rattle.comp_entity.specs.Views.{entity_tree}
use Rattle.comp_table.specs.Changes.{tree_by}
use Rattle.comp_view.specs.Kinds.{all_named}
use Rattle.comp_view.proofs.AgainLaws.{entity_same}
use Rattle.comp_view.proofs.view.entity_at.Goals as goal

pub returns-clause-entity : goal.returns-clause-entity
returns-clause-entity c = λ e stands. c.one_entity.ensures (entity_tree c.in_ok-entity.entity) (entity_by all_named 0 e)
    (sym (c.in_ok-entity.ensures 0) ∙ ap (tree_by all_named 0) stands.tree_is ∙ sym (c.changed_entities_have_changed_trees.ensures all_named 0 e))

pub returns-clause-again : goal.returns-clause-again
returns-clause-again c = λ x stands. c.one_entity.ensures (entity_tree c.in_ok-entity.entity) (entity_tree x)
    (sym (c.in_ok-entity.ensures 0) ∙ ap (tree_by all_named 0) stands.tree_is ∙ entity_same x 0)
