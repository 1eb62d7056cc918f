use Rattle.std.proofs.Common.{ap, sym, subst, ◌∙◌}
use Rattle.comp_entity.specs.Entity.{IsComponent}
use Rattle.comp_entity.specs.Views.{entity_tree}
use Rattle.comp_view.specs.Kinds.{IsTreeOf}
use Rattle.comp_view.specs.Kinds as kind
use Rattle.comp_parts.proofs.SettledLaws.{component_listed}
use Rattle.comp_parts.proofs.shape.sides_at.Goals as goal

pub entity_at-requires : goal.entity_at-requires
entity_at-requires c =
    let s = c.requires.0 in
    let lie = c.requires.1 in
    record {
      there = lie.stands.there;
      is_one = subst (IsTreeOf kind.AnyEntity) (sym lie.stands.tree_is) (c.shown_entities_can_lie_in_memory.ensures (IsComponent s.imports s.exports) lie.shown (lie.imports_have_fields, lie.exports_have_fields));
    }

pub returns : goal.returns
returns c = λ s stands.
    component_listed c.in-Component.component s (ap entity_tree (sym c.in-Component.is) ∙ c.in_ok-component.ensures.entity (IsComponent s.imports s.exports) stands)
