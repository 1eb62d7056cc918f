use Rattle.std.proofs.Common.{ap, sym, subst, ◌∙◌}
use Rattle.comp_instance.specs.Instances.{is_component, sides_in}
use Rattle.comp_instance.proofs.InstanceLaws.{component_there, instance_is, no_component_there}
use Rattle.comp_table.specs.Plain.{plain_entity}
use Rattle.comp_table.specs.StandLaws.{stands_kept}
use Rattle.comp_table.specs.Trees.{Stands}
use Rattle.comp_instance.proofs.instances.sides_of.Goals as goal

pub returns-then-not-is_component-clause-found : goal.returns-then-not-is_component-clause-found
returns-then-not-is_component-clause-found c = λ e s.
    no_component_there c.args.table.now c.args.component e s (ap is_component (sym c.head.ensures) ∙ sym c.is_component.ensures ∙ c.if-not-is_component.true)

pub halves-halves-requires : goal.halves-halves-requires
halves-halves-requires c =
    let e = c.requires in
    let there = component_there c.args.table.now c.args.component e.0 e.1 (ap is_component (sym c.head.ensures) ∙ sym c.is_component.ensures ∙ c.if-not-is_component.false) in
    (there.0, there.1, subst (λ x. Stands c.args.table.now c.args.component (plain_entity x)) there.2 e.1)

pub as_instance-requires : goal.as_instance-requires
as_instance-requires c =
    let e = c.requires in
    let there = component_there c.args.table.now c.args.component e.0 e.1 (ap is_component (sym c.head.ensures) ∙ sym c.is_component.ensures ∙ c.if-not-is_component.false) in
    (c.halves-halves.ensures there.0 there.1 (subst (λ x. Stands c.args.table.now c.args.component (plain_entity x)) there.2 e.1)).imports.there

pub as_instance-requires-2 : goal.as_instance-requires-2
as_instance-requires-2 c =
    let e = c.requires in
    let there = component_there c.args.table.now c.args.component e.0 e.1 (ap is_component (sym c.head.ensures) ∙ sym c.is_component.ensures ∙ c.if-not-is_component.false) in
    let halves = c.halves-halves.ensures there.0 there.1 (subst (λ x. Stands c.args.table.now c.args.component (plain_entity x)) there.2 e.1) in
    (stands_kept _ _ c.as_instance.ensures.extends _ _ halves.exports).there

pub returns-clause-found : goal.returns-clause-found
returns-clause-found c = λ e s.
    let there = component_there c.args.table.now c.args.component e s (ap is_component (sym c.head.ensures) ∙ sym c.is_component.ensures ∙ c.if-not-is_component.false) in
    let halves = c.halves-halves.ensures there.0 there.1 (subst (λ x. Stands c.args.table.now c.args.component (plain_entity x)) there.2 s) in
    record {
      value = (there.0, there.1);
      given_is = ap sides_in there.2;
      shown = record {
        imports = stands_kept _ _ c.as_instance-2.ensures.extends _ _ (instance_is c.args.table.now c.as_instance.new.table _ _ there.0 halves.imports c.in_ok-imports.ensures.number);
        exports = instance_is c.as_instance.new.table c.as_instance-2.new.table _ _ there.1 (stands_kept _ _ c.as_instance.ensures.extends _ _ halves.exports) c.in_ok-exports.ensures.number;
      };
    }
