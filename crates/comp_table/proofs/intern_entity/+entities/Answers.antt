use Rattle.std.proofs.Common.{rules, ap, sym, subst, ◌∙◌, map, true}
use Rattle.std.proofs.lemmas.Result.{on_ok_weaker}
use Rattle.comp_entity.specs.Views.{entity_tree, type_tree, entries_of, named_entities}
use Rattle.comp_table.specs.Shown.{AreShown, IsShown, IsShownType, SidesAreShown}
use Rattle.comp_table.specs.declared.head.Head.TheVariants as head
use Rattle.comp_table.specs.Plain.{around, around_two}
use Rattle.comp_table.specs.Trees.{tree, trees_of}
use Rattle.comp_table.specs.Rows.{entity_plain, type_plain, entry_plain, entries_plain}
use Rattle.comp_table.specs.StandLaws.{grows_not, grows_on, stands_kept, all_none, all_step, number_of_same, same_stands, node_is}
use Rattle.comp_table.proofs.EntityLaws.{instance_rows, import_rows, export_rows, entity_instance, entity_component, type_instance, type_component, component_is, instance_is, tree_of_instance, tree_of_component, tree_of_type, type_tree_of_instance, type_tree_of_component, shown_step, shown_end, on_ok_always}
use Rattle.comp_table.proofs.intern_entity.+entities.Goals as goal

pub intern_entries-loop-entry-init : goal.intern_entries-loop-entry-init
intern_entries-loop-entry-init t c = record { extends = grows_not _; numbers = rw c.new-numbers.ensures.items (all_none _); shown = tt }

pub intern_entries-loop-entry-preserved : goal.intern_entries-loop-entry-preserved
intern_entries-loop-entry-preserved t c =
    let grown = grows_on _ _ _ c.intern_entity.ensures.extends c.around.ensures.extends in
    record {
      extends = grows_on _ _ _ c.loop-entry.invariant.extends grown;
      numbers = all_step entry_plain c.args.entries.now c.loop-entry.table c.around.new.table c.loop-entry.entry-index c.entry-item.result c.loop-entry.numbers.items c.push.new.self.items c.in_ok-number.number (search rules) grown c.loop-entry.invariant.numbers
          (same_stands c.around.new.table c.in_ok-number.number _ _ ((λ i. around (head.Entry true (c.in_ok-name.ensures i)) (c.in_ok-part.ensures.number.tree_is i)) ∙ ap entry_plain c.entry-item.is) c.in_ok-number.ensures.number) c.in_ok-push.ensures.items;
      shown = shown_step c.args.entries.now c.loop-entry.entry-index c.entry-item.result (search rules) c.entry-item.is c.loop-entry.invariant.shown c.in_ok-part.ensures.shown;
    }

pub intern_instance-returns-clause-number : goal.intern_instance-returns-clause-number
intern_instance-returns-clause-number t c =
    number_of_same c.node.result c.node.new.table _ _
    (node_is c.intern_entries.new.table c.args.head c.in_ok-parts.parts.items _ c.in_ok-parts.ensures.numbers
    ∙ ap (λ xs. tree c.args.head (trees_of (map entry_plain xs))) c.deref.ensures.value
    ∙ ap (tree c.args.head) (sym (instance_rows c.args.instance.now)))
    c.node.ensures.number

pub intern_side-returns-clause-number : goal.intern_side-returns-clause-number
intern_side-returns-clause-number t c =
    number_of_same c.node.result c.node.new.table _ _
    (node_is c.intern_entries.new.table head.Entries c.in_ok-parts.parts.items _ c.in_ok-parts.ensures.numbers)
    c.node.ensures.number

pub intern_component-returns-clause-number : goal.intern_component-returns-clause-number
intern_component-returns-clause-number t c =
    let first = stands_kept _ _ c.in_ok-second.ensures.extends _ _ c.in_ok-first.ensures.number in
    let second = c.in_ok-second.ensures.number in
    number_of_same c.around_two.result c.around_two.new.table _ _
    ((λ i. around_two c.args.head (first.tree_is i) (second.tree_is i))
    ∙ (λ i. around_two c.args.head (entries_plain (c.deref.ensures.value i)) (entries_plain (c.deref-2.ensures.value i)))
    ∙ (λ i. around_two c.args.head (tree head.Entries (sym (import_rows c.args.component.now) i)) (tree head.Entries (sym (export_rows c.args.component.now) i))))
    c.around_two.ensures.number

pub intern_entity-returns-in-Instance-clause-number : goal.intern_entity-returns-in-Instance-clause-number
intern_entity-returns-in-Instance-clause-number t c =
    number_of_same c.intern_instance.result c.intern_instance.new.table _ _ (sym (entity_instance c.in-Instance.instance) ∙ ap entity_plain (sym c.in-Instance.is)) c.intern_instance.ensures.number

pub intern_entity-returns-in-Component-clause-number : goal.intern_entity-returns-in-Component-clause-number
intern_entity-returns-in-Component-clause-number t c =
    number_of_same c.intern_component.result c.intern_component.new.table _ _ (sym (entity_component c.in-Component.component) ∙ ap entity_plain (sym c.in-Component.is)) c.intern_component.ensures.number

pub intern_type-returns-in-Instance-clause-number : goal.intern_type-returns-in-Instance-clause-number
intern_type-returns-in-Instance-clause-number t c =
    number_of_same c.intern_instance.result c.intern_instance.new.table _ _ (sym (type_instance c.in-Instance.instance) ∙ ap type_plain (sym c.in-Instance.is)) c.intern_instance.ensures.number

pub intern_type-returns-in-Component-clause-number : goal.intern_type-returns-in-Component-clause-number
intern_type-returns-in-Component-clause-number t c =
    number_of_same c.intern_component.result c.intern_component.new.table _ _ (sym (type_component c.in-Component.component) ∙ ap type_plain (sym c.in-Component.is)) c.intern_component.ensures.number

pub intern_entries-returns-clause-shown : goal.intern_entries-returns-clause-shown
intern_entries-returns-clause-shown t c = shown_end c.args.entries.now (search (rules, c.loop-entry.invariant.shown))

pub intern_side-returns-clause-shown : goal.intern_side-returns-clause-shown
intern_side-returns-clause-shown t c = on_ok_always c.node.result c.in_ok-parts.ensures.shown

pub intern_instance-returns-clause-shown : goal.intern_instance-returns-clause-shown
intern_instance-returns-clause-shown t c =
    on_ok_always c.node.result (subst AreShown (ap (λ xs. entries_of (named_entities xs)) c.deref.ensures.value ∙ sym (instance_is c.args.instance.now)) c.in_ok-parts.ensures.shown)

pub intern_component-returns-clause-shown : goal.intern_component-returns-clause-shown
intern_component-returns-clause-shown t c =
    on_ok_always c.around_two.result (subst SidesAreShown (sym (component_is c.args.component.now)) (
      subst AreShown (ap (λ xs. entries_of (named_entities xs)) c.deref.ensures.value) c.in_ok-first.ensures.shown,
      subst AreShown (ap (λ xs. entries_of (named_entities xs)) c.deref-2.ensures.value) c.in_ok-second.ensures.shown,
    ))

pub intern_entity-returns-in-Instance-clause-shown : goal.intern_entity-returns-in-Instance-clause-shown
intern_entity-returns-in-Instance-clause-shown t c =
    on_ok_weaker c.intern_instance.result (λ s. subst IsShown (sym (tree_of_instance c.in-Instance.instance) ∙ ap entity_tree (sym c.in-Instance.is)) s) c.intern_instance.ensures.shown

pub intern_entity-returns-in-Component-clause-shown : goal.intern_entity-returns-in-Component-clause-shown
intern_entity-returns-in-Component-clause-shown t c =
    on_ok_weaker c.intern_component.result (λ s. subst IsShown (sym (tree_of_component c.in-Component.component) ∙ ap entity_tree (sym c.in-Component.is)) s) c.intern_component.ensures.shown

pub intern_entity-returns-in-Ty-clause-shown : goal.intern_entity-returns-in-Ty-clause-shown
intern_entity-returns-in-Ty-clause-shown t c =
    on_ok_weaker c.intern_type.result (λ s. subst IsShown (sym (tree_of_type c.in-Ty.ty) ∙ ap entity_tree (sym c.in-Ty.is)) s) c.intern_type.ensures.shown

pub intern_type-returns-in-Instance-clause-shown : goal.intern_type-returns-in-Instance-clause-shown
intern_type-returns-in-Instance-clause-shown t c =
    on_ok_weaker c.intern_instance.result (λ s. subst IsShownType (sym (type_tree_of_instance c.in-Instance.instance) ∙ ap type_tree (sym c.in-Instance.is)) s) c.intern_instance.ensures.shown

pub intern_type-returns-in-Component-clause-shown : goal.intern_type-returns-in-Component-clause-shown
intern_type-returns-in-Component-clause-shown t c =
    on_ok_weaker c.intern_component.result (λ s. subst IsShownType (sym (type_tree_of_component c.in-Component.component) ∙ ap type_tree (sym c.in-Component.is)) s) c.intern_component.ensures.shown
