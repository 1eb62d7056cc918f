use Rattle.std.proofs.Common.{rules, ◌<◌, ◌∙◌, ap, sym, map, length, true}
use Rattle.comp_entity.specs.Views.{func_tree, value_tree}
use Rattle.comp_entity.specs.declared.entity.ComponentShape.{ComponentShape, roll-ComponentShape}
use Rattle.comp_entity.specs.declared.entity.InstanceShape.{InstanceShape, roll-InstanceShape}
use Rattle.comp_table.specs.Changes.{scopes_in, tree_by, trees_by}
use Rattle.comp_table.specs.Plain.{around}
use Rattle.comp_table.specs.Rows.{entity_plain, entry_plain}
use Rattle.comp_table.specs.Trees.{below_root, more, none, root, tree, tree_at, trees_of}
use Rattle.comp_table.specs.declared.head.Head.TheVariants as head
use Rattle.comp_view.specs.Kinds.{all_named}
use Rattle.comp_view.specs.Kinds as kind
use Rattle.comp_view.specs.RowLaws.{entity_func, entity_module, export_rows, import_rows, instance_rows, type_func, type_value}
use Rattle.comp_view.proofs.NamedLaws.{by_parts, func_same, module_same, trees_named, value_same}
use Rattle.comp_view.proofs.PartLaws.{below_is, built_end, built_step, entry_below, held_together, opened, whole}
use Rattle.comp_view.proofs.entities.+entities.Goals as goal

pub build_component-returns : goal.build_component-returns
build_component-returns t c =
    let component : ComponentShape = roll-ComponentShape (record { imports = c.in_ok-imports.imports; exports = c.in_ok-exports.exports }) in
    λ depth. ap (trees_by all_named depth) c.two_parts-first.ensures.parts
    ∙ (λ i. more (c.in_ok-imports.ensures depth i) (more (c.in_ok-exports.ensures depth i) none))
    ∙ (λ i. more (tree head.Entries (sym (import_rows component) i)) (more (tree head.Entries (sym (export_rows component) i)) none))

pub build_entity-only_part-requires-clause-one : goal.build_entity-only_part-requires-clause-one
build_entity-only_part-requires-clause-one t c =
    (kind.FuncType, below_is kind.AnyEntity (tree_at c.args.table.now c.args.number) head.Func c.requires.is_one (sym c.in-Func.is ∙ c.head.ensures))

pub build_entity-returns-in_ok-func-in-Func : goal.build_entity-returns-in_ok-func-in-Func
build_entity-returns-in_ok-func-in-Func t c = λ depth.
    ap (tree_by all_named depth) (sym (whole (tree_at c.args.table.now c.args.number) head.Func (more (tree_at c.args.table.now c.only_part.result) none) (sym c.in-Func.is ∙ c.head.ensures) (sym c.only_part.ensures.part)))
    ∙ (λ i. around head.Func (tree_by all_named depth (c.in_ok-func-in-Func.ensures i)))
    ∙ ap (around head.Func) (func_same depth (func_tree c.in_ok-func-in-Func.func)) ∙ sym (entity_func c.in_ok-func-in-Func.func)

pub build_entity-returns-in_ok-module-in-Module : goal.build_entity-returns-in_ok-module-in-Module
build_entity-returns-in_ok-module-in-Module t c = λ depth.
    ap (tree_by all_named depth) c.in_ok-module-in-Module.ensures ∙ module_same depth c.in_ok-module-in-Module.module ∙ sym (entity_module c.in_ok-module-in-Module.module)

pub build_entries-loop-part-preserved : goal.build_entries-loop-part-preserved
build_entries-loop-part-preserved t c =
    let lt : c.loop-part.part-index < length c.args.parts.now = search rules in
    λ depth. built_step entry_plain (λ part. tree_by all_named depth (tree_at c.args.table.now part)) c.args.parts.now c.loop-part.part-index 0 c.loop-part.entries.items c.push.new.self.items c.in_ok-entry.entry lt (c.loop-part.invariant depth) (sym (c.in_ok-entry.ensures depth)) c.in_ok-push.ensures.items

pub build_entries-returns : goal.build_entries-returns
build_entries-returns t c = λ depth.
    built_end entry_plain (λ part. tree_by all_named depth (tree_at c.args.table.now part)) c.args.parts.now c.loop-part.entries.items (search (rules, c.loop-part.invariant depth))

pub build_entry-only_part-requires-clause-one : goal.build_entry-only_part-requires-clause-one
build_entry-only_part-requires-clause-one t c =
    let x = tree_at c.args.table.now c.args.number in (kind.AnyEntity, (entry_below (root x) (below_root x) (opened kind.AnEntry x c.requires.is_one)).1)

pub build_entry-returns : goal.build_entry-returns
build_entry-returns t c = λ depth.
    let x = tree_at c.args.table.now c.args.number in
    by_parts all_named depth x
    ∙ (λ i. tree (c.name_at.ensures depth i) (trees_by all_named (scopes_in (root x) depth) (c.only_part.ensures.part i)))
    ∙ (λ i. around (head.Entry true c.name_at.result.now) (c.in_ok-entity.ensures (scopes_in (root x) depth) i))
    ∙ (λ i. around (head.Entry true (sym c.in_ok-name.ensures i)) (entity_plain c.in_ok-entity.entity))

pub build_instance-returns : goal.build_instance-returns
build_instance-returns t c =
    let instance : InstanceShape = roll-InstanceShape (record { exports = c.in_ok-exports.exports }) in
    λ depth. trees_named all_named depth (tree_at c.args.table.now) c.args.parts.now ∙ ap trees_of (sym (c.in_ok-exports.ensures depth)) ∙ sym (instance_rows instance)

pub build_side-returns : goal.build_side-returns
build_side-returns t c = λ depth.
    let x = tree_at c.args.table.now c.args.number in
    let below = held_together kind.AnEntry (root x) (below_root x) (opened kind.AllEntries x c.requires.is_one) in
    ap (tree_by all_named depth) (sym (whole x head.Entries (trees_of (map (tree_at c.args.table.now) c.all_parts.result.now)) below.0 c.all_parts.ensures.parts))
    ∙ ap (tree head.Entries) (trees_named all_named depth (tree_at c.args.table.now) c.all_parts.result.now)
    ∙ ap (λ xs. tree head.Entries (trees_of xs)) (sym (c.in_ok-entries.ensures depth))

pub build_type-returns-in_ok-func-in-FuncType : goal.build_type-returns-in_ok-func-in-FuncType
build_type-returns-in_ok-func-in-FuncType t c = λ depth.
    ap (tree_by all_named depth) c.in_ok-func-in-FuncType.ensures ∙ func_same depth (func_tree c.in_ok-func-in-FuncType.func) ∙ sym (type_func c.in_ok-func-in-FuncType.func)

pub build_type-returns-in_ok-value-in_default : goal.build_type-returns-in_ok-value-in_default
build_type-returns-in_ok-value-in_default t c = λ depth.
    ap (tree_by all_named depth) c.in_ok-value-in_default.ensures ∙ value_same depth (value_tree c.in_ok-value-in_default.value) ∙ sym (type_value c.in_ok-value-in_default.value)
