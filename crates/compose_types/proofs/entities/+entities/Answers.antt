use Rattle.std.proofs.Common.{rules, sym, ◌∙◌}
use Rattle.comp_entity.specs.declared.entity.Entity.{the_lemmas}
use Rattle.compose_types.specs.Scopes.{inner_kind, item_of, scopes}
use Rattle.compose_types.proofs.NoteLaws.{entry_keeps, instance_keeps}
use Rattle.compose_types.proofs.EntityLaws.{component_form, component_is, entries_end, entries_step, exports_keep, sides_keep, tree_component, tree_instance, type_form}
use Rattle.comp_format.specs.Views.{component_type_tree, instance_type_tree}
use Rattle.comp_entity.specs.Views.{entity_tree, entries_of, named_entities}
use Rattle.compose_types.proofs.EntityLargestLaws.{component_added_refused, component_ref_refused, entry_named_refused, entry_refused, exports_refused, func_ref_refused, imports_refused, instance_added_refused, instance_ref_refused, instance_refused, module_added_refused, module_refused, type_component_added_refused, type_component_refused, type_func_refused, type_instance_added_refused, type_instance_refused, type_of_entity_refused, type_resource_refused, type_value_refused}
use Rattle.compose_types.proofs.RefusalLaws.{told}
use Rattle.compose_types.proofs.EntityPossibleLaws.{component_ref_possible, entry_possible, exports_possible, func_ref_possible, imports_possible, instance_possible, instance_ref_possible, type_component_possible, type_func_possible, type_instance_possible, type_possible, type_resource_possible, type_value_possible}
use Rattle.compose_types.proofs.InnerLaws.{component_ends, entity_stays, entry_stays, exports_taken, exports_taken_behind, imports_taken, instance_ends, takes_still}
use Rattle.compose_types.specs.declared.body.Side.TheVariants as side
use Rattle.compose_types.proofs.entities.+entities.Goals as goal

pub write_entries-entity_ref-requires : goal.write_entries-entity_ref-requires
write_entries-entity_ref-requires t c =
    let i = c.loop-entry.entry-index in
    let item = c.entry-item.result in (
      search (rules, the_lemmas),
      (
        (entry_keeps c.args.entries.now i item c.requires.form c.loop-entry-test.true c.entry-item.is).1,
        entry_possible (item_of c.args.side) c.args.entries.now i item (scopes c.loop-entry.state) _ c.loop-entry-test.true c.entry-item.is c.loop-entry.invariant.0 c.requires.possible,
      ),
    )

pub write_entries-name_entity-requires-clause-form : goal.write_entries-name_entity-requires-clause-form
write_entries-name_entity-requires-clause-form t c = (entry_keeps c.args.entries.now c.loop-entry.entry-index c.entry-item.result c.requires.form c.loop-entry-test.true c.entry-item.is).1

pub write_entries-name_entity-requires-clause-name : goal.write_entries-name_entity-requires-clause-name
write_entries-name_entity-requires-clause-name t c = (entry_keeps c.args.entries.now c.loop-entry.entry-index c.entry-item.result c.requires.form c.loop-entry-test.true c.entry-item.is).0

pub write_entries-name_entity-requires-clause-kind : goal.write_entries-name_entity-requires-clause-kind
write_entries-name_entity-requires-clause-kind t c =
    takes_still c.args.side (inner_kind (scopes c.args.state.now)) (inner_kind (scopes c.entity_ref.new.state))
    (sym c.loop-entry.invariant.1 ∙ entity_stays (entity_tree c.entry-item.result.1) (scopes c.loop-entry.state) (scopes c.entity_ref.new.state) c.in_ok-ty.ty c.in_ok-ty.ensures.written) c.requires.kind

pub write_entries-loop-entry-preserved : goal.write_entries-loop-entry-preserved
write_entries-loop-entry-preserved t c = (
  entries_step (item_of c.args.side) c.args.entries.now c.loop-entry.entry-index c.entry-item.result (scopes c.loop-entry.state) (scopes c.entity_ref.new.state) (scopes c.name_entity.new.state) c.in_ok-ty.ty c.loop-entry-test.true c.entry-item.is c.in_ok-ty.ensures.written c.in_ok-name_entity.ensures.named
      ∙ c.loop-entry.invariant.0,
  sym (entry_stays (item_of c.args.side) c.entry-item.result.0 (entity_tree c.entry-item.result.1) c.in_ok-ty.ty (scopes c.loop-entry.state) (scopes c.entity_ref.new.state) (scopes c.name_entity.new.state) c.in_ok-ty.ensures.written c.in_ok-name_entity.ensures.named)
      ∙ c.loop-entry.invariant.1,
)

pub write_entries-returns-clause-written : goal.write_entries-returns-clause-written
write_entries-returns-clause-written t c = entries_end (item_of c.args.side) c.args.entries.now c.loop-entry.entry-index (scopes c.loop-entry.state) _ c.loop-entry-test.false c.loop-entry.invariant.0

pub component_of-returns-in_err-write_entries-clause-among : goal.component_of-returns-in_err-write_entries-clause-among
component_of-returns-in_err-write_entries-clause-among t c = λ n e.
    rw (component_is c.args.component.now)
    (imports_refused n (entries_of (named_entities c.args.component.now.imports.items)) (entries_of (named_entities c.args.component.now.exports.items)) (scopes c.args.state.now) (scopes c.open.new.self) c.in_ok-open.ensures.opened
    (rw c.deref.ensures.value at (c.in_err-write_entries.ensures.among n (told c.from_residual-in_err-write_entries.result _ n c.from_residual-in_err-write_entries.ensures.1 e))))

pub component_of-returns-in_err-write_entries-2-clause-among : goal.component_of-returns-in_err-write_entries-2-clause-among
component_of-returns-in_err-write_entries-2-clause-among t c = λ n e.
    rw (component_is c.args.component.now)
    (exports_refused n (entries_of (named_entities c.args.component.now.imports.items)) (entries_of (named_entities c.args.component.now.exports.items)) (scopes c.args.state.now) (scopes c.open.new.self) c.in_ok-open.ensures.opened (scopes c.write_entries.new.state) (rw c.deref.ensures.value at c.in_ok-write_entries.ensures.written)
    (rw c.deref-2.ensures.value at (c.in_err-write_entries-2.ensures.among n (told c.from_residual-in_err-write_entries-2.result _ n c.from_residual-in_err-write_entries-2.ensures.1 e))))

pub entity_ref-returns-in_err-index-in-Func-clause-among : goal.entity_ref-returns-in_err-index-in-Func-clause-among
entity_ref-returns-in_err-index-in-Func-clause-among t c =
    λ n e. func_ref_refused n c.args.entity.now (scopes c.args.state.now) c.in-Func.func c.in-Func.is (c.in_err-index-in-Func.ensures.among n (told c.from_residual.result _ n c.from_residual.ensures.1 e))

pub entity_ref-returns-in_err-ty-in-Instance-clause-among : goal.entity_ref-returns-in_err-ty-in-Instance-clause-among
entity_ref-returns-in_err-ty-in-Instance-clause-among t c = λ n e.
    instance_ref_refused n c.args.entity.now (scopes c.args.state.now) c.in-Instance.instance c.in-Instance.is (rw c.deref.ensures.value at (c.in_err-ty-in-Instance.ensures.among n (told c.from_residual-in_err-ty-in-Instance.result _ n c.from_residual-in_err-ty-in-Instance.ensures.1 e)))

pub entity_ref-returns-in_err-index-in-Instance-clause-among : goal.entity_ref-returns-in_err-index-in-Instance-clause-among
entity_ref-returns-in_err-index-in-Instance-clause-among t c = λ n e.
    instance_added_refused n c.args.entity.now (scopes c.args.state.now) c.in-Instance.instance (scopes c.instance_type.new.state) (instance_type_tree c.in_ok-ty-in-Instance.ty) c.in-Instance.is (rw c.deref.ensures.value at c.in_ok-ty-in-Instance.ensures.written)
    (rw (tree_instance c.in_ok-ty-in-Instance.ty) at (c.in_err-index-in-Instance.ensures.among n (told c.from_residual-in_err-index-in-Instance.result _ n c.from_residual-in_err-index-in-Instance.ensures.1 e)))

pub entity_ref-returns-in_err-ty-in-Component-clause-among : goal.entity_ref-returns-in_err-ty-in-Component-clause-among
entity_ref-returns-in_err-ty-in-Component-clause-among t c = λ n e.
    component_ref_refused n c.args.entity.now (scopes c.args.state.now) c.in-Component.component c.in-Component.is (c.in_err-ty-in-Component.ensures.among n (told c.from_residual-in_err-ty-in-Component.result _ n c.from_residual-in_err-ty-in-Component.ensures.1 e))

pub entity_ref-returns-in_err-index-in-Component-clause-among : goal.entity_ref-returns-in_err-index-in-Component-clause-among
entity_ref-returns-in_err-index-in-Component-clause-among t c = λ n e.
    component_added_refused n c.args.entity.now (scopes c.args.state.now) c.in-Component.component (scopes c.component_of.new.state) (component_type_tree c.in_ok-ty-in-Component.ty) c.in-Component.is c.in_ok-ty-in-Component.ensures.written
    (rw (tree_component c.in_ok-ty-in-Component.ty) at (c.in_err-index-in-Component.ensures.among n (told c.from_residual-in_err-index-in-Component.result _ n c.from_residual-in_err-index-in-Component.ensures.1 e)))

pub entity_ref-returns-in_err-ty-in-Module-clause-among : goal.entity_ref-returns-in_err-ty-in-Module-clause-among
entity_ref-returns-in_err-ty-in-Module-clause-among t c =
    λ n e. module_refused n c.args.entity.now (scopes c.args.state.now) c.in-Module.«module» c.in-Module.is (c.in_err-ty-in-Module.ensures.too_large n (told c.from_residual-in_err-ty-in-Module.result _ n c.from_residual-in_err-ty-in-Module.ensures.1 e))

pub entity_ref-returns-in_err-index-in-Module-clause-among : goal.entity_ref-returns-in_err-index-in-Module-clause-among
entity_ref-returns-in_err-index-in-Module-clause-among t c = λ n e.
    module_added_refused n c.args.entity.now (scopes c.args.state.now) c.in-Module.«module» c.in-Module.is (rw c.in_ok-ty-in-Module.ensures.written at (c.in_err-index-in-Module.ensures.among n (told c.from_residual-in_err-index-in-Module.result _ n c.from_residual-in_err-index-in-Module.ensures.1 e)))

pub entity_ref-returns-in_err-ty-in-Ty-clause-among : goal.entity_ref-returns-in_err-ty-in-Ty-clause-among
entity_ref-returns-in_err-ty-in-Ty-clause-among t c =
    λ n e. type_of_entity_refused n c.args.entity.now (scopes c.args.state.now) c.in-Ty.ty c.in-Ty.is (c.in_err-ty-in-Ty.ensures.among n (told c.from_residual-in_err-ty-in-Ty.result _ n c.from_residual-in_err-ty-in-Ty.ensures.1 e))

pub instance_type-returns-in_err-write_entries-clause-among : goal.instance_type-returns-in_err-write_entries-clause-among
instance_type-returns-in_err-write_entries-clause-among t c = λ n e.
    instance_refused n (entries_of (named_entities c.args.exports.now)) c.args.width (scopes c.args.state.now) (scopes c.open.new.self) c.in_ok-open.ensures.opened (c.in_err-write_entries.ensures.among n (told c.from_residual-in_err-write_entries.result _ n c.from_residual-in_err-write_entries.ensures.1 e))

pub type_ref-returns-in_err-ty-in-Resource-clause-among : goal.type_ref-returns-in_err-ty-in-Resource-clause-among
type_ref-returns-in_err-ty-in-Resource-clause-among t c =
    λ n e. type_resource_refused n c.args.ty.now (scopes c.args.state.now) c.in-Resource.name c.in-Resource.is (c.in_err-ty-in-Resource.ensures.among n (told c.from_residual.result _ n c.from_residual.ensures.1 e))

pub type_ref-returns-in_err-index-in-Value-clause-among : goal.type_ref-returns-in_err-index-in-Value-clause-among
type_ref-returns-in_err-index-in-Value-clause-among t c =
    λ n e. type_value_refused n c.args.ty.now (scopes c.args.state.now) c.in-Value.ty c.in-Value.is (c.in_err-index-in-Value.ensures.among n (told c.from_residual-in_err-index-in-Value.result _ n c.from_residual-in_err-index-in-Value.ensures.1 e))

pub type_ref-returns-in_err-index-in-Func-clause-among : goal.type_ref-returns-in_err-index-in-Func-clause-among
type_ref-returns-in_err-index-in-Func-clause-among t c =
    λ n e. type_func_refused n c.args.ty.now (scopes c.args.state.now) c.in-Func.func c.in-Func.is (c.in_err-index-in-Func.ensures.among n (told c.from_residual-in_err-index-in-Func.result _ n c.from_residual-in_err-index-in-Func.ensures.1 e))

pub type_ref-returns-in_err-ty-in-Instance-clause-among : goal.type_ref-returns-in_err-ty-in-Instance-clause-among
type_ref-returns-in_err-ty-in-Instance-clause-among t c = λ n e.
    type_instance_refused n c.args.ty.now (scopes c.args.state.now) c.in-Instance.instance c.in-Instance.is (rw c.deref.ensures.value at (c.in_err-ty-in-Instance.ensures.among n (told c.from_residual-in_err-ty-in-Instance.result _ n c.from_residual-in_err-ty-in-Instance.ensures.1 e)))

pub type_ref-returns-in_err-index-in-Instance-clause-among : goal.type_ref-returns-in_err-index-in-Instance-clause-among
type_ref-returns-in_err-index-in-Instance-clause-among t c = λ n e.
    type_instance_added_refused n c.args.ty.now (scopes c.args.state.now) c.in-Instance.instance (scopes c.instance_type.new.state) (instance_type_tree c.in_ok-ty-in-Instance.ty) c.in-Instance.is (rw c.deref.ensures.value at c.in_ok-ty-in-Instance.ensures.written)
    (rw (tree_instance c.in_ok-ty-in-Instance.ty) at (c.in_err-index-in-Instance.ensures.among n (told c.from_residual-in_err-index-in-Instance.result _ n c.from_residual-in_err-index-in-Instance.ensures.1 e)))

pub type_ref-returns-in_err-ty-in-Component-clause-among : goal.type_ref-returns-in_err-ty-in-Component-clause-among
type_ref-returns-in_err-ty-in-Component-clause-among t c = λ n e.
    type_component_refused n c.args.ty.now (scopes c.args.state.now) c.in-Component.component c.in-Component.is (c.in_err-ty-in-Component.ensures.among n (told c.from_residual-in_err-ty-in-Component.result _ n c.from_residual-in_err-ty-in-Component.ensures.1 e))

pub type_ref-returns-in_err-index-in-Component-clause-among : goal.type_ref-returns-in_err-index-in-Component-clause-among
type_ref-returns-in_err-index-in-Component-clause-among t c = λ n e.
    type_component_added_refused n c.args.ty.now (scopes c.args.state.now) c.in-Component.component (scopes c.component_of.new.state) (component_type_tree c.in_ok-ty-in-Component.ty) c.in-Component.is c.in_ok-ty-in-Component.ensures.written
    (rw (tree_component c.in_ok-ty-in-Component.ty) at (c.in_err-index-in-Component.ensures.among n (told c.from_residual-in_err-index-in-Component.result _ n c.from_residual-in_err-index-in-Component.ensures.1 e)))

pub write_entries-returns-in_err-ty-clause-among : goal.write_entries-returns-in_err-ty-clause-among
write_entries-returns-in_err-ty-clause-among t c = λ n e.
    entry_refused n (item_of c.args.side) c.args.entries.now c.loop-entry.entry-index c.entry-item.result (scopes c.loop-entry.state) _ c.loop-entry-test.true c.entry-item.is c.loop-entry.invariant.0
    (c.in_err-ty.ensures.among n (told c.from_residual.result _ n c.from_residual.ensures.1 e))

pub write_entries-returns-in_err-name_entity-clause-among : goal.write_entries-returns-in_err-name_entity-clause-among
write_entries-returns-in_err-name_entity-clause-among t c = λ n e.
    entry_named_refused n (item_of c.args.side) c.args.entries.now c.loop-entry.entry-index c.entry-item.result (scopes c.loop-entry.state) _ c.loop-entry-test.true c.entry-item.is c.loop-entry.invariant.0 (scopes c.entity_ref.new.state) c.in_ok-ty.ty c.in_ok-ty.ensures.written
    (c.in_err-name_entity.ensures.among n (told c.from_residual-in_err-name_entity.result _ n c.from_residual-in_err-name_entity.ensures.1 e))

pub entity_ref-func_index-requires-clause-possible : goal.entity_ref-func_index-requires-clause-possible
entity_ref-func_index-requires-clause-possible t c = func_ref_possible c.args.entity.now (scopes c.args.state.now) c.requires.possible c.in-Func.func c.in-Func.is

pub entity_ref-instance_type-requires : goal.entity_ref-instance_type-requires
entity_ref-instance_type-requires t c = (
  search (rules, the_lemmas),
  (
    rw c.deref.ensures.value (instance_keeps c.args.entity.now c.in-Instance.instance c.in-Instance.is c.requires.form),
    (search rules, rw c.deref.ensures.value (instance_ref_possible c.args.entity.now (scopes c.args.state.now) c.requires.possible c.in-Instance.instance c.in-Instance.is)),
  ),
)

pub entity_ref-component_of-requires : goal.entity_ref-component_of-requires
entity_ref-component_of-requires t c =
    (search (rules, the_lemmas), (component_form c.args.entity.now c.in-Component.component c.in-Component.is c.requires.form, component_ref_possible c.args.entity.now (scopes c.args.state.now) c.requires.possible c.in-Component.component c.in-Component.is))

pub entity_ref-type_ref-requires : goal.entity_ref-type_ref-requires
entity_ref-type_ref-requires t c =
    (search (rules, the_lemmas), (type_form c.args.entity.now c.in-Ty.ty c.in-Ty.is c.requires.form, type_possible c.args.entity.now (scopes c.args.state.now) c.requires.possible c.in-Ty.ty c.in-Ty.is))

pub type_ref-resource_ref-requires : goal.type_ref-resource_ref-requires
type_ref-resource_ref-requires t c = type_resource_possible c.args.ty.now (scopes c.args.state.now) c.requires.possible c.in-Resource.name c.in-Resource.is

pub type_ref-named_index-requires-clause-possible : goal.type_ref-named_index-requires-clause-possible
type_ref-named_index-requires-clause-possible t c = type_value_possible c.args.ty.now (scopes c.args.state.now) c.requires.possible c.in-Value.ty c.in-Value.is

pub type_ref-func_index-requires-clause-possible : goal.type_ref-func_index-requires-clause-possible
type_ref-func_index-requires-clause-possible t c = type_func_possible c.args.ty.now (scopes c.args.state.now) c.requires.possible c.in-Func.func c.in-Func.is

pub type_ref-instance_type-requires : goal.type_ref-instance_type-requires
type_ref-instance_type-requires t c = (
  search (rules, the_lemmas),
  (
    rw c.deref.ensures.value (exports_keep c.args.ty.now c.in-Instance.instance c.in-Instance.is c.requires.form),
    (search rules, rw c.deref.ensures.value (type_instance_possible c.args.ty.now (scopes c.args.state.now) c.requires.possible c.in-Instance.instance c.in-Instance.is)),
  ),
)

pub type_ref-component_of-requires : goal.type_ref-component_of-requires
type_ref-component_of-requires t c =
    (search (rules, the_lemmas), (sides_keep c.args.ty.now c.in-Component.component c.in-Component.is c.requires.form, type_component_possible c.args.ty.now (scopes c.args.state.now) c.requires.possible c.in-Component.component c.in-Component.is))

pub instance_type-write_entries-requires : goal.instance_type-write_entries-requires
instance_type-write_entries-requires t c = (
  search (rules, the_lemmas),
  (
    c.requires.form,
    (
      exports_taken c.args.width c.args.state.now (scopes c.open.new.self) c.in_ok-open.ensures.opened,
      instance_possible (entries_of (named_entities c.args.exports.now)) c.args.width (scopes c.args.state.now) (scopes c.open.new.self) c.in_ok-open.ensures.opened c.requires.possible,
    ),
  ),
)

pub instance_type-close_instance-ty-requires : goal.instance_type-close_instance-ty-requires
instance_type-close_instance-ty-requires t c =
    instance_ends c.args.width c.args.state.now (scopes c.open.new.self) c.in_ok-open.ensures.opened (item_of side.Exports) (entries_of (named_entities c.args.exports.now)) (scopes c.write_entries.new.state) c.requires.width c.in_ok-write_entries.ensures.written

pub component_of-write_entries-requires : goal.component_of-write_entries-requires
component_of-write_entries-requires t c =
    let imports = entries_of (named_entities c.args.component.now.imports.items) in
    let exports = entries_of (named_entities c.args.component.now.exports.items) in (
      search (rules, the_lemmas),
      (
        rw c.deref.ensures.value (rw (component_is c.args.component.now) at c.requires.form.0),
        (
          imports_taken c.args.state.now (scopes c.open.new.self) c.in_ok-open.ensures.opened,
          rw c.deref.ensures.value (imports_possible imports exports (scopes c.args.state.now) (scopes c.open.new.self) c.in_ok-open.ensures.opened (rw (component_is c.args.component.now) at c.requires.possible)),
        ),
      ),
    )

pub component_of-write_entries-requires-2 : goal.component_of-write_entries-requires-2
component_of-write_entries-requires-2 t c =
    let imports = entries_of (named_entities c.args.component.now.imports.items) in
    let exports = entries_of (named_entities c.args.component.now.exports.items) in
    let first = rw c.deref.ensures.value at c.in_ok-write_entries.ensures.written in (
      search (rules, the_lemmas),
      (
        rw c.deref-2.ensures.value (rw (component_is c.args.component.now) at c.requires.form.1),
        (
          exports_taken_behind c.args.state.now (scopes c.open.new.self) c.in_ok-open.ensures.opened (item_of side.Imports) imports (scopes c.write_entries.new.state) first,
          rw c.deref-2.ensures.value (exports_possible imports exports (scopes c.args.state.now) (scopes c.open.new.self) c.in_ok-open.ensures.opened (rw (component_is c.args.component.now) at c.requires.possible) (scopes c.write_entries.new.state) first),
        ),
      ),
    )

pub component_of-close_component-ty-requires : goal.component_of-close_component-ty-requires
component_of-close_component-ty-requires t c =
    component_ends c.args.state.now (scopes c.open.new.self) c.in_ok-open.ensures.opened (item_of side.Imports) (item_of side.Exports) _ _ (scopes c.write_entries.new.state) (scopes c.write_entries-2.new.state) c.in_ok-write_entries.ensures.written c.in_ok-write_entries-2.ensures.written
