use Rattle.std.proofs.Common.{◌≡◌, ◌≤◌, ◌∙◌, ap, refl, subst, sym}
use Rattle.comp_entity.specs.Entity.{EntityTree, IsComponent, ShapeTree, no_entry}
use Rattle.comp_entity.specs.Views.{entries_of, named_entities}
use Rattle.compose_component.specs.Component.{shape_of}
use Rattle.compose_types.specs.Largest.{scopes_size}
use Rattle.compose_types.specs.Scopes.{outermost_scope, scopes}
use Rattle.compose_writing.specs.WriteEntities.{write_entity, write_import}
use Rattle.compose_imports.specs.Begun.{component_left}
use Rattle.compose_imports.proofs.GrownLaws.{entity_refused, import_refused}
use Rattle.compose_imports.proofs.LeftLaws.{component_written, left_imported, nothing_called}
use Rattle.compose_imports.proofs.RefusalLaws.{told}
use Rattle.compose_imports.proofs.left.write_component.Goals as goal

pub returns-in_err-index-clause-too_large : goal.returns-in_err-index-clause-too_large
returns-in_err-index-clause-too_large c = λ n e.
    (c.in_err-index.ensures.too_large no_entry no_entry n
    (told c.from_residual-in_err-index.result _ n c.from_residual-in_err-index.ensures.1 e)).large

pub returns-in_err-ty-clause-among : goal.returns-in_err-ty-clause-among
returns-in_err-ty-clause-among c = λ n next e is.
    let l = component_left c.args.component.now in
    let same : IsComponent (entries_of (named_entities c.deref.result.now)) (entries_of (named_entities c.deref-2.result.now)) ≡ l.entity =
    (λ i. IsComponent (entries_of (named_entities (c.deref.ensures.value i))) (entries_of (named_entities (c.deref-2.ensures.value i))))
    ∙ ap (λ (s : ShapeTree). IsComponent (entries_of s.imports) (entries_of s.exports)) c.types-shape.ensures.value in
    entity_refused c.what_is_written_only_grows.ensures.also c.what_is_written_only_grows.ensures.import n l
    (scopes c.args.state.now) next
    (λ x h. c.in_err-ty.ensures.among n x (told c.from_residual.result _ n c.from_residual.ensures.1 e)
    (ap (λ (e : EntityTree). write_entity e (scopes c.args.state.now)) same ∙ h)) is

pub returns-in_err-index-clause-among : goal.returns-in_err-index-clause-among
returns-in_err-index-clause-among c = λ n next e is.
    let l = component_left c.args.component.now in
    let mid = scopes c.component_ref.new.state in
    let same : IsComponent (entries_of (named_entities c.deref.result.now)) (entries_of (named_entities c.deref-2.result.now)) ≡ l.entity =
    (λ i. IsComponent (entries_of (named_entities (c.deref.ensures.value i))) (entries_of (named_entities (c.deref-2.ensures.value i))))
    ∙ ap (λ (s : ShapeTree). IsComponent (entries_of s.imports) (entries_of s.exports)) c.types-shape.ensures.value in
    let refused = (c.in_err-index.ensures.too_large (entries_of (shape_of c.args.component.now).imports) (entries_of (shape_of c.args.component.now).exports) n (told c.from_residual-in_err-index.result _ n c.from_residual-in_err-index.ensures.1 e)).among in
    import_refused c.what_is_written_only_grows.ensures.also n l (scopes c.args.state.now) mid next c.in_ok-ty.ty
    (ap (λ (e : EntityTree). write_entity e (scopes c.args.state.now)) (sym same) ∙ c.in_ok-ty.ensures.written)
    (subst (λ name. n ≤ scopes_size (write_import name l.entity c.in_ok-ty.ty mid)) c.name.ensures refused) is

pub returns-clause-written : goal.returns-clause-written
returns-clause-written c =
    let l = component_left c.args.component.now in
    let mid = scopes c.component_ref.new.state in
    let new = scopes c.import_component.new.self in
    let same : IsComponent (entries_of (named_entities c.deref.result.now)) (entries_of (named_entities c.deref-2.result.now)) ≡ l.entity =
    (λ i. IsComponent (entries_of (named_entities (c.deref.ensures.value i))) (entries_of (named_entities (c.deref-2.ensures.value i))))
    ∙ ap (λ (s : ShapeTree). IsComponent (entries_of s.imports) (entries_of s.exports)) c.types-shape.ensures.value in
    component_written l refl (scopes c.args.state.now) mid new c.in_ok-ty.ty
    (ap (λ (e : EntityTree). write_entity e (scopes c.args.state.now)) (sym same) ∙ c.in_ok-ty.ensures.written)
    (c.in_ok-index.ensures.written _ _ ∙ ap (λ name. write_import name l.entity c.in_ok-ty.ty mid) c.name.ensures)

pub returns-clause-imported : goal.returns-clause-imported
returns-clause-imported c = λ m alone.
    let l = component_left c.args.component.now in
    let mid = scopes c.component_ref.new.state in
    let new = scopes c.import_component.new.self in
    let same : IsComponent (entries_of (named_entities c.deref.result.now)) (entries_of (named_entities c.deref-2.result.now)) ≡ l.entity =
    (λ i. IsComponent (entries_of (named_entities (c.deref.ensures.value i))) (entries_of (named_entities (c.deref-2.ensures.value i))))
    ∙ ap (λ (s : ShapeTree). IsComponent (entries_of s.imports) (entries_of s.exports)) c.types-shape.ensures.value in
    left_imported m (outermost_scope c.component_ref.new.state) l.entity l.name c.in_ok-ty.ty mid new new
    c.in_ok-index.index
    (c.an_import_is_one_item.ensures.needs l.entity m _ _
    (ap (write_entity l.entity) (sym alone) ∙ ap (λ (e : EntityTree). write_entity e (scopes c.args.state.now)) (sym same)
    ∙ c.in_ok-ty.ensures.written))
    c.in_ok-index.ensures.alone (λ k. c.an_import_is_one_item.ensures.item l.name l.entity c.in_ok-ty.ty k)
    (c.in_ok-index.ensures.written _ _ ∙ ap (λ name. write_import name l.entity c.in_ok-ty.ty mid) c.name.ensures)
    (nothing_called new) c.in_ok-index.ensures.index
