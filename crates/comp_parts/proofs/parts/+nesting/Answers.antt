use Rattle.std.proofs.Common.{rules, suc, ◌∷◌, ◌∙◌, ◌≤◌, ap, map, length, subst, sym, true, Bor, List, Result, Ok}
use Rattle.warg_values.specs.Reading.{◌>>=◌}
use Rattle.comp_declare.specs.Outer.{AllShowSpaces}
use Rattle.comp_declare.specs.Scopes.{ShowsScope}
use Rattle.comp_define.specs.ScopeTypes.{ShowsEntity}
use Rattle.comp_entity.specs.Bounds.{ShapeFault, bounded}
use Rattle.comp_entity.specs.Entity.{EntityTree}
use Rattle.comp_format.specs.declared.types.Item.{Item}
use Rattle.comp_format.specs.Items.{item_tree}
use Rattle.comp_parts.proofs.PartLaws.{all_read, begun, component_added, export_part, fails_there, first_left, goes_on, import_part, many_within, none_without_levels, not_opened, open_with_levels, opened, other_part, parts_within, shows_with_spaces, spaces_kept}
use Rattle.comp_parts.specs.Parts.{component_of, component_within}
use Rattle.comp_scope.specs.Shape.{Expands, IsPart, after_parts, spaces_after}
use Rattle.comp_scope.specs.Spaces.{Known, added, nothing_known}
use Rattle.comp_scope.specs.Types.{with_spaces}
use Rattle.comp_space.specs.declared.space.Space.{Space}
use Rattle.comp_space.specs.Faults.{Fails, Finds}
use Rattle.comp_space.specs.SpaceLaws.{space_kept}
use Rattle.comp_space.specs.SpaceViews.{ShowsSpaces}
use Rattle.comp_space.specs.StandingLaws.{fails_bind, finds_map, found_bind, passed_on}
use Rattle.comp_table.specs.StandLaws.{grows_not, grows_on}
use Rattle.comp_parts.proofs.parts.+nesting.Goals as goal

-- ---- a nested component

pub add_component-component_within-requires : goal.add_component-component_within-requires
add_component-component_within-requires t c =
    (search rules, ((c.requires.own.0.spaces ∷ c.requires.around.0, (c.requires.own.1.spaces, c.requires.around.1)), (c.requires.levels, c.requires.parts)))

pub add_component-returns-in_err-number-clause-found : goal.add_component-returns-in_err-number-clause-found
add_component-returns-in_err-number-clause-found t c = λ ss k parts around shows has.
    passed_on _ c.from_residual.result c.in_err-number.field-0.0 _ c.from_residual.ensures.1
    (subst (Fails c.in_err-number.field-0.0) (sym (component_added ss k c.args.bytes.now parts))
    (fails_bind (component_within bounded (k.spaces ∷ ss) parts) (λ e. added bounded k.spaces e true >>= λ s. Ok (with_spaces k s)) _
    (c.in_err-number.ensures.found (k.spaces ∷ ss) parts (shows.spaces, around) has)))

pub add_component-add-requires : goal.add_component-add-requires
add_component-add-requires t c =
    (c.in_ok-number.ensures.found (c.requires.own.0.spaces ∷ c.requires.around.0) c.requires.parts.0 (c.requires.own.1.spaces, c.requires.around.1) c.requires.parts.1).shown.there

pub add_component-returns-clause-found : goal.add_component-returns-clause-found
add_component-returns-clause-found t c = λ ss k parts around shows has.
    let f = c.in_ok-number.ensures.found (k.spaces ∷ ss) parts (shows.spaces, around) has in
    let kept = space_kept c.args.table.now c.component_within.new.table c.component_within.ensures.extends c.args.scope.now.space k.spaces shows.spaces in
    subst (Finds (λ u. ShowsScope c.component_within.new.table (record c.args.scope.now { space = c.add.new.self })) c.add.result) (sym (component_added ss k c.args.bytes.now parts))
    (found_bind (ShowsEntity c.component_within.new.table) (λ u. ShowsScope c.component_within.new.table (record c.args.scope.now { space = c.add.new.self })) c.in_ok-number.number (component_within bounded (k.spaces ∷ ss) parts) (λ (e : EntityTree). added bounded k.spaces e true >>= λ s. Ok (with_spaces k s)) c.add.result f
    (finds_map (λ u. ShowsSpaces c.component_within.new.table c.add.new.self) (λ u. ShowsScope c.component_within.new.table (record c.args.scope.now { space = c.add.new.self })) (with_spaces k) c.add.result (added bounded k.spaces f.value true)
    (λ u s spaces. shows_with_spaces c.args.table.now c.component_within.new.table c.component_within.ensures.extends c.args.scope.now k c.add.new.self s shows spaces)
    (c.add.ensures.found k.spaces f.value kept f.shown)))

-- ---- one item

pub add_part-add_component-requires : goal.add_part-add_component-requires
add_part-add_component-requires t c =
    let inner = parts_within c.in-Component.bytes.now c.requires.part.0 (subst (λ (x : Item). IsPart (item_tree x) c.requires.part.0) c.in-Component.is c.requires.part.1) in
    (search rules, (c.requires.own, (c.requires.around, (c.requires.levels, inner))))

pub add_part-returns-in-Import-clause-found : goal.add_part-returns-in-Import-clause-found
add_part-returns-in-Import-clause-found t c = λ ss k p around shows is.
    subst (Finds (λ u. ShowsScope c.import.new.table c.import.new.self) c.import.result)
    (sym (import_part ss k c.in-Import.name c.in-Import.ty p (subst (λ (x : Item). IsPart (item_tree x) p) c.in-Import.is is)))
    (c.import.ensures.found k shows)

pub add_part-returns-in-Export-clause-found : goal.add_part-returns-in-Export-clause-found
add_part-returns-in-Export-clause-found t c = λ ss k p around shows is.
    subst (Finds (λ u. ShowsScope c.export.new.table c.export.new.scope) c.export.result)
    (sym (export_part ss k (record { name = c.in-Export.name; sort = c.in-Export.sort; index = c.in-Export.index; ty = c.in-Export.ty }) p (subst (λ (x : Item). IsPart (item_tree x) p) c.in-Export.is is)))
    (c.export.ensures.found k shows)

pub add_part-returns-in_default : goal.add_part-returns-in_default
add_part-returns-in_default t c = record {
  extends = c.add_item.ensures.extends;
  found = λ ss k p around shows is.
      subst (Finds (λ u. ShowsScope c.add_item.new.table (record c.args.scope.now { space = c.add_item.new.space })) c.add_item.result)
      (sym (other_part ss k c.args.item.now p c.in_default.not-Component c.in_default.not-Import c.in_default.not-Export is))
      (finds_map (λ u. ShowsSpaces c.add_item.new.table c.add_item.new.space) (λ u. ShowsScope c.add_item.new.table (record c.args.scope.now { space = c.add_item.new.space })) (with_spaces k) c.add_item.result (spaces_after bounded ss k.spaces (item_tree c.args.item.now))
      (λ u s spaces. shows_with_spaces c.args.table.now c.add_item.new.table c.add_item.ensures.extends c.args.scope.now k c.add_item.new.space s shows spaces)
      (c.add_item.ensures.found ss k.spaces around shows.spaces));
}

-- ---- a scope more

pub component_within-returns-in_default-clause-found : goal.component_within-returns-in_default-clause-found
component_within-returns-in_default-clause-found t c = λ ss parts shows has.
    not_opened ss (suc (length c.args.around.now)) (after_parts bounded ss (nothing_known true) parts >>= λ k. Ok (component_of k)) (many_within (λ (s : Bor Space). s.now) c.args.table.now c.args.own.now c.args.around.now ss shows) (none_without_levels c.args.levels (length c.args.around.now) c.requires.levels (λ some. c.in_default.ensures some))

pub component_within-returns-in_err-scope-clause-found : goal.component_within-returns-in_err-scope-clause-found
component_within-returns-in_err-scope-clause-found t c = λ ss parts shows has.
    let some : 1 ≤ c.args.levels = search rules in
    let is_open = opened ss (suc (length c.args.around.now)) (after_parts bounded ss (nothing_known true) parts >>= λ k. Ok (component_of k)) (many_within (λ (s : Bor Space). s.now) c.args.table.now c.args.own.now c.args.around.now ss shows) (open_with_levels c.args.levels (length c.args.around.now) c.requires.levels some) in
    let is = ap (map (λ (s : Bor Space). s.now)) c.deref.ensures.value ∙ c.in_ok-scopes.ensures in
    passed_on _ c.from_residual-in_err-scope.result c.in_err-scope.field-0.0 _ c.from_residual-in_err-scope.ensures.1
    (subst (Fails c.in_err-scope.field-0.0) (sym is_open)
    (fails_bind (after_parts bounded ss (nothing_known true) parts) _ _ (c.in_err-scope.ensures.found ss parts (subst (λ xs. AllShowSpaces c.args.table.now xs ss) (sym is) shows) has)))

pub component_within-component-requires : goal.component_within-component-requires
component_within-component-requires t c =
    let is = ap (map (λ (s : Bor Space). s.now)) c.deref.ensures.value ∙ c.in_ok-scopes.ensures in
    let f = c.in_ok-scope.ensures.found c.requires.around.0 c.requires.parts.0 (subst (λ xs. AllShowSpaces c.args.table.now xs c.requires.around.0) (sym is) c.requires.around.1) c.requires.parts.1 in
    (f.value, f.shown)

pub component_within-returns-clause-found : goal.component_within-returns-clause-found
component_within-returns-clause-found t c = λ ss parts shows has.
    let some : 1 ≤ c.args.levels = search rules in
    let is_open = opened ss (suc (length c.args.around.now)) (after_parts bounded ss (nothing_known true) parts >>= λ k. Ok (component_of k)) (many_within (λ (s : Bor Space). s.now) c.args.table.now c.args.own.now c.args.around.now ss shows) (open_with_levels c.args.levels (length c.args.around.now) c.requires.levels some) in
    let is = ap (map (λ (s : Bor Space). s.now)) c.deref.ensures.value ∙ c.in_ok-scopes.ensures in
    let f = c.in_ok-scope.ensures.found ss parts (subst (λ xs. AllShowSpaces c.args.table.now xs ss) (sym is) shows) has in
    record {
      value = component_of f.value;
      given_is = is_open ∙ ap (λ (r : Result Known ShapeFault). r >>= λ (k : Known). Ok (component_of k)) f.given_is;
      shown = c.in_ok-number.ensures.number f.value f.shown;
    }

pub scope_within-returns-clause-found : goal.scope_within-returns-clause-found
scope_within-returns-clause-found t c = λ ss parts around has.
    c.scope_of.ensures.found ss parts around (subst (λ (xs : List Item). Expands (map item_tree xs) parts) (sym c.deref.ensures.value) (c.in_ok-items.ensures parts has))

-- ---- items one by one

pub scope_of-loop-item-init : goal.scope_of-loop-item-init
scope_of-loop-item-init t c = record {
  extends = grows_not _;
  own = (nothing_known true, c.new-scope.ensures c.args.table.now);
  around = c.requires.around;
  found = λ ss parts around h. begun _ _ ss parts _ (c.new-scope.ensures c.args.table.now) h;
}

pub scope_of-add_part-requires : goal.scope_of-add_part-requires
scope_of-add_part-requires t c =
    let r = c.loop-item.invariant.found c.requires.around.0 c.requires.parts.0 c.requires.around.1 c.requires.parts.1 in
    let f = first_left c.args.items.now c.loop-item.item-index c.item-item.result r.rest (search rules) c.item-item.is r.expands in
    (search rules, (c.loop-item.invariant.own, (c.loop-item.invariant.around, (c.requires.levels, (f.first, f.is_part)))))

pub scope_of-returns-in_err-add_part-clause-extends : goal.scope_of-returns-in_err-add_part-clause-extends
scope_of-returns-in_err-add_part-clause-extends t c = grows_on _ _ _ c.loop-item.invariant.extends c.add_part.ensures.extends

pub scope_of-returns-in_err-add_part-clause-found : goal.scope_of-returns-in_err-add_part-clause-found
scope_of-returns-in_err-add_part-clause-found t c = λ ss parts around h.
    let r = c.loop-item.invariant.found ss parts around h in
    let f = first_left c.args.items.now c.loop-item.item-index c.item-item.result r.rest (search rules) c.item-item.is r.expands in
    let kept = spaces_kept c.args.table.now c.loop-item.table c.loop-item.invariant.extends (map (λ s. s.now) c.args.around.now) ss around in
    passed_on _ c.from_residual.result c.in_err-add_part.field-0.0 _ c.from_residual.ensures.1
    (fails_there c.loop-item.table c.loop-item.scope ss parts _ _ _ r f c.in_err-add_part.field-0.0
    (c.in_err-add_part.ensures.found ss r.known f.first kept r.shown f.is_part))

pub scope_of-returns-clause-extends : goal.scope_of-returns-clause-extends
scope_of-returns-clause-extends t c = c.loop-item.invariant.extends

pub scope_of-returns-clause-found : goal.scope_of-returns-clause-found
scope_of-returns-clause-found t c = λ ss parts around h.
    all_read c.loop-item.table c.loop-item.scope ss parts c.args.items.now c.loop-item.item-index (search rules) (c.loop-item.invariant.found ss parts around h)

pub scope_of-loop-item-preserved : goal.scope_of-loop-item-preserved
scope_of-loop-item-preserved t c =
    let within = c.loop-item.invariant.around in
    let reached = c.loop-item.invariant.found c.requires.around.0 c.requires.parts.0 c.requires.around.1 c.requires.parts.1 in
    let part = first_left c.args.items.now c.loop-item.item-index c.item-item.result reached.rest (search rules) c.item-item.is reached.expands in
    record {
      extends = grows_on _ _ _ c.loop-item.invariant.extends c.add_part.ensures.extends;
      own =
          let g = c.in_ok-add_part.ensures.found within.0 c.loop-item.invariant.own.0 part.first within.1 c.loop-item.invariant.own.1 part.is_part in
          (g.value, g.shown);
      around = (within.0, spaces_kept c.loop-item.table c.add_part.new.table c.add_part.ensures.extends (map (λ s. s.now) c.args.around.now) within.0 within.1);
      found = λ ss parts around h.
          let r = c.loop-item.invariant.found ss parts around h in
          let f = first_left c.args.items.now c.loop-item.item-index c.item-item.result r.rest (search rules) c.item-item.is r.expands in
          let kept = spaces_kept c.args.table.now c.loop-item.table c.loop-item.invariant.extends (map (λ s. s.now) c.args.around.now) ss around in
          goes_on c.loop-item.table c.add_part.new.table c.loop-item.scope c.add_part.new.scope ss parts _ _ _ r f
          (c.in_ok-add_part.ensures.found ss r.known f.first kept r.shown f.is_part);
    }
