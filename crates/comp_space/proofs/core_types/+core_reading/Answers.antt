use Rattle.std.proofs.Common.{rules, ap, sym, subst, refl, ◌≡◌, ◌∙◌, ◌∷◌, ◌++◌, [], map, Ok, slice_index_or}
use Rattle.std.proofs.lemmas.List.{take_more}
use Rattle.warg_values.specs.Reading.{◌>>=◌}
use Rattle.comp_entity.specs.Bounds.{bounded, kept}
use Rattle.comp_entity.specs.Entity.{IsModule}
use Rattle.comp_entity.specs.declared.module.CoreShape.TheVariants as shape
use Rattle.comp_format.specs.CoreTypes as tree
use Rattle.comp_format.specs.CoreTypes.{module_decls}
use Rattle.comp_format.specs.Views.{core_tree, module_decl_tree, module_tree}
use Rattle.comp_scope.specs.CoreScopes.{core_type_of, module_in, module_of, no_module_scope, with_module_decl}
use Rattle.comp_scope.specs.Spaces.{OfItem, OfModules}
use Rattle.comp_space.specs.CoreStandings.{AllShowCore}
use Rattle.comp_space.specs.Faults.{Fails}
use Rattle.comp_table.specs.Plain.{plain_core}
use Rattle.comp_table.specs.StandLaws.{all_none, grows_not, grows_on, same_stands}
use Rattle.comp_space.specs.CoreLaws.{cores_push, module_kept, module_there_kept, scopes_kept, scopes_there_kept, with_type}
use Rattle.comp_space.proofs.ModuleLaws.{declares_fails, declares_push, kept_is}
use Rattle.comp_space.specs.StandingLaws.{fails_bind, fails_same, passed_on}
use Rattle.comp_space.proofs.TreeLaws.{core_func, module_is}
use Rattle.comp_space.proofs.core_types.+core_reading.Goals as goal

pub core_type_of-returns-in_ok-number-in-Func-clause-found : goal.core_type_of-returns-in_ok-number-in-Func-clause-found
unfolding core_type_of
core_type_of-returns-in_ok-number-in-Func-clause-found t c = λ scopes shows.
    rw (c.in-Func.is, core_func c.in-Func.params c.in-Func.results) (record {
      value = OfItem (shape.Func c.in-Func.params c.in-Func.results);
      given_is = refl;
      shown = same_stands _ _ _ _ (λ i. plain_core (shape.Func (c.as_slice.ensures i) (c.as_slice-in-Func.ensures i))) c.in_ok-number-in-Func.ensures.number;
    })

pub add_core_type-returns-in_err-known-clause-found : goal.add_core_type-returns-in_err-known-clause-found
unfolding with_module_decl
add_core_type-returns-in_err-known-clause-found t c = λ scopes known around shows.
    passed_on _ c.from_residual.result c.in_err-known.field-0.0 _ c.from_residual.ensures.1
    (fails_bind (core_type_of bounded (known.types ∷ scopes) (core_tree c.args.ty.now)) _ _
    (c.in_err-known.ensures.found (known.types ∷ scopes) (subst (λ xs. AllShowCore c.args.table.now xs known.types) (sym c.deref.ensures.value) shows.types, around)))

pub add_core_type-returns-clause-there : goal.add_core_type-returns-clause-there
add_core_type-returns-clause-there t c =
    let kept = module_there_kept c.args.table.now c.core_type_of.new.table c.core_type_of.ensures.extends c.args.own.now c.requires.own in
    record { types = rw c.in_ok-push.ensures.items (cores_push _ _ _ kept.types c.in_ok-known.ensures.there); imports = kept.imports; exports = kept.exports }

pub add_core_type-returns-clause-found : goal.add_core_type-returns-clause-found
unfolding with_module_decl
add_core_type-returns-clause-found t c = λ scopes known around shows.
    let f = c.in_ok-known.ensures.found (known.types ∷ scopes) (subst (λ xs. AllShowCore c.args.table.now xs known.types) (sym c.deref.ensures.value) shows.types, around) in
    record {
      value = record known { types = known.types ++ f.value ∷ [] };
      given_is = ap (λ r. r >>= λ x. Ok (record known { types = known.types ++ x ∷ [] })) f.given_is;
      shown = with_type c.core_type_of.new.table c.args.own.now known c.push.new.self c.in_ok-known.known f.value (module_kept c.args.table.now c.core_type_of.new.table c.core_type_of.ensures.extends c.args.own.now known shows) f.shown c.in_ok-push.ensures.items;
    }

pub module_of-loop-decl-init : goal.module_of-loop-decl-init
unfolding module_of
module_of-loop-decl-init t c = record {
  extends = grows_not _;
  around = c.requires;
  there = record { types = rw c.new.ensures.items tt; imports = rw c.new-2.ensures.items tt; exports = rw c.new-3.ensures.items tt };
  found = λ scopes around. record {
    value = no_module_scope;
    given_is = refl;
    shown = record { types = rw c.new.ensures.items tt; imports = rw c.new-2.ensures.items (all_none _); exports = rw c.new-3.ensures.items (all_none _) };
  };
}

pub module_of-returns-in_err-add_module_decl-clause-found : goal.module_of-returns-in_err-add_module_decl-clause-found
module_of-returns-in_err-add_module_decl-clause-found t c = λ scopes around.
    let f = c.loop-decl.invariant.found scopes around in
    let kept = scopes_kept c.args.table.now c.loop-decl.table c.loop-decl.invariant.extends (map (λ s. s.now) c.args.around.now) scopes around in
    passed_on _ c.from_residual.result c.in_err-add_module_decl.field-0.0 _ c.from_residual.ensures.1
    (fails_same (with_module_decl bounded scopes f.value (module_decl_tree c.decl-item.result)) _ _
    (λ fault e. declares_fails module_decl_tree bounded scopes no_module_scope f.value c.args.decls.now c.loop-decl.decl-index c.decl-item.result fault (search rules) f.given_is (ap (λ x. with_module_decl bounded scopes f.value (module_decl_tree x)) (sym c.decl-item.is) ∙ e))
    (c.in_err-add_module_decl.ensures.found scopes f.value kept f.shown))

pub module_of-loop-decl-preserved : goal.module_of-loop-decl-preserved
module_of-loop-decl-preserved t c = record {
  extends = grows_on _ _ _ c.loop-decl.invariant.extends c.add_module_decl.ensures.extends;
  around = scopes_there_kept c.loop-decl.table c.add_module_decl.new.table c.add_module_decl.ensures.extends (map (λ s. s.now) c.args.around.now) c.loop-decl.invariant.around;
  there = c.in_ok-add_module_decl.ensures.there;
  found = λ scopes around.
      let f = c.loop-decl.invariant.found scopes around in
      let kept = scopes_kept c.args.table.now c.loop-decl.table c.loop-decl.invariant.extends (map (λ s. s.now) c.args.around.now) scopes around in
      let g = c.in_ok-add_module_decl.ensures.found scopes f.value kept f.shown in
      record {
        value = g.value;
        given_is = ap (λ ds. module_of bounded scopes no_module_scope (module_decls (map module_decl_tree ds))) (take_more c.args.decls.now c.loop-decl.decl-index c.decl-item.result (search rules))
            ∙ declares_push module_decl_tree bounded scopes no_module_scope _ _
            ∙ ap (λ r. r >>= λ n. with_module_decl bounded scopes n (module_decl_tree (slice_index_or c.args.decls.now c.loop-decl.decl-index c.decl-item.result))) f.given_is
            ∙ ap (λ x. with_module_decl bounded scopes f.value (module_decl_tree x)) (sym c.decl-item.is) ∙ g.given_is;
        shown = g.shown;
      };
}

pub module_type_of-returns-in_err-module-clause-found : goal.module_type_of-returns-in_err-module-clause-found
unfolding core_type_of
module_type_of-returns-in_err-module-clause-found t c = λ scopes around.
    let is : module_tree c.args.ty.now ≡ module_decls (map module_decl_tree c.deref.result.now) = module_is c.args.ty.now ∙ ap (λ ds. module_decls (map module_decl_tree ds)) (sym c.deref.ensures.value) in
    passed_on _ c.from_residual.result c.in_err-module.field-0.0 _ c.from_residual.ensures.1
    (subst (λ ds. Fails c.in_err-module.field-0.0 (core_type_of bounded scopes (tree.Module ds))) (sym is)
    (fails_bind (module_of bounded scopes no_module_scope (module_decls (map module_decl_tree c.deref.result.now))) _ _ (c.in_err-module.ensures.found scopes around)))

pub module_type_of-check_bounds-requires : goal.module_type_of-check_bounds-requires
module_type_of-check_bounds-requires t c = c.in_ok-number.ensures.there

pub module_type_of-returns-in_err-check_bounds-clause-found : goal.module_type_of-returns-in_err-check_bounds-clause-found
unfolding core_type_of
module_type_of-returns-in_err-check_bounds-clause-found t c = λ scopes around.
    let is : module_tree c.args.ty.now ≡ module_decls (map module_decl_tree c.deref.result.now) = module_is c.args.ty.now ∙ ap (λ ds. module_decls (map module_decl_tree ds)) (sym c.deref.ensures.value) in
    let f = c.in_ok-module.ensures.found scopes around in
    passed_on _ c.from_residual-in_err-check_bounds.result c.in_err-check_bounds.field-0.0 _ c.from_residual-in_err-check_bounds.ensures.1
    (subst (λ ds. Fails c.in_err-check_bounds.field-0.0 (core_type_of bounded scopes (tree.Module ds))) (sym is)
    (subst (λ r. Fails c.in_err-check_bounds.field-0.0 (r >>= λ m. kept bounded (IsModule (module_in m)) (OfModules (module_in m)))) (sym f.given_is)
    (subst (Fails c.in_err-check_bounds.field-0.0) (sym (kept_is bounded (IsModule (module_in f.value)) (OfModules (module_in f.value))))
    (fails_bind (kept bounded (IsModule (module_in f.value)) (tt {0})) _ _ (c.in_err-check_bounds.ensures (IsModule (module_in f.value)) (c.in_ok-number.ensures.number f.value f.shown))))))

pub module_type_of-returns-clause-there : goal.module_type_of-returns-clause-there
module_type_of-returns-clause-there t c = c.in_ok-number.ensures.there

pub module_type_of-returns-clause-found : goal.module_type_of-returns-clause-found
unfolding core_type_of
module_type_of-returns-clause-found t c = λ scopes around.
    let is : module_tree c.args.ty.now ≡ module_decls (map module_decl_tree c.deref.result.now) = module_is c.args.ty.now ∙ ap (λ ds. module_decls (map module_decl_tree ds)) (sym c.deref.ensures.value) in
    let f = c.in_ok-module.ensures.found scopes around in
    let stands = c.in_ok-number.ensures.number f.value f.shown in
    record {
      value = OfModules (module_in f.value);
      given_is = ap (λ ds. core_type_of bounded scopes (tree.Module ds)) is
          ∙ ap (λ r. r >>= λ m. kept bounded (IsModule (module_in m)) (OfModules (module_in m))) f.given_is
          ∙ kept_is bounded (IsModule (module_in f.value)) (OfModules (module_in f.value))
          ∙ ap (λ r. r >>= λ u. Ok (OfModules (module_in f.value))) (c.in_ok-check_bounds.ensures (IsModule (module_in f.value)) stands);
      shown = stands;
    }
