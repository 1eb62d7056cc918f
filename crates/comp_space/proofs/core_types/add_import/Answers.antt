use Rattle.std.proofs.Common.{ap, subst, sym, ◌∙◌, ◌∷◌, ◌++◌, [], Ok}
use Rattle.warg_values.specs.Reading.{◌>>=◌}
use Rattle.comp_scope.specs.CoreScopes.{core_item, with_module_decl}
use Rattle.comp_space.specs.CoreStandings.{AllShowCore}
use Rattle.comp_table.specs.Plain.{under_label}
use Rattle.comp_table.specs.StandLaws.{grows_on, same_stands}
use Rattle.comp_space.specs.CoreLaws.{module_kept, module_there_kept, with_import}
use Rattle.comp_space.specs.StandingLaws.{below_push, fails_bind, passed_on}
use Rattle.comp_space.proofs.core_types.add_import.Goals as goal

pub returns-in_err-item-clause-found : goal.returns-in_err-item-clause-found
unfolding with_module_decl
returns-in_err-item-clause-found c = λ scopes known shows.
    passed_on _ c.from_residual.result c.in_err-item.field-0.0 _ c.from_residual.ensures.1
    (fails_bind (core_item known.types c.args.desc.now) _ _ (c.in_err-item.ensures.found known.types (subst (λ xs. AllShowCore c.args.table.now xs known.types) (sym c.deref.ensures.value) shows.types)))

pub returns-clause-there : goal.returns-clause-there
returns-clause-there c =
    let grown = grows_on _ _ _ c.core_item.ensures.extends (grows_on _ _ _ c.under.ensures.extends c.under-2.ensures.extends) in
    let kept = module_there_kept c.args.table.now c.under-2.new.table grown c.args.own.now c.requires in
    record { types = kept.types; imports = rw c.in_ok-push.ensures.items (below_push _ _ _ kept.imports c.in_ok-number.ensures.number.there); exports = kept.exports }

pub returns-clause-found : goal.returns-clause-found
unfolding with_module_decl
returns-clause-found c = λ scopes known shows.
    let f = c.in_ok-item.ensures.found known.types (subst (λ xs. AllShowCore c.args.table.now xs known.types) (sym c.deref.ensures.value) shows.types) in
    let grown = grows_on _ _ _ c.core_item.ensures.extends (grows_on _ _ _ c.under.ensures.extends c.under-2.ensures.extends) in
    record {
      value = record known { imports = known.imports ++ (c.args.from.now, c.args.name.now, f.value) ∷ [] };
      given_is = ap (λ r. r >>= λ t. Ok (record known { imports = known.imports ++ (c.args.from.now, c.args.name.now, t) ∷ [] })) f.given_is;
      shown = with_import c.under-2.new.table c.args.own.now known c.push.new.self c.in_ok-number.number (c.args.from.now, c.args.name.now, f.value) (module_kept c.args.table.now c.under-2.new.table grown c.args.own.now known shows)
          (same_stands c.under-2.new.table c.in_ok-number.number _ _ (ap (under_label c.args.from.now) (c.in_ok-named.ensures.number.tree_is ∙ ap (under_label c.args.name.now) f.shown.tree_is)) c.in_ok-number.ensures.number) c.in_ok-push.ensures.items;
    }
