use Rattle.std.proofs.Common.{ap, sym, subst, ◌∙◌, Ok}
use Rattle.warg_values.specs.Reading.{◌>>=◌}
use Rattle.comp_entity.specs.Fits.{stands}
use Rattle.comp_entity.specs.Names.{changing}
use Rattle.comp_instance.specs.Renamed.{fitted}
use Rattle.comp_instance.proofs.ExportLaws.{description_is, fitting_is}
use Rattle.comp_scope.specs.Exports.{fitted_place, fitted_resource}
use Rattle.comp_space.specs.Faults.{Fails}
use Rattle.comp_space.specs.StandingLaws.{fails_bind, passed_on}
use Rattle.comp_instance.proofs.exports.fitting.Goals as goal

pub returns-in_err-number-clause-found : goal.returns-in_err-number-clause-found
returns-in_err-number-clause-found c = λ s e d shows item shown.
    let there = stands e d.standing.0 in
    let change = description_is c.in_ok-renaming.renaming s there (c.in_ok-renaming.ensures s e d.standing.0 shows item shown.standing.stands) in
    passed_on _ c.from_residual-in_err-number.result c.in_err-number.field-0.0 _ c.from_residual-in_err-number.ensures.1
    (subst (Fails c.in_err-number.field-0.0) (sym (fitting_is s e c.args.item.named d))
    (fails_bind (fitted (changing (fitted_resource s there) (fitted_place s there)) e d.standing.0) _ c.in_err-number.field-0.0
    (subst (λ ch. Fails c.in_err-number.field-0.0 (fitted ch e d.standing.0)) change (c.in_err-number.ensures.found e d.standing.0 item shown.standing.stands))))

pub returns-clause-found : goal.returns-clause-found
returns-clause-found c = λ s e d shows item shown.
    let there = stands e d.standing.0 in
    let change = description_is c.in_ok-renaming.renaming s there (c.in_ok-renaming.ensures s e d.standing.0 shows item shown.standing.stands) in
    let f = c.in_ok-number.ensures.found e d.standing.0 item shown.standing.stands in
    record {
      value = record d { standing = (f.value, d.standing.1) };
      given_is = fitting_is s e c.args.item.named d
          ∙ ap (λ r. r >>= λ a. Ok (record d { standing = (a, d.standing.1) })) (ap (λ ch. fitted ch e d.standing.0) (sym change) ∙ f.given_is);
      shown = record { standing = record { stands = f.shown; named_is = shown.standing.named_is }; brings = shown.brings };
    }
