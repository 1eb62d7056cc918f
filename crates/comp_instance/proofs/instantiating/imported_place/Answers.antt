use Rattle.std.proofs.Common.{◌≡◌, ◌+◌, ◌∙◌, IfSome, Some, subst, sym}
use Rattle.comp_instance.proofs.RenamedLaws.{place_or_made}
use Rattle.comp_fit.specs.Standing.{place_found}
use Rattle.comp_instance.proofs.instantiating.imported_place.Goals as goal

pub returns-in-Some : goal.returns-in-Some
returns-in-Some c =
    sym (place_or_made (c.args.count + c.args.place.number) (place_found c.args.found.now c.args.place) (Some c.in-Some.standing) (sym c.in-Some.is ∙ c.standing_place.ensures))

pub returns-in-None : goal.returns-in-None
returns-in-None c =
    subst (λ n. IfSome c.made_place.result (λ p. p ≡ n))
    (sym (place_or_made (c.args.count + c.args.place.number) (place_found c.args.found.now c.args.place) _ (sym c.in-None.is ∙ c.standing_place.ensures)))
    (rw (sym c.number.ensures) c.made_place.ensures)
