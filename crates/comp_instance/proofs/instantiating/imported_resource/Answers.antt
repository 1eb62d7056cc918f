use Rattle.std.proofs.Common.{◌≡◌, ◌+◌, ◌∙◌, IfSome, subst, sym, unwrap_or}
use Rattle.comp_entity.specs.Entity.{made}
use Rattle.comp_instance.proofs.instantiating.imported_resource.Goals as goal

pub returns-in-None : goal.returns-in-None
returns-in-None c =
    subst (λ o. IfSome c.made_resource.result (λ r. r ≡ unwrap_or o (made (c.args.count + c.args.resource.number)))) (sym c.in-None.is ∙ c.standing_resource.ensures)
    (rw (sym c.number.ensures) c.made_resource.ensures)
