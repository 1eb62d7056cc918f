use Rattle.std.proofs.Common.{rules, ◌≡◌, subst, None, Some}
use Rattle.std.specs.BTreeMap.{get, Updates}
use Rattle.comp_fit.proofs.StandingLaws.{adds_resource}
use Rattle.comp_fit.specs.Standing.{called_cmp}
use Rattle.comp_fit.specs.declared.standing.Called.{Called}
use Rattle.comp_fit.proofs.standing.add_resource.Goals as goal

pub returns-in_ok-insert-in-None : goal.returns-in_ok-insert-in-None
returns-in_ok-insert-in-None c =
    let absent : get called_cmp c.args.found.now.resources c.resource_key-key.result ≡ None = search rules in
    adds_resource c.args.found.now c.args.given c.args.asked c.insert.new.self
    (subst (λ (k : Called). get called_cmp c.args.found.now.resources k ≡ None) c.resource_key-key.ensures absent)
    (subst (λ (k : Called). Updates called_cmp c.args.found.now.resources c.insert.new.self k (Some c.args.given)) c.resource_key-key.ensures c.in_ok-insert-in-None.ensures.updates)
