use Rattle.std.proofs.lemmas.Result.{IfOk-weaker}
use Rattle.comp_fit.specs.Standing.{resource_head}
use Rattle.comp_fit.specs.Standing.{for_resource, place_head, place_stands, value_place}
use Rattle.comp_fit.proofs.StandingLaws.{adds_both}
use Rattle.comp_fit.proofs.standing.note_type.Goals as goal

pub returns : goal.returns
returns c =
    IfOk-weaker c.note_place.result _ _ (λ done adds.
    adds_both c.args.found.now c.note_resource.new.found c.note_place.new.found (for_resource (resource_head c.args.given.now) (resource_head c.args.asked.now)) (place_stands (value_place c.args.given.now) (place_head c.args.asked.now)) c.in_ok-note_resource.ensures adds) c.note_place.ensures
