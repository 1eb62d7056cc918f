use Rattle.std.proofs.Common.{◌≡◌, ◌∙◌, subst}
use Rattle.std.specs.Result.{IfOk}
use Rattle.compose_left.specs.declared.origin.Step.{Step}
use Rattle.compose_left.specs.Origins.{along, of_brought}
use Rattle.compose_left.specs.Wired.{wiring_of}
use Rattle.compose_left.proofs.wiring.step.Goals as goal

pub returns-in-Some : goal.returns-in-Some
returns-in-Some c =
    subst (λ (x : Step). IfOk c.along.result (λ (step : Step). step ≡ x))
    ((λ i. along (wiring_of c.args.wired.now) c.in-Some.spot.now ((c.copied.ensures ∙ c.get.ensures.value ∙ c.requires.wires (record { target = c.args.held.instance; import = c.in-Some.spot.now.number })) i))
    ∙ (λ i. of_brought (wiring_of c.args.wired.now) c.args.held (c.in-Some.ensures i)))
    c.along.ensures
