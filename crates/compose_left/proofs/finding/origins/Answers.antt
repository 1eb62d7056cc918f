use Rattle.std.proofs.Common.{◌∙◌, subst, List}
use Rattle.std.specs.Result.{IfOk}
use Rattle.compose_left.specs.declared.known.Origins.{Origins}
use Rattle.compose_left.specs.declared.origin.Held.{Held}
use Rattle.compose_left.specs.Wiring.{Wiring, shapes_of}
use Rattle.compose_left.specs.Origins.{brought_from}
use Rattle.compose_left.specs.Wired.{wiring_of}
use Rattle.compose_left.specs.Numbers.{AreNoted}
use Rattle.compose_left.proofs.finding.origins.Goals as goal

pub returns : goal.returns
returns c =
    subst (λ (w : Wiring). IfOk c.noted.result (λ (o : Origins). AreNoted o w (brought_from 0 (shapes_of c.args.shapes.now)))) c.in_ok-wired.ensures.wiring
    (subst (λ (hs : List Held). IfOk c.noted.result (λ (o : Origins). AreNoted o (wiring_of c.in_ok-wired.wired) hs)) (c.deref.ensures.value ∙ c.in_ok-brought.ensures) c.noted.ensures)
