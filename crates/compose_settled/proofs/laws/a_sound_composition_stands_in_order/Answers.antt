use Rattle.std.proofs.Math.Logic.{∥∥₁_elim}
use Rattle.compose_check.specs.Composition.{wiring}
use Rattle.compose_check.specs.Open.{lefts}
use Rattle.compose_settled.proofs.OneFact.{one_written, shapes_in_order}
use Rattle.compose_settled.proofs.laws.a_sound_composition_stands_in_order.Goals as goal

pub returns : goal.returns
returns c = λ composition order out is sound named whole.
    ∥∥₁_elim named (one_written (lefts (wiring composition)))
    (λ named. c.a_sound_composition_is_settled.ensures.in_order composition order out is sound named (shapes_in_order composition.components composition.instances whole))
