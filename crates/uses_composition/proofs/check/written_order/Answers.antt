use Rattle.compose_check.specs.Composition.{composition_tree}
use Rattle.uses_composition.proofs.check.written_order.Goals as goal

pub returns-in-Err-Cycle : goal.returns-in-Err-Cycle
returns-in-Err-Cycle c = λ order out sound.
    let same = c.what_can_be_written_is_not_refused.ensures (composition_tree c.args.composition.now) order out c.in-Err-Cycle.field-0 c.requires sound c.in-Err-Cycle.ensures.refused in
    cc

pub returns-in-Err-Incompatible : goal.returns-in-Err-Incompatible
returns-in-Err-Incompatible c = λ order out sound.
    let same = c.what_can_be_written_is_not_refused.ensures (composition_tree c.args.composition.now) order out c.in-Err-Incompatible.field-0 c.requires sound c.in-Err-Incompatible.ensures.refused in
    cc
