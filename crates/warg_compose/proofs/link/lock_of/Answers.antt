use Rattle.std.proofs.Common.{map, refl}
use Rattle.compose_check.specs.Composition.{composition_tree}
use Rattle.warg_plan.specs.View.{entry_view}
use Rattle.warg_compose.specs.Held.{held_component}
use Rattle.warg_compose.proofs.LockLaws.{answer_locked, composed_of}
use Rattle.warg_compose.proofs.link.lock_of.Goals as goal

pub returns-clause-locked : goal.returns-clause-locked
returns-clause-locked c =
    let es = map entry_view c.args.entries.now in
    let tree = composition_tree (record { components = c.in_ok-lent.field-0; instances = c.args.instances; wires = c.in_ok-wires_of.field-0 }) in
    let composed = composed_of es tree c.args.instances.items (map held_component c.args.components.now) c.requires.components c.requires.instances c.in_ok-lent.ensures refl c.in_ok-wires_of.ensures in
    answer_locked es tree c.root_of.result c.lock.result c.root_of.ensures composed c.lock.ensures.locked
