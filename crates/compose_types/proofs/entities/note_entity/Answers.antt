use Rattle.compose_types.specs.Scopes.{scopes}
use Rattle.compose_types.proofs.EntityLaws.{instance_noted}
use Rattle.compose_types.proofs.entities.note_entity.Goals as goal

pub returns-in_ok-note_exports-in-Instance-clause-noted : goal.returns-in_ok-note_exports-in-Instance-clause-noted
returns-in_ok-note_exports-in-Instance-clause-noted c = λ m types instances.
    instance_noted c.args.entity.now c.in-Instance.instance m (scopes c.args.state.now) (scopes c.note_exports.new.state) c.args.instances c.in-Instance.is instances
    (rw c.deref.ensures.value at c.in_ok-note_exports-in-Instance.ensures.noted)
