use Rattle.comp_entity.specs.Views.{entity_tree}
use Rattle.compose_types.specs.Scopes.{scopes}
use Rattle.compose_types.proofs.EntityLaws.{entity_named}
use Rattle.compose_types.proofs.LargestLaws.{named_within}
use Rattle.compose_types.proofs.RefusalLaws.{told}
use Rattle.compose_types.proofs.entities.name_entity.Goals as goal

pub returns-clause-named : goal.returns-clause-named
returns-clause-named c =
    entity_named c.args.side c.args.name.now (entity_tree c.args.entity.now) c.args.ty (scopes c.args.state.now) (scopes c.name.new.self) (scopes c.note_entity.new.state) c.in_ok-types.types c.in_ok-types.instances (rw c.as_str.ensures at c.in_ok-types.ensures.named) c.in_ok-note_entity.ensures.noted

pub returns-in_err-types-clause-among : goal.returns-in_err-types-clause-among
returns-in_err-types-clause-among c = λ n e.
    named_within n c.args.side c.args.name.now (entity_tree c.args.entity.now) c.args.ty (scopes c.args.state.now) (rw c.as_str.ensures at (c.in_err-types.ensures.among n (told c.from_residual.result _ n c.from_residual.ensures.1 e)))
