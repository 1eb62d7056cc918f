use Rattle.std.proofs.Common.{rules, ◌≡◌, true}
use Rattle.comp_entity.specs.Names.{OfResource}
use Rattle.compose_writing.specs.Scopes.{knows}
use Rattle.compose_types.specs.Scopes.{scopes}
use Rattle.compose_types.proofs.EntityLargestLaws.{resource_refused}
use Rattle.compose_types.proofs.RefusalLaws.{told}
use Rattle.compose_types.proofs.EntityPossibleLaws.{resource_possible}
use Rattle.compose_types.proofs.entities.resource_ref.Goals as goal

pub returns-in_err-index-clause-among : goal.returns-in_err-index-clause-among
returns-in_err-index-clause-among c = λ n e.
    let known : knows (scopes c.args.state.now) (OfResource c.args.name) ≡ true = search rules in
    resource_refused n c.args.name (knows (scopes c.args.state.now) (OfResource c.args.name)) (scopes c.args.state.now) known (rw c.of_resource-key.ensures at (c.in_err-index.ensures.among n (told c.from_residual.result _ n c.from_residual.ensures.1 e)))

pub index_of-requires : goal.index_of-requires
index_of-requires c =
    let known : knows (scopes c.args.state.now) (OfResource c.args.name) ≡ true = search rules in
    rw c.of_resource-key.ensures (resource_possible c.args.name (scopes c.args.state.now) known c.requires)
