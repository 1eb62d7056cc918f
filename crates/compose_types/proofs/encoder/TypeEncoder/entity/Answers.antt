use Rattle.std.proofs.Common.{ap}
use Rattle.std.specs.Prelude.{is_some}
use Rattle.compose_types.proofs.InnerLaws.{some_scope}
use Rattle.compose_types.specs.Scopes.{scopes}
use Rattle.comp_entity.specs.Views.{entity_tree}
use Rattle.compose_writing.specs.WriteEntities.{write_entity}
use Rattle.compose_types.specs.Largest.{written_size}
use Rattle.compose_types.proofs.LargestLaws.{within_is}
use Rattle.compose_types.proofs.RefusalLaws.{told}
use Rattle.compose_types.proofs.encoder.TypeEncoder.entity.Goals as goal

pub returns-in_err-ty-clause-among : goal.returns-in_err-ty-clause-among
returns-in_err-ty-clause-among c =
    λ n x e is. within_is n written_size (write_entity (entity_tree c.args.entity.now) (scopes c.args.state.now)) x (c.in_err-ty.ensures.among n (told c.from_residual.result _ n c.from_residual.ensures.1 e)) is

pub entity_ref-requires-clause-possible : goal.entity_ref-requires-clause-possible
entity_ref-requires-clause-possible c =
    ap is_some (c.what_is_known_is_written.ensures.entity (entity_tree c.args.entity.now) (scopes c.args.state.now) (some_scope c.args.state.now) c.requires.known c.requires.form).1
