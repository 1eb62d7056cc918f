use Rattle.std.proofs.Common.{ap}
use Rattle.std.specs.Prelude.{is_some}
use Rattle.compose_types.specs.Scopes.{scopes}
use Rattle.comp_entity.specs.Views.{entries_of, named_entities}
use Rattle.compose_writing.specs.WriteEntities.{write_component}
use Rattle.compose_types.specs.Largest.{closed_size}
use Rattle.compose_types.proofs.LargestLaws.{within_is}
use Rattle.compose_types.proofs.RefusalLaws.{told}
use Rattle.compose_types.proofs.encoder.TypeEncoder.component.Goals as goal

pub returns-in_err-ty-clause-among : goal.returns-in_err-ty-clause-among
returns-in_err-ty-clause-among c =
    λ n x e is. within_is n closed_size (write_component (entries_of (named_entities c.args.imports.now)) (entries_of (named_entities c.args.exports.now)) (scopes c.args.state.now)) x (c.in_err-ty.ensures.among n (told c.from_residual.result _ n c.from_residual.ensures.1 e)) is

pub component_type-requires-clause-possible : goal.component_type-requires-clause-possible
component_type-requires-clause-possible c =
    ap is_some (c.what_is_known_is_written.ensures.component (entries_of (named_entities c.args.imports.now)) (entries_of (named_entities c.args.exports.now)) (scopes c.args.state.now) c.requires.known c.requires.imports c.requires.exports).1
