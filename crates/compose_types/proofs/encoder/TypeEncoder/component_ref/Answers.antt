use Rattle.std.proofs.Common.{ap}
use Rattle.std.specs.Prelude.{is_some}
use Rattle.compose_types.proofs.EntityPossibleLaws.{sides_possible}
use Rattle.compose_types.proofs.InnerLaws.{some_scope}
use Rattle.compose_types.specs.Scopes.{scopes}
use Rattle.comp_entity.specs.Views.{entries_of, named_entities}
use Rattle.comp_format.specs.Views.{component_type_tree}
use Rattle.comp_entity.specs.Entity.{IsComponent}
use Rattle.compose_writing.specs.WriteEntities.{write_entity}
use Rattle.compose_types.specs.Largest.{written_size}
use Rattle.compose_types.proofs.EntityLaws.{tree_component}
use Rattle.compose_types.proofs.LargestLaws.{within_is}
use Rattle.compose_types.proofs.EntityLargestLaws.{sides_added_refused, sides_refused}
use Rattle.compose_types.proofs.RefusalLaws.{told}
use Rattle.compose_types.proofs.encoder.TypeEncoder.component_ref.Goals as goal

pub returns-in_err-ty-clause-among : goal.returns-in_err-ty-clause-among
returns-in_err-ty-clause-among c = λ n x e is.
    within_is n written_size (write_entity (IsComponent (entries_of (named_entities c.args.imports.now)) (entries_of (named_entities c.args.exports.now))) (scopes c.args.state.now)) x (sides_refused n (entries_of (named_entities c.args.imports.now)) (entries_of (named_entities c.args.exports.now)) (scopes c.args.state.now) (c.in_err-ty.ensures.among n (told c.from_residual.result _ n c.from_residual.ensures.1 e))) is

pub returns-in_err-index-clause-among : goal.returns-in_err-index-clause-among
returns-in_err-index-clause-among c = λ n x e is.
    within_is n written_size (write_entity (IsComponent (entries_of (named_entities c.args.imports.now)) (entries_of (named_entities c.args.exports.now))) (scopes c.args.state.now)) x
    (sides_added_refused n (entries_of (named_entities c.args.imports.now)) (entries_of (named_entities c.args.exports.now)) (scopes c.args.state.now) (scopes c.component_type.new.state) (component_type_tree c.in_ok-ty.ty) c.in_ok-ty.ensures.written
    (rw (tree_component c.in_ok-ty.ty) at (c.in_err-index.ensures.among n (told c.from_residual-in_err-index.result _ n c.from_residual-in_err-index.ensures.1 e)))) is

pub component_type-requires-clause-possible : goal.component_type-requires-clause-possible
component_type-requires-clause-possible c =
    let imports = entries_of (named_entities c.args.imports.now) in
    let exports = entries_of (named_entities c.args.exports.now) in
    let ms = scopes c.args.state.now in
    sides_possible imports exports ms (ap is_some (c.what_is_known_is_written.ensures.entity (IsComponent imports exports) ms (some_scope c.args.state.now) c.requires.known c.requires.form).1)
