use Rattle.compose_types.specs.Scopes.{scopes}
use Rattle.comp_entity.specs.Views.{value_tree}
use Rattle.compose_types.proofs.ValueLargestLaws.{own_type_refused}
use Rattle.compose_types.proofs.RefusalLaws.{told}
use Rattle.compose_types.proofs.ValuePossibleLaws.{own_type_possible}
use Rattle.compose_types.proofs.values.own_index.Goals as goal

pub returns-in_err-defined-clause-among : goal.returns-in_err-defined-clause-among
returns-in_err-defined-clause-among c =
    λ n e. own_type_refused n (value_tree c.args.ty.now) (scopes c.args.state.now) (c.in_err-defined.ensures.among n (told c.from_residual.result _ n c.from_residual.ensures.1 e))

pub defined_of-requires-clause-possible : goal.defined_of-requires-clause-possible
defined_of-requires-clause-possible c = own_type_possible (value_tree c.args.ty.now) (scopes c.args.state.now) c.requires.possible
