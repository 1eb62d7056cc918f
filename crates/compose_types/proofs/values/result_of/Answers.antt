use Rattle.compose_types.specs.Scopes.{scopes}
use Rattle.compose_types.proofs.ValueLargestLaws.{held_refused}
use Rattle.compose_types.proofs.RefusalLaws.{told}
use Rattle.compose_types.proofs.ValuePossibleLaws.{held_possible}
use Rattle.compose_types.proofs.values.result_of.Goals as goal

pub returns-in_err-ty-in-Some-clause-among : goal.returns-in_err-ty-in-Some-clause-among
returns-in_err-ty-in-Some-clause-among c =
    λ n e. held_refused n c.args.held.now c.in-Some.ty (scopes c.args.state.now) c.in-Some.is (c.in_err-ty-in-Some.ensures.among n (told c.from_residual.result _ n c.from_residual.ensures.1 e))

pub value_of-requires-clause-possible : goal.value_of-requires-clause-possible
value_of-requires-clause-possible c = held_possible c.args.held.now c.in-Some.ty (scopes c.args.state.now) c.in-Some.is c.requires.possible
