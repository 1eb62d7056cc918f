use Rattle.std.proofs.Common.{sym}
use Rattle.compose_types.specs.Scopes.{scopes}
use Rattle.compose_types.proofs.ValueLaws.{func_keeps, func_form, func_written, tree_func}
use Rattle.compose_types.proofs.ValueLargestLaws.{func_refused, params_refused, result_refused}
use Rattle.compose_types.proofs.RefusalLaws.{told}
use Rattle.compose_types.proofs.ValuePossibleLaws.{params_possible, result_possible}
use Rattle.compose_types.proofs.values.func_index.Goals as goal

pub fields_of-requires-clause-form : goal.fields_of-requires-clause-form
fields_of-requires-clause-form c = rw c.deref.ensures.value (func_keeps c.args.func.now c.requires.form)

pub fields_of-requires-clause-possible : goal.fields_of-requires-clause-possible
fields_of-requires-clause-possible c = rw c.deref.ensures.value (params_possible c.args.func.now (scopes c.args.state.now) c.requires.possible)

pub result_of-requires-clause-possible : goal.result_of-requires-clause-possible
result_of-requires-clause-possible c =
    result_possible c.args.func.now (scopes c.args.state.now) c.requires.possible (scopes c.fields_of.new.state) c.in_ok-params.params (rw (sym c.deref.ensures.value) c.in_ok-params.ensures.written)

pub add_type-requires-clause-form : goal.add_type-requires-clause-form
add_type-requires-clause-form c = rw (tree_func (record { params = c.in_ok-params.params; result = c.in_ok-result.result })) (func_form c.args.func.now (scopes c.args.state.now) (scopes c.fields_of.new.state) c.in_ok-params.params c.requires.form (rw (sym c.deref.ensures.value) c.in_ok-params.ensures.written))

pub returns-clause-written : goal.returns-clause-written
returns-clause-written c =
    func_written c.args.func.now (scopes c.args.state.now) (scopes c.fields_of.new.state) (scopes c.result_of.new.state) (scopes c.add_type.new.self) c.in_ok-params.params c.in_ok-result.result c.in_ok-index.index
    (rw (sym c.deref.ensures.value) c.in_ok-params.ensures.written) c.in_ok-result.ensures.written (rw (tree_func (record { params = c.in_ok-params.params; result = c.in_ok-result.result })) at c.in_ok-index.ensures.added)

pub returns-in_err-params-clause-among : goal.returns-in_err-params-clause-among
returns-in_err-params-clause-among c =
    λ n e. params_refused n c.args.func.now (scopes c.args.state.now) (rw c.deref.ensures.value at (c.in_err-params.ensures.among n (told c.from_residual.result _ n c.from_residual.ensures.1 e)))

pub returns-in_err-result-clause-among : goal.returns-in_err-result-clause-among
returns-in_err-result-clause-among c = λ n e.
    result_refused n c.args.func.now (scopes c.args.state.now) (scopes c.fields_of.new.state) c.in_ok-params.params (rw (sym c.deref.ensures.value) c.in_ok-params.ensures.written) (c.in_err-result.ensures.among n (told c.from_residual-in_err-result.result _ n c.from_residual-in_err-result.ensures.1 e))

pub returns-in_err-index-clause-among : goal.returns-in_err-index-clause-among
returns-in_err-index-clause-among c = λ n e.
    func_refused n c.args.func.now (scopes c.args.state.now) (scopes c.fields_of.new.state) (scopes c.result_of.new.state) c.in_ok-params.params c.in_ok-result.result
    (rw (sym c.deref.ensures.value) c.in_ok-params.ensures.written) c.in_ok-result.ensures.written (rw (tree_func (record { params = c.in_ok-params.params; result = c.in_ok-result.result })) at (c.in_err-index.ensures.among n (told c.from_residual-in_err-index.result _ n c.from_residual-in_err-index.ensures.1 e)))
