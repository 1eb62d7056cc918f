use Rattle.std.proofs.Common.{arith}
use Rattle.compose_types.specs.Modules.{module_scope}
use Rattle.compose_types.proofs.ModuleLaws.{func_too_large}
use Rattle.compose_types.proofs.RefusalLaws.{told}
use Rattle.compose_types.proofs.modules.Module.describe.Goals as goal

pub returns-in_err-types-in-Func-clause-too_large : goal.returns-in_err-types-in-Func-clause-too_large
returns-in_err-types-in-Func-clause-too_large c = λ counted n e.
    let from = told c.from_residual-in_err-types-in-Func.result c.in_err-types-in-Func.field-0.0 n c.from_residual-in_err-types-in-Func.ensures.1 e in
    let number = c.in_err-types-in-Func.ensures.number n from in
    func_too_large c.args.shape.now _ _ (module_scope c.args.self.now) n c.in-Func.is (c.in_err-types-in-Func.ensures.too_large n from) (omega (arith, number, counted))

pub returns-in_err-core_ty-in-Func-clause-too_large : goal.returns-in_err-core_ty-in-Func-clause-too_large
returns-in_err-core_ty-in-Func-clause-too_large c = λ counted n e.
    let refused = c.in_err-core_ty-in-Func.ensures.too_large n (told c.from_residual-in_err-core_ty-in-Func.result _ n c.from_residual-in_err-core_ty-in-Func.ensures.1 e) in
    func_too_large c.args.shape.now _ _ (module_scope c.args.self.now) n c.in-Func.is refused.0 (omega (arith, refused.1))
