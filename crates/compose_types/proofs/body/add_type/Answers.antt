use Rattle.std.proofs.Common.{◌≡◌, ◌+◌, sym, subst}
use Rattle.std.specs.Prelude.{◌⊎◌, ℕ}
use Rattle.comp_encoder.specs.Builder.{entries_of}
use Rattle.comp_encoder.specs.Writing.{next_index}
use Rattle.comp_format.specs.declared.types.Sort.TheVariants as sort
use Rattle.compose_types.proofs.LargestLaws.{defined_size, func_size}
use Rattle.compose_types.proofs.RefusalLaws.{told}
use Rattle.compose_types.proofs.body.add_type.Goals as goal

pub returns-in_err-type_defined-in-Defined-clause-among : goal.returns-in_err-type_defined-in-Defined-clause-among
returns-in_err-type_defined-in-Defined-clause-among c =
    λ n e. subst (λ (m : ℕ). (n ≡ m) ⊎ (n ≡ next_index sort.Ty (entries_of c.args.builder.now) + 1)) (sym (defined_size c.args.ty.now c.in-Defined.ty c.in-Defined.is)) (c.in_err-type_defined-in-Defined.ensures.too_large n (told c.from_residual.result _ n c.from_residual.ensures.1 e)).1

pub returns-in_err-type_function-in-Func-clause-among : goal.returns-in_err-type_function-in-Func-clause-among
returns-in_err-type_function-in-Func-clause-among c =
    λ n e. subst (λ (m : ℕ). (n ≡ m) ⊎ (n ≡ next_index sort.Ty (entries_of c.args.builder.now) + 1)) (sym (func_size c.args.ty.now c.in-Func.ty c.in-Func.is)) (c.in_err-type_function-in-Func.ensures.too_large n (told c.from_residual-in_err-type_function-in-Func.result _ n c.from_residual-in_err-type_function-in-Func.ensures.1 e)).1
