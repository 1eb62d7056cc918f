use Rattle.std.proofs.Common.{◌≡◌, ℕ, List, sym, ap, subst, arith}
use Rattle.comp_entity.specs.declared.module.CoreShape.{CoreShape}
use Rattle.compose_writing.specs.WriteModules.{module_exports, module_imports}
use Rattle.compose_types.specs.Largest.{IsTooLarge, module_size}
use Rattle.comp_format.specs.Forms.{AreModuleDecls}
use Rattle.compose_types.specs.Modules.{IsCounted, module_scope}
use Rattle.compose_types.proofs.ModuleLaws.{exports_too_large, imports_counted, imports_too_large, module_kept, module_written}
use Rattle.compose_types.proofs.RefusalLaws.{told}
use Rattle.compose_types.proofs.modules.module_type.Goals as goal

pub returns-clause-form : goal.returns-clause-form
returns-clause-form c =
    let start = module_scope (record { ty = c.new.result; types = 0 }) in
    subst AreModuleDecls
    (sym (module_written c.args.«module».now start (module_scope c.import.new.self) (module_scope c.export.new.self) (ap (λ ds. record { decls = ds; types = 0 }) c.new.ensures)
    (rw c.as_slice.ensures at c.in_ok-import.ensures.written) (rw c.as_slice-2.ensures at c.in_ok-export.ensures.written)))
    (module_kept c.args.«module».now c.requires)

pub returns-in_err-import-clause-too_large : goal.returns-in_err-import-clause-too_large
returns-in_err-import-clause-too_large c = λ n e.
    let start = module_scope (record { ty = c.new.result; types = 0 }) in
    imports_too_large c.args.«module».now n start (ap (λ ds. record { decls = ds; types = 0 }) c.new.ensures)
    (subst (λ (xs : List (List ℕ × List ℕ × CoreShape)). IsTooLarge n (module_size (module_imports xs start).decls)) c.as_slice.ensures
    (c.in_err-import.ensures.too_large (omega arith) n (told c.from_residual.result _ n c.from_residual.ensures.1 e)))

pub returns-in_err-export-clause-too_large : goal.returns-in_err-export-clause-too_large
returns-in_err-export-clause-too_large c = λ n e.
    let start = module_scope (record { ty = c.new.result; types = 0 }) in
    let mid : module_scope c.import.new.self ≡ module_imports c.args.«module».now.imports start = rw c.as_slice.ensures at c.in_ok-import.ensures.written in
    exports_too_large c.args.«module».now n start (module_scope c.import.new.self) (ap (λ ds. record { decls = ds; types = 0 }) c.new.ensures) mid
    (subst (λ (xs : List (List ℕ × CoreShape)). IsTooLarge n (module_size (module_exports xs (module_scope c.import.new.self)).decls)) c.as_slice-2.ensures
    (c.in_err-export.ensures.too_large (subst IsCounted (sym mid) (imports_counted c.args.«module».now.imports start (omega arith))) n (told c.from_residual-in_err-export.result _ n c.from_residual-in_err-export.ensures.1 e)))
