use Rattle.std.proofs.Common.{◌≡◌, sym, ap, subst, ◌∙◌}
use Rattle.compose_writing.specs.WriteModules.{module_import}
use Rattle.compose_types.specs.Modules.{IsCounted, module_scope}
use Rattle.compose_types.proofs.ModuleLaws.{before_import_too_large, import_counted, import_named, import_refused, import_too_large, imports_end, imports_step}
use Rattle.compose_types.proofs.RefusalLaws.{told}
use Rattle.compose_types.proofs.modules.Module.import.Goals as goal

pub loop-import-preserved : goal.loop-import-preserved
loop-import-preserved c =
    let x = c.import-item.result in
    let m = module_scope c.loop-import.self in
    let next = module_scope (record { ty = c.import.new.self; types = c.describe.new.self.types }) in
    let named : next ≡ module_import x m =
    import_named x m (module_scope c.describe.new.self) next c.in_ok-desc.desc c.as_str.result.now c.as_str-in-loop-import.result.now c.in_ok-desc.ensures.before c.in_ok-desc.ensures.described c.as_str.ensures c.as_str-in-loop-import.ensures
    (ap (λ ds. record { decls = ds; types = c.describe.new.self.types }) c.in_ok-import.ensures.added) in
    record {
      written = imports_step c.args.imports.now c.loop-import.import-index x m next c.loop-import-test.true c.import-item.is named ∙ c.loop-import.invariant.written;
      counted = λ h. subst IsCounted (sym named) (import_counted x m (c.loop-import.invariant.counted h));
    }

pub returns-clause-written : goal.returns-clause-written
returns-clause-written c = imports_end c.args.imports.now c.loop-import.import-index (module_scope c.loop-import.self) _ c.loop-import-test.false c.loop-import.invariant.written

pub returns-in_err-desc-clause-too_large : goal.returns-in_err-desc-clause-too_large
returns-in_err-desc-clause-too_large c = λ counted n e.
    before_import_too_large c.args.imports.now c.loop-import.import-index c.import-item.result (module_scope c.loop-import.self) _ n c.loop-import-test.true c.import-item.is c.loop-import.invariant.written
    (c.in_err-desc.ensures.too_large (c.loop-import.invariant.counted counted) n (told c.from_residual.result _ n c.from_residual.ensures.1 e))

pub returns-in_err-import-clause-too_large : goal.returns-in_err-import-clause-too_large
returns-in_err-import-clause-too_large c = λ counted n e.
    let refused = c.in_err-import.ensures.too_large n (told c.from_residual-in_err-import.result _ n c.from_residual-in_err-import.ensures.1 e) in
    import_too_large c.args.imports.now c.loop-import.import-index c.import-item.result (module_scope c.loop-import.self) _ n c.loop-import-test.true c.import-item.is c.loop-import.invariant.written
    (import_refused c.import-item.result (module_scope c.loop-import.self) (module_scope c.describe.new.self) c.as_str.result.now c.as_str-in-loop-import.result.now n c.in_ok-desc.ensures.before c.as_str.ensures c.as_str-in-loop-import.ensures refused.0 refused.1)
