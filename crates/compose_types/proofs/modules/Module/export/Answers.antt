use Rattle.std.proofs.Common.{◌≡◌, sym, ap, subst, ◌∙◌}
use Rattle.compose_writing.specs.WriteModules.{module_export}
use Rattle.compose_types.specs.Modules.{IsCounted, module_scope}
use Rattle.compose_types.proofs.ModuleLaws.{before_export_too_large, export_counted, export_named, export_refused, export_too_large, exports_end, exports_step}
use Rattle.compose_types.proofs.RefusalLaws.{told}
use Rattle.compose_types.proofs.modules.Module.export.Goals as goal

pub loop-export-preserved : goal.loop-export-preserved
loop-export-preserved c =
    let x = c.export-item.result in
    let m = module_scope c.loop-export.self in
    let next = module_scope (record { ty = c.export.new.self; types = c.describe.new.self.types }) in
    let named : next ≡ module_export x m =
    export_named x m (module_scope c.describe.new.self) next c.in_ok-desc.desc c.as_str.result.now c.in_ok-desc.ensures.before c.in_ok-desc.ensures.described c.as_str.ensures
    (ap (λ ds. record { decls = ds; types = c.describe.new.self.types }) c.in_ok-export.ensures.added) in
    record {
      written = exports_step c.args.exports.now c.loop-export.export-index x m next c.loop-export-test.true c.export-item.is named ∙ c.loop-export.invariant.written;
      counted = λ h. subst IsCounted (sym named) (export_counted x m (c.loop-export.invariant.counted h));
    }

pub returns-clause-written : goal.returns-clause-written
returns-clause-written c = exports_end c.args.exports.now c.loop-export.export-index (module_scope c.loop-export.self) _ c.loop-export-test.false c.loop-export.invariant.written

pub returns-in_err-desc-clause-too_large : goal.returns-in_err-desc-clause-too_large
returns-in_err-desc-clause-too_large c = λ counted n e.
    before_export_too_large c.args.exports.now c.loop-export.export-index c.export-item.result (module_scope c.loop-export.self) _ n c.loop-export-test.true c.export-item.is c.loop-export.invariant.written
    (c.in_err-desc.ensures.too_large (c.loop-export.invariant.counted counted) n (told c.from_residual.result _ n c.from_residual.ensures.1 e))

pub returns-in_err-export-clause-too_large : goal.returns-in_err-export-clause-too_large
returns-in_err-export-clause-too_large c = λ counted n e.
    let refused = c.in_err-export.ensures.too_large n (told c.from_residual-in_err-export.result _ n c.from_residual-in_err-export.ensures.1 e) in
    export_too_large c.args.exports.now c.loop-export.export-index c.export-item.result (module_scope c.loop-export.self) _ n c.loop-export-test.true c.export-item.is c.loop-export.invariant.written
    (export_refused c.export-item.result (module_scope c.loop-export.self) (module_scope c.describe.new.self) c.as_str.result.now n c.in_ok-desc.ensures.before c.as_str.ensures refused.0 refused.1)
