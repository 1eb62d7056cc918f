use Rattle.std.proofs.Common.{◌≡◌, Some, IfSome, subst, sym}
use Rattle.compose_files.specs.Composable.{IsComposable}
use Rattle.compose_files.specs.Refused.{IsRefused}
use Rattle.compose_files.specs.View.{root_of, sources}
use Rattle.warg_program.specs.Compose.{IsNotComposed}
use Rattle.warg_program.proofs.ComposeLaws.{if_told, memory_is, uncomposed}
use Rattle.warg_program.proofs.compose.composed_by.Goals as goal

pub returns-in-Err-clause-cause : goal.returns-in-Err-clause-cause
returns-in-Err-clause-cause g c =
    let told = g.F.Files.told c.args.files.now in
    let root = c.args.root.now in
    let config = c.args.config.now in
    let e = c.in-Err.error in
    let refused_by : (held : _) → told ≡ Some held → IsRefused root (sources config held) e = λ held is.
    subst (λ r. IsRefused r (sources config held) e) c.new.ensures.root
    (subst (λ s. IsRefused (root_of c.new.result) (sources s held) e) c.new.ensures.config (c.in-Err.ensures.refused held is)) in
    let able_by : (held : _) → IsComposable root (sources config held) → IsComposable (root_of c.new.result) (sources c.new.result.config.now held) = λ held can.
    subst (λ s. IsComposable (root_of c.new.result) (sources s held)) (sym c.new.ensures.config) (subst (λ r. IsComposable r (sources config held)) (sym c.new.ensures.root) can) in
    rw (c.stop_of.ensures) (uncomposed root (λ Holds. IfSome told (λ held. Holds (sources config held))) _ _ e
    (if_told told (λ held. IsRefused root (sources config held) e) refused_by)
    (λ calm not_memory. if_told told (λ held. IsNotComposed root e (sources config held)) (λ held is. record {
      refused = refused_by held is;
      not_composable = λ can. not_memory (memory_is e (c.in-Err.ensures.able held is (able_by held can) calm));
    }))
    c.in-Err.ensures.failed)
