use Rattle.std.proofs.Common.{arith}
use Rattle.std.proofs.lemmas.Result.{err_from_is_err_and}
use Rattle.std.specs.Option.{option_copied}
use Rattle.warg_fetch.proofs.GroupWrites.{package_more, package_refused}
use Rattle.warg_fetch.proofs.group.keep_packages.Goals as goal

pub returns-in_err-store_package-clause-refused : goal.returns-in_err-store_package-clause-refused
returns-in_err-store_package-clause-refused g c =
    let q = err_from_is_err_and c.from_residual.result c.from_residual.ensures.1 in
    rw q.1 (package_refused _ _ _ (option_copied c.args.registry) c.args.packages.now c.loop-info.info-index c.info-item.result c.loop-info-test.true c.info-item.is c.loop-info.invariant.kept c.in_err-store_package.ensures.refused)

pub loop-info-preserved : goal.loop-info-preserved
loop-info-preserved g c = record {
  faults = omega (arith, c.loop-info.invariant.faults, c.store_package.ensures.never_falls);
  kept = package_more _ _ _ (option_copied c.args.registry) c.args.packages.now c.loop-info.info-index c.info-item.result c.loop-info-test.true c.info-item.is c.loop-info.invariant.kept c.in_ok-store_package.ensures.stored;
}
