use Rattle.std.proofs.Common.{None, refl}
use Rattle.std.proofs.lemmas.Result.{err_from_is_err_and}
use Rattle.std.specs.Option.{option_copied}
use Rattle.warg_fetch.proofs.GroupWrites.{checkpoint_refused, group_stored, operator_refused, packages_refused}
use Rattle.warg_fetch.proofs.group.keep_group.Goals as goal

pub returns-in_err-store_operator-clause-refused : goal.returns-in_err-store_operator-clause-refused
returns-in_err-store_operator-clause-refused g c =
    let q = err_from_is_err_and c.from_residual.result c.from_residual.ensures.1 in
    rw q.1 (operator_refused _ None None _ (option_copied c.as_ref-registry.result) c.args.update.now c.args.update.now.packages.items c.as_ref-registry.ensures.value refl c.in_err-store_operator.ensures.refused)

pub returns-in_err-keep_packages-clause-refused : goal.returns-in_err-keep_packages-clause-refused
returns-in_err-keep_packages-clause-refused g c =
    let q = err_from_is_err_and c.from_residual-in_err-keep_packages.result c.from_residual-in_err-keep_packages.ensures.1 in
    rw q.1 (packages_refused _ _ None _ (option_copied c.as_ref-registry.result) c.args.update.now c.as_slice.result.now c.as_ref-registry.ensures.value c.as_slice.ensures.value c.in_ok-store_operator.ensures.stored c.in_err-keep_packages.ensures.refused)

pub returns-in_err-store_checkpoint-clause-refused : goal.returns-in_err-store_checkpoint-clause-refused
returns-in_err-store_checkpoint-clause-refused g c =
    let q = err_from_is_err_and c.from_residual-in_err-store_checkpoint.result c.from_residual-in_err-store_checkpoint.ensures.1 in
    rw q.1 (checkpoint_refused _ _ _ _ (option_copied c.as_ref-registry.result) c.args.update.now c.as_slice.result.now c.as_ref-registry.ensures.value c.as_slice.ensures.value c.in_ok-store_operator.ensures.stored c.in_ok-keep_packages.ensures.stored c.in_err-store_checkpoint.ensures.refused)

pub returns-clause-stored : goal.returns-clause-stored
returns-clause-stored g c =
    group_stored _ _ _ _ (option_copied c.as_ref-registry.result) c.args.update.now c.as_slice.result.now c.as_ref-registry.ensures.value c.as_slice.ensures.value c.in_ok-store_operator.ensures.stored c.in_ok-keep_packages.ensures.stored c.in_ok-store_checkpoint.ensures.stored
