use Rattle.std.proofs.Common.{ℕ, List, Some, ap, refl}
use Rattle.warg_info.specs.Info.{operator_log}
use Rattle.warg_info.specs.Kept.{Kept}
use Rattle.warg_page.specs.Logs.{Logs}
use Rattle.warg_fetch.specs.declared.group.GroupUpdate.{GroupUpdate}
use Rattle.warg_fetch.proofs.GroupLaws.{group_filed, same_logs}
use Rattle.warg_fetch.proofs.group.group_update.Goals as goal

pub returns-clause-logs : goal.returns-clause-logs
returns-clause-logs c =
    let proved = c.args.updated.proved in
    let with : List (List ℕ × List Kept) → Logs = λ l. record { operator = operator_log proved.operator; packages = l } in
    ap with (same_logs c.args.registry proved.checkpoint.contents c.in_ok-packages.packages.items proved.packages.items c.in_ok-packages.ensures.filed)

pub returns-clause-writes : goal.returns-clause-writes
returns-clause-writes c = λ xs.
    let proved = c.args.updated.proved in
    let got : GroupUpdate = record {
      registry = c.args.registry;
      operator = record { registry = c.in_ok-operator.field-0; checkpoint = Some proved.checkpoint.contents; log = proved.operator.log };
      packages = c.in_ok-packages.packages;
      checkpoint = proved.checkpoint;
      pages_left = c.args.updated.pages_left;
    } in
    group_filed got proved.packages.items xs c.in_ok-operator.ensures refl c.in_ok-packages.ensures.filed

pub returns-clause-good : goal.returns-clause-good
returns-clause-good c = λ accepts operator are. record {
  operator = record { sound = operator.sound; lawful = operator.lawful };
  packages = c.in_ok-packages.ensures.good accepts are;
}
