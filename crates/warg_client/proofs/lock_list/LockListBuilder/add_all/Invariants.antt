use Rattle.std.proofs.Common.{◌≡◌, map, take}
use Rattle.std.specs.Prelude.{fold}
use Rattle.warg_plan.specs.View.{entry_view}
use Rattle.warg_client.specs.LockList.{imports_among, listed_in, with_import}
use Rattle.warg_client.proofs.lock_list.LockListBuilder.add_all.Given as goal

abbrev pub invariant-loop-entry : goal.invariant-loop-entry
invariant-loop-entry l = listed_in l.self ≡ fold with_import (listed_in l.fn.self) (imports_among (map entry_view (take l.entry-index l.entries)))
