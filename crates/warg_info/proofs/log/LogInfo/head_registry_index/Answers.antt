use Rattle.std.proofs.Common.{◌≡◌, ◌-◌, Some, sym, ap, length}
use Rattle.std.specs.Prelude.{slice_get}
use Rattle.warg_info.specs.Kept.{index_of}
use Rattle.warg_info.specs.Info.{kept_view}
use Rattle.warg_info.proofs.KeptLaws.{last-at}
use Rattle.warg_info.proofs.log.LogInfo.head_registry_index.Goals as goal

pub returns : goal.returns
returns g c =
    let items = c.args.self.now.records.items in
    let at : slice_get items (length items - 1) ≡ Some c.in_ok-last.last.now = sym (rw c.as_slice.ensures.value at c.in_ok-last.ensures.value) in
    sym (ap index_of (last-at (kept_view g.E.LogEntry.plain) items c.in_ok-last.last.now at))
