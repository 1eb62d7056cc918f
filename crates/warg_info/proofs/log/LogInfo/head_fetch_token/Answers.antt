use Rattle.std.proofs.Common.{◌≡◌, ◌-◌, Some, sym, ap, length}
use Rattle.std.specs.Prelude.{slice_get, option_map}
use Rattle.warg_info.specs.Kept.{Kept}
use Rattle.warg_info.specs.Info.{kept_view}
use Rattle.warg_info.proofs.KeptLaws.{last-at}
use Rattle.warg_info.proofs.log.LogInfo.head_fetch_token.Goals as goal

pub returns : goal.returns
returns g c =
    let items = c.args.self.now.records.items in
    let at : slice_get items (length items - 1) ≡ Some c.in_ok-last.last.now = sym (rw c.as_slice.ensures.value at c.in_ok-last.ensures.value) in
    sym (ap (option_map (λ (k : Kept). k.fetch_token)) (last-at (kept_view g.E.LogEntry.plain) items c.in_ok-last.last.now at))
