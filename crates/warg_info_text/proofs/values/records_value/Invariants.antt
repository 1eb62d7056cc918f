-- the records so far
use Rattle.std.proofs.Common.{◌≡◌, map, take}
use Rattle.std.specs.List.{AllByRecursion}
use Rattle.serde_json.specs.View.{view}
use Rattle.warg_info.specs.Info.{kept_view}
use Rattle.warg_info_text.specs.StoredTexts.{kept_data}
use Rattle.warg_info_text.specs.Writable.{IsWritable}
use Rattle.warg_info_text.proofs.values.records_value.Given as goal

abbrev pub invariant-loop-kept : goal.invariant-loop-kept
invariant-loop-kept g l =
    let so_far = map (kept_view g.E.LogEntry.plain) (take l.kept-index l.records) in
    (map view l.values.items ≡ map kept_data so_far) × AllByRecursion IsWritable so_far
