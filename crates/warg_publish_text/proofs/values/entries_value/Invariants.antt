-- the entries so far
use Rattle.std.proofs.Common.{◌≡◌, map, take}
use Rattle.std.specs.List.{AllByRecursion}
use Rattle.serde_json.specs.View.{view}
use Rattle.warg_publish.specs.Shown.{entry_view}
use Rattle.warg_publish_text.specs.PublishText.{entry_data}
use Rattle.warg_publish_text.specs.ReadsBack.{ReadsBack}
use Rattle.warg_publish_text.proofs.values.entries_value.Given as goal

abbrev pub invariant-loop-entry : goal.invariant-loop-entry
invariant-loop-entry l =
    let so_far = map entry_view (take l.entry-index l.entries) in
    (map view l.values.items ≡ map entry_data so_far) × AllByRecursion ReadsBack so_far
