use Rattle.std.proofs.Common.{◌≡◌, ◌+◌, ◌∷◌, map, take}
use Rattle.warg_hash.specs.Hash.{operator_log_id}
use Rattle.warg_record.specs.View.{envelope_view, operator_entry_view}
use Rattle.warg_model.specs.Pages.{published_behind}
use Rattle.warg_model.specs.State.{logged_view}
use Rattle.warg_model.proofs.registry.ModelRegistry.records_behind.Given as goal

abbrev pub invariant-loop-record : goal.invariant-loop-record
invariant-loop-record l = record {
  place : l.place ≡ l.record-index + 1;
  published : l.published.items ≡ published_behind l.id l.after 0 ((operator_log_id, envelope_view operator_entry_view l.self.opening) ∷ map logged_view (take l.record-index l.record-items));
}
