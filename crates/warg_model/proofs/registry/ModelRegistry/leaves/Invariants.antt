use Rattle.std.proofs.Common.{◌≡◌, ◌∷◌, map, take}
use Rattle.warg_hash.specs.Hash.{operator_log_id}
use Rattle.warg_record.specs.View.{envelope_view, operator_entry_view}
use Rattle.warg_model.specs.Hashes.{leaf_of}
use Rattle.warg_model.specs.State.{logged_view}
use Rattle.warg_model.proofs.registry.ModelRegistry.leaves.Given as goal

abbrev pub invariant-loop-record : goal.invariant-loop-record
invariant-loop-record l = l.leaves.items ≡ leaf_of (operator_log_id, envelope_view operator_entry_view l.self.opening) ∷ map leaf_of (map logged_view (take l.record-index l.record-items))
