-- What clauses see of a registry.
use Rattle.std.specs.Prelude.{ℕ, List, map}
use Rattle.warg_record.specs.Envelope.{Signed}
use Rattle.warg_record.specs.View.{envelope_view, operator_entry_view, package_entry_view}
use Rattle.warg_model.specs.declared.registry.ModelRegistry.{ModelRegistry}
use Rattle.warg_model.specs.declared.registry.LoggedRecord.{LoggedRecord}
use Rattle.warg_model.specs.Held.{Held, IsModel}

-- a record with the id of its log
abbrev pub logged_view : LoggedRecord → List ℕ × Signed
logged_view r = (r.log_id, envelope_view package_entry_view r.envelope)

-- what a registry holds
abbrev pub held : ModelRegistry → Held
held r = record {
  key = r.key;
  opening = envelope_view operator_entry_view r.opening;
  published = map logged_view r.records.items;
  checkpoints = r.checkpoints.items;
  latest = r.latest;
}

-- it is a registry of its key
abbrev pub IsSound : ModelRegistry → Type 0
IsSound r = IsModel (held r)
