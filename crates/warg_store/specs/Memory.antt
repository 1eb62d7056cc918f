-- What stores in memory hold.
use Rattle.std.specs.Prelude.{Bool, Option, Some, None}
use Rattle.warg_publish.specs.Publish.{PlainPublishInfo}
use Rattle.warg_publish.specs.Shown.{info_view}
use Rattle.warg_store.specs.declared.after.After.{After}
use Rattle.warg_store.specs.declared.after.After.TheVariants as after
use Rattle.warg_store.specs.declared.memory_registry.MemoryRegistry.{MemoryRegistry}
use Rattle.warg_store.specs.Entry.{Entry, Whole, Unreadable}
use Rattle.warg_store.specs.Faults.{Schedule}
use Rattle.warg_store.specs.Held.{Held, SameHeld, after_reset, is_registry, is_package, operator_info, named_info, with_publish}
use Rattle.warg_store.specs.Schedules.{schedule_of}
use Rattle.warg_store.specs.Slots.{entries_in, entry_in, entry_after}

abbrev pub held_in : MemoryRegistry → Held
held_in store = record {
  checkpoints = entries_in is_registry (λ c. c) store.checkpoints;
  operators = entries_in is_registry operator_info store.operators;
  packages = entries_in is_package named_info store.packages;
  publish = entry_in info_view store.publish;
}

abbrev pub schedule_in : MemoryRegistry → Schedule
schedule_in store = schedule_of store.schedule

-- what is held after a store of a value in an entry, which may be to fail and leave this
abbrev pub IsAfterStore : {X : Type 0} → Option After → Held → (Entry X → Held) → X → Held → Type 0
IsAfterStore None held with_it x now = SameHeld now (with_it (Whole x))
IsAfterStore (Some after.Old) held with_it x now = SameHeld now held
IsAfterStore (Some after.New) held with_it x now = SameHeld now (with_it (Whole x))
IsAfterStore (Some after.Unreadable) held with_it x now = SameHeld now (with_it Unreadable)

-- what is held after a store of what is to be published, which may be to fail and leave this
abbrev pub IsAfterPublish : Option After → Held → Option PlainPublishInfo → Held → Type 0
IsAfterPublish failing held info now = SameHeld now (with_publish held (entry_after failing held.publish info))

-- what is held after a reset, which may be to fail and leave this: no entry becomes what can't be read
abbrev pub IsAfterReset : Option After → Bool → Held → Held → Type 0
IsAfterReset None all held now = SameHeld now (after_reset all held)
IsAfterReset (Some after.Old) all held now = SameHeld now held
IsAfterReset (Some after.New) all held now = SameHeld now (after_reset all held)
IsAfterReset (Some after.Unreadable) all held now = SameHeld now held
