-- What slots in memory hold.
use Rattle.std.specs.Prelude.{Bool, Option, Some, None}
use Rattle.indexmap.specs.IndexMap.{get}
use Rattle.warg_store.specs.declared.after.After.{After}
use Rattle.warg_store.specs.declared.after.After.TheVariants as after
use Rattle.warg_store.specs.declared.slots.Slot.{Slot}
use Rattle.warg_store.specs.declared.slots.Slot.TheVariants as slot
use Rattle.warg_store.specs.declared.slots.SlotMap.{SlotMap}
use Rattle.warg_store.specs.declared.one_slot.OneSlot.{OneSlot}
use Rattle.warg_store.specs.Entry.{Entry, Absent, Whole, Unreadable, SameEntries, entry_of, with_entry}

-- the entry that a slot is, where a value is seen by view
abbrev pub slot_entry : {T X : Type 0} → (T → X) → Option (Slot T) → Entry X
slot_entry view None = Absent
slot_entry view (Some (slot.Whole value)) = Whole (view value)
slot_entry view (Some slot.Unreadable) = Unreadable

-- the entries that slots are
abbrev pub entries_in : {K T X : Type 0} → (K → K → Bool) → (T → X) → SlotMap K T → K → Entry X
entries_in is_key view slots k = slot_entry view (get is_key slots.slots k)

-- the entry that a slot without a key is
abbrev pub entry_in : {T X : Type 0} → (T → X) → OneSlot T → Entry X
entry_in view one = slot_entry view one.slot

-- the entry after a store of a value, or after it was taken away, which may be to fail: what was to be taken away
-- doesn't become what can't be read
abbrev pub entry_after : {X : Type 0} → Option After → Entry X → Option X → Entry X
entry_after None held o = entry_of o
entry_after (Some after.Old) held o = held
entry_after (Some after.New) held o = entry_of o
entry_after (Some after.Unreadable) held None = held
entry_after (Some after.Unreadable) held (Some x) = Unreadable

-- the entries after a store of a value under a key, which may be to fail
abbrev pub AreAfterStore : {K X : Type 0} → (K → K → Bool) → Option After → (K → Entry X) → K → X → (K → Entry X) → Type 0
AreAfterStore is_key None held key x now = SameEntries now (with_entry is_key held key (Whole x))
AreAfterStore is_key (Some after.Old) held key x now = SameEntries now held
AreAfterStore is_key (Some after.New) held key x now = SameEntries now (with_entry is_key held key (Whole x))
AreAfterStore is_key (Some after.Unreadable) held key x now = SameEntries now (with_entry is_key held key Unreadable)
