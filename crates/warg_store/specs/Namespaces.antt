-- The registries of namespaces that a store holds.
use Rattle.std.specs.Prelude.{◌≡◌, ◌⊎◌, ℕ, List, [], Option, Some, None, bytes_eq}
use Rattle.indexmap.specs.IndexMap.{insert_entry}
use Rattle.warg_store.specs.declared.after.After.{After}
use Rattle.warg_store.specs.declared.after.After.TheVariants as after
use Rattle.warg_store.specs.Entry.{Entry, Absent, Whole, Unreadable}

-- namespaces with the names of their registries, in the order in which they came
abbrev pub Names : Type 0
Names = List (List ℕ × List ℕ)

-- the names of an entry, of which there are none where it is missing
abbrev pub names_of : Entry Names → Names
names_of Absent = []
names_of (Whole names) = names
names_of Unreadable = []

-- the names with a registry for a namespace
abbrev pub with_name : Entry Names → List ℕ → List ℕ → Names
with_name held namespace registry = insert_entry bytes_eq (names_of held) namespace registry

-- a refused store of names leaves what was held, the names, or what can't be read
abbrev pub LeavesNames : Option (Entry Names) → Entry Names → Names → Type 0
LeavesNames told held names = (told ≡ Some held) ⊎ (told ≡ Some (Whole names)) ⊎ (told ≡ Some Unreadable)

-- a refused reset leaves what was held, or nothing
abbrev pub LeavesNamesReset : Option (Entry Names) → Entry Names → Type 0
LeavesNamesReset told held = (told ≡ Some held) ⊎ (told ≡ Some Absent)

-- ---- calls that are to fail

-- what is held after a store of names, which may be to fail and leave this
abbrev pub names_after : Option After → Entry Names → Names → Entry Names
names_after None held names = Whole names
names_after (Some after.Old) held names = held
names_after (Some after.New) held names = Whole names
names_after (Some after.Unreadable) held names = Unreadable

-- what is held after a reset, which may be to fail and leave this: no entry becomes what can't be read
abbrev pub names_after_reset : Option After → Entry Names → Entry Names
names_after_reset None held = Absent
names_after_reset (Some after.Old) held = held
names_after_reset (Some after.New) held = Absent
names_after_reset (Some after.Unreadable) held = held
