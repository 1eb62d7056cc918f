-- What a store holds under a key, and why it is not given.
use Rattle.std.specs.Prelude.{◌≡◌, ◌⊎◌, ℕ, Bool, true, if◌then◌else◌, Option, Some, None, IfSome}
use Rattle.warg_values.specs.Faults.{Rose}
use Rattle.warg_store.specs.declared.error.EntryKind.{EntryKind}
use Rattle.warg_store.specs.declared.error.StoreError.{StoreError}
use Rattle.warg_store.specs.declared.error.StoreError.TheVariants as error

-- nothing, a value, or what can't be read
pub data Entry (X : Type 0) : Type 0 where
  Absent : Entry X
  Whole : X → Entry X
  Unreadable : Entry X

-- the entry of which a load tells
abbrev pub entry_of : {X : Type 0} → Option X → Entry X
entry_of None = Absent
entry_of (Some x) = Whole x

-- ---- entries by their keys

module _ {K X : Type 0} where
  -- each key has the same entry
  abbrev pub SameEntries : (K → Entry X) → (K → Entry X) → Type 0
  SameEntries now held = (k : K) → now k ≡ held k

  -- the entries with another one under a key
  abbrev pub with_entry : (K → K → Bool) → (K → Entry X) → K → Entry X → K → Entry X
  with_entry is_key entries key entry k = if is_key key k then entry else entries k

  -- the entries without those of some keys
  abbrev pub without_entries : (K → Bool) → (K → Entry X) → K → Entry X
  without_entries gone entries k = if gone k then Absent else entries k

  -- each entry of some keys is the same or gone, and each other entry is the same
  abbrev pub ArePartlyGone : (K → Bool) → (K → Entry X) → (K → Entry X) → Type 0
  ArePartlyGone gone held now = (k : K) → (now k ≡ held k) ⊎ ((gone k ≡ true) × (now k ≡ Absent))

-- ---- refusals

-- why a load of an entry is refused: the store failed, or the entry can't be read. Want of memory tells nothing
abbrev pub IsLoadFault : {X : Type 0} → StoreError → EntryKind → ℕ → ℕ → Option (Entry X) → Type 0
IsLoadFault error.Failed kind before after entry = Rose before after
IsLoadFault (error.Damaged damaged) kind before after entry = (damaged ≡ kind) × IfSome entry (λ e. e ≡ Unreadable)
IsLoadFault (error.IncorrectContent digest expected) kind before after entry = ⊥
IsLoadFault error.Memory kind before after entry = Unit {0}

-- why another call is refused: the store failed
abbrev pub IsStoreFault : StoreError → ℕ → ℕ → Type 0
IsStoreFault error.Failed before after = Rose before after
IsStoreFault (error.Damaged kind) before after = ⊥
IsStoreFault (error.IncorrectContent digest expected) before after = ⊥
IsStoreFault error.Memory before after = Unit {0}
