-- What is to be published of a package, as plain values, and the record that is made of it.
use Rattle.std.specs.Prelude.{ℕ, ◌<◌, Bool, true, false, List, length, map, codes, Option}
use Rattle.std.specs.List.{AllByRecursion, list_any}
use Rattle.semver.specs.Grammar.{IsValid}
use Rattle.semver.specs.Parse.{Parts}
use Rattle.warg_values.specs.declared.moment.Moment.{Moment}
use Rattle.warg_record.specs.Record as signed
use Rattle.warg_record.specs.Record.{PlainEntry, PlainRecord}

-- an entry that is to be published: keys as their texts, ids and digests as their 32 bytes, permissions as their texts
pub data PlainPublishEntry : Type 0 where
  Init : PlainPublishEntry
  Release : Parts → List ℕ → PlainPublishEntry
  Yank : Parts → PlainPublishEntry
  Grant : List ℕ → List (List ℕ) → PlainPublishEntry
  Revoke : List ℕ → List (List ℕ) → PlainPublishEntry

-- what is to be published: the package's name, the id of the last record of its log, and the entries, in order
pub record PlainPublishInfo : Type 0 where
  pub name : List ℕ
  pub head : Option (List ℕ)
  pub entries : List PlainPublishEntry

abbrev pub is_init : PlainPublishEntry → Bool
is_init Init = true
is_init (Release version content) = false
is_init (Yank version) = false
is_init (Grant key permissions) = false
is_init (Revoke key_id permissions) = false

-- an entry is Init
abbrev pub is_initializing : PlainPublishInfo → Bool
is_initializing info = list_any is_init info.entries

-- an entry that can be published: its version has the form of SemVer 2.0, and it has one permission or more
abbrev pub IsPublishableEntry : PlainPublishEntry → Type 0
IsPublishableEntry Init = Unit {0}
IsPublishableEntry (Release version content) = IsValid version
IsPublishableEntry (Yank version) = IsValid version
IsPublishableEntry (Grant key permissions) = 0 < length permissions
IsPublishableEntry (Revoke key_id permissions) = 0 < length permissions

-- one such entry or more
pub record IsPublishable (info : PlainPublishInfo) : Type 0 where
  pub some_entry : 0 < length info.entries
  pub entries : AllByRecursion IsPublishableEntry info.entries

-- the entry of a record that this key signs: Init has that key, and `sha256`
abbrev pub record_entry : List ℕ → PlainPublishEntry → PlainEntry
record_entry signer Init = signed.Init signer (codes "sha256")
record_entry signer (Release version content) = signed.Release version content
record_entry signer (Yank version) = signed.Yank version
record_entry signer (Grant key permissions) = signed.GrantFlat key permissions
record_entry signer (Revoke key_id permissions) = signed.RevokeFlat key_id permissions

-- the record that this key signs at a moment
abbrev pub record_of : List ℕ → Moment → PlainPublishInfo → PlainRecord
record_of signer now info = record {
  prev = info.head;
  version = 0;
  time = now;
  entries = map (record_entry signer) info.entries;
}
