-- What is held of registries, and of what is to be published.
use Rattle.std.specs.Prelude.{◌≡◌, ◌⊎◌, ◌||◌, ◌&&◌, not, ℕ, Bool, if◌then◌else◌, List, bytes_eq, Option, Some, None, is_some}
use Rattle.std.specs.List.{AllByRecursion}
use Rattle.std.specs.Option.{option_eq}
use Rattle.warg_exchange.specs.declared.checkpoint.Checkpoint.{Checkpoint}
use Rattle.warg_exchange.specs.declared.checkpoint.SignedCheckpoint.{SignedCheckpoint}
use Rattle.warg_hash.specs.Hash.{package_log_id}
use Rattle.warg_info.specs.declared.operator.OperatorInfo.{OperatorInfo}
use Rattle.warg_info.specs.declared.package.PackageInfo.{PackageInfo}
use Rattle.warg_info.specs.Info.{operator_log, package_log}
use Rattle.warg_info.specs.Kept.{Kept}
use Rattle.warg_publish.specs.declared.info.PublishInfo.{PublishInfo}
use Rattle.warg_publish.specs.Publish.{PlainPublishInfo, IsPublishableEntry}
use Rattle.warg_publish.specs.Shown.{info_view}
use Rattle.warg_store.specs.Entry.{Entry, Absent, Whole, Unreadable, SameEntries, with_entry, without_entries, ArePartlyGone}

-- ---- keys

-- a registry by its name, which the home registry has not
abbrev pub Registry : Type 0
Registry = Option (List ℕ)

-- a registry, and the id of the log of a package
abbrev pub Package : Type 0
Package = Registry × List ℕ

-- the key of the package of a name
abbrev pub package_key : Registry → List ℕ → Package
package_key r name = (r, package_log_id name)

abbrev pub is_registry : Registry → Registry → Bool
is_registry r s = option_eq bytes_eq r s

abbrev pub is_package : Package → Package → Bool
is_package p q = is_registry p.0 q.0 && bytes_eq p.1 q.1

-- ---- values

-- what is kept of a log: the registry that has it, the checkpoint under which it was proved last, and the records
pub record Info : Type 0 where
  pub registry : Registry
  pub checkpoint : Option Checkpoint
  pub log : List Kept

abbrev pub operator_info : OperatorInfo → Info
operator_info info = record { registry = info.registry; checkpoint = info.checkpoint; log = operator_log info }

abbrev pub package_info : PackageInfo → Info
package_info info = record { registry = info.registry; checkpoint = info.checkpoint; log = package_log info }

-- what is kept of a package: its name, and what is kept of its log
pub record NamedInfo : Type 0 where
  pub name : List ℕ
  pub info : Info

abbrev pub named_info : PackageInfo → NamedInfo
named_info info = record { name = info.name; info = package_info info }

-- what is to be published is sound where each of its entries can be published
abbrev pub IsSoundPublish : PublishInfo → Type 0
IsSoundPublish info = AllByRecursion IsPublishableEntry (info_view info).entries

-- an entry as it stands for the package of a name: what has another name can't be read
abbrev pub entry_named : List ℕ → Entry NamedInfo → Entry NamedInfo
entry_named name Absent = Absent
entry_named name (Whole found) = if bytes_eq found.name name then Whole found else Unreadable
entry_named name Unreadable = Unreadable

-- ---- what is held

-- entries of registries, and what is to be published
pub record Held : Type 0 where
  pub checkpoints : Registry → Entry SignedCheckpoint
  pub operators : Registry → Entry Info
  pub packages : Package → Entry NamedInfo
  pub publish : Entry PlainPublishInfo

abbrev pub nothing : Held
nothing = record { checkpoints = λ _. Absent; operators = λ _. Absent; packages = λ _. Absent; publish = Absent }

-- the same entries
pub record SameHeld (now held : Held) : Type 0 where
  pub checkpoints : SameEntries now.checkpoints held.checkpoints
  pub operators : SameEntries now.operators held.operators
  pub packages : SameEntries now.packages held.packages
  pub publish : now.publish ≡ held.publish

abbrev pub with_checkpoint : Held → Registry → Entry SignedCheckpoint → Held
with_checkpoint held r entry = record held { checkpoints = with_entry is_registry held.checkpoints r entry }

abbrev pub with_operator : Held → Registry → Entry Info → Held
with_operator held r entry = record held { operators = with_entry is_registry held.operators r entry }

abbrev pub with_package : Held → Package → Entry NamedInfo → Held
with_package held p entry = record held { packages = with_entry is_package held.packages p entry }

abbrev pub with_publish : Held → Entry PlainPublishInfo → Held
with_publish held entry = record held { publish = entry }

-- ---- resets

-- whether a reset, of all registries or of the home registry alone, takes away what is held of a registry
abbrev pub is_reset : Bool → Registry → Bool
is_reset all r = all || not (is_some r)

-- what is to be published is taken away by either reset
abbrev pub after_reset : Bool → Held → Held
after_reset all held = record {
  checkpoints = without_entries (is_reset all) held.checkpoints;
  operators = without_entries (is_reset all) held.operators;
  packages = without_entries (λ p. is_reset all p.0) held.packages;
  publish = Absent;
}

-- what a refused reset leaves
pub record IsPartlyReset (all : Bool) (held now : Held) : Type 0 where
  pub checkpoints : ArePartlyGone (is_reset all) held.checkpoints now.checkpoints
  pub operators : ArePartlyGone (is_reset all) held.operators now.operators
  pub packages : ArePartlyGone (λ p. is_reset all p.0) held.packages now.packages
  pub publish : (now.publish ≡ held.publish) ⊎ (now.publish ≡ Absent)

-- ---- what a store tells

-- the store tells that it holds just this
pub record Tells (told : Option Held) (held : Held) : Type 0 where
  pub now : Held
  pub tells : told ≡ Some now
  pub same : SameHeld now held

-- a refused store of a value leaves what was held; or in the entry the value; or in the entry what can't be read
abbrev pub LeavesStore : {X : Type 0} → Option Held → Held → (Entry X → Held) → X → Type 0
LeavesStore told held with_it x = Tells told held ⊎ Tells told (with_it (Whole x)) ⊎ Tells told (with_it Unreadable)

-- a refused store of what is to be published leaves what was held; or the info, or what can't be read; or nothing,
-- where the entry was to be taken away
abbrev pub LeavesPublish : Option Held → Held → Option PlainPublishInfo → Type 0
LeavesPublish told held None = Tells told held ⊎ Tells told (with_publish held Absent)
LeavesPublish told held (Some info) = LeavesStore told held (with_publish held) info

-- what a refused reset leaves
abbrev pub LeavesReset : Option Held → Bool → Held → Type 0
LeavesReset told all held = (now : Held) × (told ≡ Some now) × IsPartlyReset all held now
