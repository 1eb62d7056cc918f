-- How what is kept of a package is recalled, and why it is not given.
use Rattle.std.proofs.Common.{◌≡◌, ℕ, ◌≤◌, cond, List, Option, Some, None, IfSome, bytes_eq, option_map, refl, subst}
use Rattle.std.specs.Prelude.{◌⊎◌}
use Rattle.std.specs.Map.{lookup}
use Rattle.warg_info.specs.Info.{package_log}
use Rattle.warg_info.specs.declared.package.PackageInfo.{PackageInfo}
use Rattle.warg_store.specs.declared.error.EntryKind.TheVariants as kind
use Rattle.warg_store.specs.declared.error.StoreError.{StoreError}
use Rattle.warg_store.specs.declared.error.StoreError.TheVariants as error
use Rattle.warg_store.specs.Entry.{Entry, IsLoadFault, entry_of}
use Rattle.warg_store.specs.Held.{Registry, Held, Tells, named_info}
use Rattle.warg_store.specs.Namespaces.{Names}
use Rattle.warg_assemble.specs.Known.{Known, registry_of}
use Rattle.warg_assemble.specs.Parts.{releases_in}
use Rattle.warg_plan.specs.Keys.{Release}
use Rattle.warg_fetch.specs.declared.error.FetchError.{FetchError}
use Rattle.warg_fetch.specs.Fetched.{IsLookupFault, Loads}
use Rattle.warg_fetch.specs.Refusals.{store_refusal}
use Rattle.warg_learn.specs.Recalled.{AsksStores, IsKeptFault, IsRecalled, IsUnkept, IsUnrecalled, KeptLog, kept_entry}
use Rattle.warg_learn.specs.RecalledLaws.{known_still}
use Rattle.warg_learn.specs.Refusals.{fetch_refusal}
use Rattle.warg_learn.specs.Seen.{Seen, IsKnown, name_loads, registry_loads}
use Rattle.warg_learn.proofs.SeenLaws.{none_falls, noted_first, same_seen}

-- ---- what is kept

-- a store's refusal, as that of what is kept
pub kept_fault : (known : Known) (name : List ℕ) (e : StoreError) (registries : Loads Held) (names : Loads (Entry Names))
    → IsLookupFault e registries names ⊎ IsLoadFault e kind.Package registries.before registries.after (option_map (kept_entry known name) registries.told) → IsKeptFault known name (store_refusal e) registries names
kept_fault known name error.Failed registries names h = h
kept_fault known name (error.Damaged k) registries names h = h
kept_fault known name (error.IncorrectContent digest expected) registries names h = h
kept_fault known name error.Memory registries names h = record {}

-- ---- stores that were asked

tells_self : (o : Option Held) → IfSome o (Tells o)
tells_self None = record {}
tells_self (Some held) = record { now = held; tells = refl; same = record { checkpoints = λ r. refl; operators = λ r. refl; packages = λ p. refl; publish = refl } }

module _ {T D : Type 0} where
  -- before anything is asked
  pub none_asked : (s : Seen T D) → AsksStores s s
  none_asked s = record {
    same = same_seen s;
    never_falls = none_falls s;
    transcript = refl;
    registries = tells_self s.registries;
    contents = refl;
    names = refl;
    pages_left = refl;
    decider = refl;
  }

  pub asks_by : (old new : Seen T D) → new.accepts ≡ old.accepts → new.asker ≡ old.asker → new.transcript ≡ old.transcript → IfSome old.registries (Tells new.registries) → new.contents ≡ old.contents → new.names ≡ old.names → new.pages_left ≡ old.pages_left → new.decider ≡ old.decider
      → old.faults.link ≤ new.faults.link → old.faults.registries ≤ new.faults.registries → old.faults.contents ≤ new.faults.contents → old.faults.names ≤ new.faults.names → AsksStores old new
  asks_by old new accepts asker transcript registries contents names pages decider link kept unasked held = record {
    same = record { accepts = accepts; asker = asker };
    never_falls = record { link = link; registries = kept; contents = unasked; names = held };
    transcript = transcript;
    registries = registries;
    contents = contents;
    names = names;
    pages_left = pages;
    decider = decider;
  }

-- ---- what is recalled

module _ {T D : Type 0} (old new : Seen T D) (name : List ℕ) where
  -- what is found of the package, by what is known
  abbrev Finds : Option PackageInfo → Type 0
  Finds info = (known : Known) → IsKnown old known → IfSome old.registries (λ held. kept_entry known name held ≡ entry_of (option_map named_info info))

  pub unkept_by : (info : Option PackageInfo) → AsksStores old new → new.updated ≡ old.updated → Finds info → info ≡ None → IsUnkept old new name
  unkept_by info asks updated finds none = record {
    asks = asks;
    updated = updated;
    absent = λ known k. subst (λ i. IfSome old.registries (λ held. kept_entry known name held ≡ entry_of (option_map named_info i))) none (finds known k);
  }

  pub unrecalled_by : {E : Type 0} (e : FetchError) → AsksStores old new → new.updated ≡ old.updated → ((known : Known) → IsKnown old known → IsKeptFault known name e (registry_loads old new) (name_loads old new)) → IsUnrecalled old new name (fetch_refusal {E = E} e)
  unrecalled_by e asks updated cause = record { asks = asks; updated = updated; refusal = e; told = refl; cause = cause }

  pub recalled_by : (registry : Registry) (found : Option PackageInfo) (info : PackageInfo) (releases : List Release) (key : List ℕ) → AsksStores old new → ((known : Known) → IsKnown old known → registry ≡ registry_of known name) → Finds found → found ≡ Some info → releases_in (package_log info) ≡ releases
      → key ≡ name → ((q : List ℕ) → lookup (λ n. bytes_eq q n) new.updated ≡ cond (bytes_eq key q) (Some registry) (lookup (λ n. bytes_eq q n) old.updated))
      → (k : KeptLog) × (k.name ≡ name) × (releases_in k.log ≡ releases) × IsRecalled old new k
  recalled_by registry found info releases key asks under finds is are is_key noted =
      let k : KeptLog = record { registry = registry; name = name; log = package_log info } in (
        k,
        refl,
        are,
        record {
          asks = asks;
          kept = λ known knows. record {
            under = under known knows;
            found = named_info info;
            held = subst (λ i. IfSome old.registries (λ held. kept_entry known name held ≡ entry_of (option_map named_info i))) is (finds known knows);
            has = refl;
            knows =
                let between : Seen T D = record new { updated = old.updated } in
                let still = known_still old between known (asks_by old between asks.same.accepts asks.same.asker asks.transcript asks.registries asks.contents asks.names asks.pages_left asks.decider
                asks.never_falls.link asks.never_falls.registries asks.never_falls.contents asks.never_falls.names) refl knows in
                let stores = still.stores in
                record {
                  stores = record {
                    registries = record { held = stores.registries.held; tells = stores.registries.tells; operator = stores.registries.operator; checkpoint = stores.registries.checkpoint };
                    own = stores.own;
                    namespaces = record { held = stores.namespaces.held; tells = stores.namespaces.tells; mapped = stores.namespaces.mapped };
                  };
                  contents = record { held = still.contents.held; tells = still.contents.tells; contents = still.contents.contents };
                  updated = noted_first old.updated new.updated known.updated name key registry is_key noted knows.updated;
                };
          };
        },
      )
