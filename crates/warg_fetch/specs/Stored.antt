-- What is known by what stores hold, and what a store holds that its client alone has filled.
use Rattle.std.specs.Prelude.{◌≡◌, ℕ, List, [], Option, Some, None, bytes_eq}
use Rattle.std.specs.Map.{lookup}
use Rattle.warg_record.specs.Record.{Operator, Package as OfPackage}
use Rattle.warg_log.specs.Rules.{Accepts, entries_of}
use Rattle.warg_log.specs.History.{namespace_of}
use Rattle.warg_info.specs.Info.{IsLawfulLog}
use Rattle.warg_info.specs.Kept.{Kept, signed_log}
use Rattle.warg_store.specs.Contents.{Contents}
use Rattle.warg_store.specs.Entry.{Entry, Absent, Whole, Unreadable}
use Rattle.warg_store.specs.Held.{Registry, Package, Info, NamedInfo, Held}
use Rattle.warg_store.specs.Namespaces.{Names, names_of}
use Rattle.warg_assemble.specs.Known.{Known, registry_by}

-- ---- entries

-- the value of an entry, where one can be read
abbrev pub value_in : {X : Type 0} → Entry X → Option X
value_in Absent = None
value_in (Whole x) = Some x
value_in Unreadable = None

-- the log of an entry, which has no records where none can be read
abbrev pub log_in : Entry Info → List Kept
log_in Absent = []
log_in (Whole info) = info.log
log_in Unreadable = []

-- the registry of a namespace, by names that are held
abbrev pub mapped_in : Entry Names → List ℕ → Registry
mapped_in names namespace = lookup (λ n. bytes_eq namespace n) (names_of names)

-- an entry is none that can't be read
abbrev pub CanBeRead : {X : Type 0} → Entry X → Type 0
CanBeRead Absent = Unit {0}
CanBeRead (Whole x) = Unit {0}
CanBeRead Unreadable = ⊥

-- a store tells what it holds, and each operator and checkpoint in it can be read
pub record IsReadable (told : Option Held) : Type 0 where
  pub held : Held
  pub tells : told ≡ Some held
  pub operators : (r : Registry) → CanBeRead (held.operators r)
  pub checkpoints : (r : Registry) → CanBeRead (held.checkpoints r)

-- ---- what is known

-- a store tells what it holds of registries, and this is what is known of them
pub record KnowsRegistries (told : Option Held) (known : Known) : Type 0 where
  pub held : Held
  pub tells : told ≡ Some held
  pub operator : (r : Registry) → log_in (held.operators r) ≡ known.operator r
  pub checkpoint : (r : Registry) → value_in (held.checkpoints r) ≡ known.checkpoint r

-- a store tells which names it holds, and by these the registries of namespaces are known
pub record KnowsNames (told : Option (Entry Names)) (known : Known) : Type 0 where
  pub held : Entry Names
  pub tells : told ≡ Some held
  pub mapped : (namespace : List ℕ) → mapped_in held namespace ≡ known.mapped namespace

-- a store tells which contents it holds, and these are the ones that are known
pub record KnowsContents (told : Option Contents) (known : Known) : Type 0 where
  pub held : Contents
  pub tells : told ≡ Some held
  pub contents : (digest : List ℕ) → held digest ≡ known.contents digest

-- the registry that has the packages of a namespace: by what the home registry's operator says, or else by the map
abbrev pub registry_for : Known → List ℕ → Registry
registry_for known namespace =
    registry_by (namespace_of namespace (entries_of (signed_log (known.operator None)))) (known.mapped namespace)

-- ---- what a client alone has stored

-- each log that can be read is lawful by these signatures
pub record IsOwn (accepts : Accepts) (held : Held) : Type 0 where
  pub operators : (r : Registry) (info : Info) → held.operators r ≡ Whole info → IsLawfulLog Operator accepts info.log
  pub packages : (p : Package) (kept : NamedInfo) → held.packages p ≡ Whole kept
      → IsLawfulLog OfPackage accepts kept.info.log

-- a store tells what it holds, and its client alone has filled it
pub record IsOwnStore (accepts : Accepts) (told : Option Held) : Type 0 where
  pub held : Held
  pub tells : told ≡ Some held
  pub own : IsOwn accepts held

-- ---- all that an update goes by

-- the stores of registries and of names tell what is known, and the former is its client's own
pub record Knows (accepts : Accepts) (told : Option Held) (names : Option (Entry Names)) (known : Known) : Type 0 where
  pub registries : KnowsRegistries told known
  pub own : IsOwnStore accepts told
  pub namespaces : KnowsNames names known
