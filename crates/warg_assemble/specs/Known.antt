-- What a client knows by its stores, and during a call by what it has learnt.
use Rattle.std.specs.Prelude.{ℕ, List, Option, Some, None}
use Rattle.std.specs.List.{before_first}
use Rattle.warg_hash.specs.Name.{is_colon}
use Rattle.warg_log.specs.Rules.{entries_of}
use Rattle.warg_log.specs.History.{namespace_of}
use Rattle.warg_exchange.specs.declared.checkpoint.SignedCheckpoint.{SignedCheckpoint}
use Rattle.warg_info.specs.Kept.{Kept, signed_log}
use Rattle.warg_store.specs.Held.{Registry}
use Rattle.warg_store.specs.Contents.{Contents}

-- what is kept of each registry, its operator's log and the checkpoint under which logs were proved last; the
-- registries of namespaces by the client's map; the contents by their digests; and the registry under which each package
-- was updated in this call
pub record Known : Type 0 where
  pub operator : Registry → List Kept
  pub checkpoint : Registry → Option SignedCheckpoint
  pub mapped : List ℕ → Registry
  pub contents : Contents
  pub updated : List (List ℕ × Registry)

-- the namespace of a package's name
abbrev pub namespace_in : List ℕ → List ℕ
namespace_in name = before_first is_colon name

-- what the home registry's operator says of a namespace, that it has it itself or which registry has it, or else the
-- map's registry
abbrev pub registry_by : Option Registry → Registry → Registry
registry_by (Some named) mapped = named
registry_by None mapped = mapped

-- the registry that has a package
abbrev pub registry_of : Known → List ℕ → Registry
registry_of known name =
    registry_by (namespace_of (namespace_in name) (entries_of (signed_log (known.operator None))))
    (known.mapped (namespace_in name))
