-- What an update writes in a store of registries, and in which order.
use Rattle.std.specs.Prelude.{◌⊎◌, List, [], ◌∷◌, Option, Some}
use Rattle.warg_exchange.specs.declared.checkpoint.SignedCheckpoint.{SignedCheckpoint}
use Rattle.warg_info.specs.Kept.{Kept}
use Rattle.warg_store.specs.Entry.{Whole, Unreadable}
use Rattle.warg_store.specs.Held.{Registry, Info, NamedInfo, Held, Tells, package_key, with_checkpoint, with_operator, with_package}
use Rattle.warg_assemble.specs.Parts.{Update}

pub data Write : Type 0 where
  OperatorLog : Registry → Info → Write
  PackageLog : Registry → NamedInfo → Write
  LastCheckpoint : Registry → SignedCheckpoint → Write

-- what is held after a write
abbrev pub with_write : Held → Write → Held
with_write held (OperatorLog r info) = with_operator held r (Whole info)
with_write held (PackageLog r kept) = with_package held (package_key r kept.name) (Whole kept)
with_write held (LastCheckpoint r c) = with_checkpoint held r (Whole c)

-- what is held where its entry can't be read
abbrev pub without_write : Held → Write → Held
without_write held (OperatorLog r info) = with_operator held r Unreadable
without_write held (PackageLog r kept) = with_package held (package_key r kept.name) Unreadable
without_write held (LastCheckpoint r c) = with_checkpoint held r Unreadable

abbrev pub with_writes : Held → List Write → Held
with_writes held [] = held
with_writes held (w ∷ ws) = with_writes (with_write held w) ws

-- A refused store tells that it holds what was held with a front of the writes; the entry of the write behind them may
-- be one that can't be read.
abbrev pub HoldsFront : Option Held → Held → List Write → Type 0
HoldsFront told held [] = Tells told held
HoldsFront told held (w ∷ ws) =
    Tells told held ⊎ Tells told (without_write held w) ⊎ HoldsFront told (with_write held w) ws

-- a log that an update proves, as it is kept
abbrev pub info_by : Update → List Kept → Info
info_by u log = record { registry = u.registry; checkpoint = Some u.checkpoint.contents; log = log }

-- an update writes the operator's log, the package's, and then the checkpoint
abbrev pub writes_of : Update → List Write
writes_of u =
    OperatorLog u.registry (info_by u u.operator)
    ∷ (PackageLog u.registry (record { name = u.name; info = info_by u u.log })
    ∷ (LastCheckpoint u.registry u.checkpoint ∷ []))
