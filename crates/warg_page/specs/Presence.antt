-- That a log of an update has no record.
use Rattle.std.specs.Prelude.{◌≡◌, ◌≢◌, ℕ, List, [], Contains}
use Rattle.warg_hash.specs.Hash.{package_log_id}
use Rattle.warg_exchange.specs.declared.logs.PublishedRecord.{PublishedRecord}
use Rattle.warg_info.specs.Kept.{Kept}
use Rattle.warg_page.specs.Logs.{Logs}
use Rattle.warg_page.specs.declared.presence.PresenceError.{PresenceError}
use Rattle.warg_page.specs.declared.presence.PresenceError.TheVariants as error

-- the operator's log has none; or it has one, and that of the package with this name has none
abbrev pub IsPresenceFault : PresenceError → Logs → Type 0
IsPresenceFault error.NoOperatorRecords logs = logs.operator ≡ []
IsPresenceFault (error.PackageLogEmpty name) logs = (logs.operator ≢ []) × Contains logs.packages (name, [])
IsPresenceFault error.Memory logs = Unit {0}

-- the package with this name has none, and a page lists its log
abbrev pub IsListedEmpty : PresenceError → List (List ℕ × List Kept) → List (List ℕ × List PublishedRecord) → Type 0
IsListedEmpty error.NoOperatorRecords packages listed = ⊥
IsListedEmpty (error.PackageLogEmpty name) packages listed =
    Contains packages (name, []) × (records : List PublishedRecord) × Contains listed (package_log_id name, records)
IsListedEmpty error.Memory packages listed = Unit {0}
