-- What clauses see of a log that is kept, and when it is sound.
use Rattle.std.specs.Prelude.{List, map}
use Rattle.warg_record.specs.Record.{Kind, PlainEntry, Operator, Package}
use Rattle.warg_record.specs.View.{envelope_view, operator_entry_view, package_entry_view}
use Rattle.warg_log.specs.Follows.{IsReplayOf}
use Rattle.warg_log.specs.Lawful.{IsLawful, AreRead}
use Rattle.warg_log.specs.Rules.{Accepts}
use Rattle.warg_info.specs.declared.log.KeptRecord.{KeptRecord}
use Rattle.warg_info.specs.declared.log.LogInfo.{LogInfo}
use Rattle.warg_info.specs.declared.operator.OperatorInfo.{OperatorInfo}
use Rattle.warg_info.specs.declared.package.PackageInfo.{PackageInfo}
use Rattle.warg_info.specs.Kept.{Kept, signed_log, Ascends}

-- a record that is kept, where an entry is seen by view
abbrev pub kept_view : {E : Type 0} → (E → PlainEntry) → KeptRecord E → Kept
kept_view view r =
    record { signed = envelope_view view r.envelope; registry_index = r.registry_index; fetch_token = r.fetch_token }

-- the log
abbrev pub kept_of : {E : Type 0} → (E → PlainEntry) → LogInfo E → List Kept
kept_of view info = map (kept_view view) info.records.items

-- each record is what its contents are read as, the state is the replay of the records, and their places ascend
pub record IsSound {E : Type 0} (kind : Kind) (view : E → PlainEntry) (info : LogInfo E) : Type 0 where
  pub read : AreRead kind (signed_log (kept_of view info))
  pub replay : IsReplayOf kind info.state (signed_log (kept_of view info))
  pub ascends : Ascends (kept_of view info)

-- its records are lawful by these signatures
abbrev pub IsLawfulLog : Kind → Accepts → List Kept → Type 0
IsLawfulLog kind accepts log = IsLawful kind accepts (signed_log log)

-- ---- of a registry's operator, and of a package

abbrev pub operator_log : OperatorInfo → List Kept
operator_log info = kept_of operator_entry_view info.log

abbrev pub IsSoundOperator : OperatorInfo → Type 0
IsSoundOperator info = IsSound Operator operator_entry_view info.log

abbrev pub package_log : PackageInfo → List Kept
package_log info = kept_of package_entry_view info.log

abbrev pub IsSoundPackage : PackageInfo → Type 0
IsSoundPackage info = IsSound Package package_entry_view info.log
