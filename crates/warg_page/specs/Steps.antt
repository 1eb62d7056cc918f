-- The packages of an update, and where they are found by the ids of their logs.
use Rattle.std.specs.Prelude.{◌≡◌, ◌<◌, ℕ, List, map, Some, slice_get}
use Rattle.std.specs.List.{All}
use Rattle.warg_hash.specs.Hash.{package_log_id}
use Rattle.warg_record.specs.Record.{Package, Operator}
use Rattle.warg_log.specs.Rules.{Accepts}
use Rattle.warg_info.specs.declared.operator.OperatorInfo.{OperatorInfo}
use Rattle.warg_info.specs.declared.package.PackageInfo.{PackageInfo}
use Rattle.warg_info.specs.Info.{package_log, IsSoundPackage, operator_log, IsSoundOperator, IsLawfulLog}

abbrev pub id_of : PackageInfo → List ℕ
id_of info = package_log_id info.name

-- no two are the same
abbrev pub AreDistinct : List (List ℕ) → Type 0
AreDistinct ids = (i j : ℕ) (id : List ℕ) → slice_get ids i ≡ Some id → slice_get ids j ≡ Some id → i ≡ j

-- an id stands at two places
abbrev pub IsTwice : List (List ℕ) → List ℕ → Type 0
IsTwice ids id = (i j : ℕ) × (i < j) × (slice_get ids i ≡ Some id) × (slice_get ids j ≡ Some id)

-- these are the ids of the packages' logs, in order, and no two are the same
pub record HaveIds (ids : List (List ℕ)) (infos : List PackageInfo) : Type 0 where
  pub in_order : ids ≡ map id_of infos
  pub distinct : AreDistinct ids

-- an info is sound, and its log lawful by these signatures
pub record IsGood (accepts : Accepts) (info : PackageInfo) : Type 0 where
  pub sound : IsSoundPackage info
  pub lawful : IsLawfulLog Package accepts (package_log info)

abbrev pub AreGood : Accepts → List PackageInfo → Type 0
AreGood accepts infos = All (IsGood accepts) infos

pub record IsGoodOperator (accepts : Accepts) (info : OperatorInfo) : Type 0 where
  pub sound : IsSoundOperator info
  pub lawful : IsLawfulLog Operator accepts (operator_log info)
