-- The logs that infos keep, as clauses see them.
use Rattle.std.specs.Prelude.{ℕ, List, map}
use Rattle.std.specs.List.{All}
use Rattle.warg_info.specs.declared.operator.OperatorInfo.{OperatorInfo}
use Rattle.warg_info.specs.declared.package.PackageInfo.{PackageInfo}
use Rattle.warg_info.specs.Kept.{Kept}
use Rattle.warg_info.specs.Info.{operator_log, package_log, IsSoundOperator, IsSoundPackage}
use Rattle.warg_page.specs.Logs.{Logs}

abbrev pub package_view : PackageInfo → List ℕ × List Kept
package_view info = (info.name, package_log info)

abbrev pub logs_view : OperatorInfo → List PackageInfo → Logs
logs_view operator packages = record { operator = operator_log operator; packages = map package_view packages }

-- all of them are sound
pub record AreSound (op : OperatorInfo) (infos : List PackageInfo) : Type 0 where
  pub operator : IsSoundOperator op
  pub packages : All IsSoundPackage infos
