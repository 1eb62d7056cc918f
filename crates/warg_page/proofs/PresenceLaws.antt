-- Logs that are there are lawful logs.
use Rattle.std.proofs.Common.{◌≡◌, ◌≢◌, ◌∷◌, [], List, suc, refl, map, length, arith}
use Rattle.std.specs.List.{All, AllByRecursion}
use Rattle.warg_log.specs.Rules.{Accepts}
use Rattle.warg_info.specs.declared.package.PackageInfo.{PackageInfo}
use Rattle.warg_info.specs.Info.{package_log}
use Rattle.warg_page.specs.Logs.{IsLawfulPackage}
use Rattle.warg_page.specs.Steps.{AreGood}
use Rattle.warg_page.specs.Views.{package_view}

pub none-of : {A B : Type 0} (f : A → B) (xs : List A) → map f xs ≡ [] → length xs ≡ 0
none-of f [] e = refl
none-of f (x ∷ xs) e = absurd cc

pub all-lawful : (accepts : Accepts) (xs : List PackageInfo) → All (λ info. package_log info ≢ []) xs → AreGood accepts xs → AllByRecursion (IsLawfulPackage accepts) (map package_view xs)
all-lawful accepts [] some good = tt
all-lawful accepts (x ∷ xs) some good =
    ((some 0 x (omega arith), (good 0 x (omega arith)).lawful), all-lawful accepts xs (λ k d lt. some (suc k) d (omega (arith, lt))) (λ k d lt. good (suc k) d (omega (arith, lt))))
