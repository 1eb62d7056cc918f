use Rattle.std.proofs.Common.{List, ℕ, map}
use Rattle.warg_info.specs.Info.{IsSoundPackage}
use Rattle.warg_info.specs.Kept.{Kept}
use Rattle.std.specs.List.{All, AllByRecursion}
use Rattle.warg_page.specs.Logs.{IsOfPackage, EachGrows}
use Rattle.warg_page.specs.PageFaults.{FirstListedFault}
use Rattle.warg_page.specs.Steps.{HaveIds, AreGood}
use Rattle.warg_page.specs.Views.{package_view}
use Rattle.warg_page.specs.declared.page.PageError.{PageError}
use Rattle.warg_page.proofs.page.take_packages.Given as goal

abbrev pub invariant-loop-id : goal.invariant-loop-id
invariant-loop-id g l =
    let accepts = g.V.Verifier.good l.verifier in
    let keys = l.ids.keys in
    let old = l.fn.packages.items in
    let now = l.packages.items in
    record {
      ids : HaveIds keys old → HaveIds keys now;
      sound : All IsSoundPackage old → All IsSoundPackage now;
      good : AreGood accepts old → AreGood accepts now;
      grows : HaveIds keys old → AreGood accepts old → (news : List (List ℕ × List Kept)) → EachGrows l.id-iterator (map package_view now) news → EachGrows l.listed.entries (map package_view old) news;
      asked : HaveIds keys old → AreGood accepts old → AllByRecursion (IsOfPackage (map package_view now)) l.id-iterator → AllByRecursion (IsOfPackage (map package_view old)) l.listed.entries;
      fault : HaveIds keys old → AreGood accepts old → (e : PageError) → FirstListedFault e accepts (map package_view now) l.id-iterator → FirstListedFault e accepts (map package_view old) l.listed.entries;
    }
