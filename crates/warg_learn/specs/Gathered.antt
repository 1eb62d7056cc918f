-- What maps hold while packages are grouped and updated. Only the crate's private clauses cite it.
use Rattle.std.specs.Prelude.{◌≡◌, ℕ, List, Some, Vec, Contains, map, bytes_eq}
use Rattle.std.specs.Global.{Global}
use Rattle.indexmap.specs.IndexMap.{IndexMap, get}
use Rattle.warg_info.specs.Info.{IsSoundPackage}
use Rattle.warg_info.specs.Kept.{Kept}
use Rattle.warg_info.specs.declared.package.PackageInfo.{PackageInfo}
use Rattle.warg_page.specs.Views.{package_view}
use Rattle.warg_store.specs.Held.{Registry}

-- an info of this name is sound, and its log among these
pub record IsFound (logs : List (List ℕ × List Kept)) (name : List ℕ) (info : PackageInfo) : Type 0 where
  pub named : info.name ≡ name
  pub logged : Contains logs (package_view info)
  pub sound : IsSoundPackage info

module _ {S : Type 0} where
  -- the groups that a map holds, in order
  abbrev pub groups_in : IndexMap Registry (Vec (List ℕ) Global) S → List (Registry × List (List ℕ))
  groups_in groups = map (λ e. (e.0, e.1.items)) groups.entries

  -- each info in a map stands under its name
  abbrev pub AreFound : List (List ℕ × List Kept) → IndexMap (List ℕ) PackageInfo S → Type 0
  AreFound logs found = (name : List ℕ) (info : PackageInfo)
      → get bytes_eq found name ≡ Some info → IsFound logs name info
