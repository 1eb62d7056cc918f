-- How import names are written, and what each form asks for. The forms are a choice of this project among those of the
-- Component Model's `Explainer.md`, "Import and Export Definitions". A name is in one form at most, and `Import.import_of`
-- is what that form asks for.
use Rattle.std.specs.Prelude.{◌≡◌, ℕ, ◌<◌, ◌++◌, ◌∷◌, [], true, List, length, codes, Option, Some, None, IfSome, ⊤}
use Rattle.semver.specs.Parse.{Parts, Held}
use Rattle.semver.specs.Identifiers.{parts_text}
use Rattle.semver.specs.Grammar.{IsValid}
use Rattle.semver.specs.declared.Op.TheVariants.{Exact, GreaterEq, Less}
use Rattle.warg_hash.specs.Name.{IsPackageName}
use Rattle.warg_names.specs.Cut.{lacks}
use Rattle.warg_names.specs.Import.{ImportTree, compared, dependency, locked, interface, unlocked_mark, locked_mark, at_sign, angle}

-- Bounds of versions: those from one on, those below one, or both.
pub data Bounds : Type 0 where
  From : Parts → Bounds
  Below : Parts → Bounds
  Between : Parts → Parts → Bounds

-- Which releases of a package a dependency asks for: any, without or with a star, or those within bounds.
pub data Range : Type 0 where
  Plain : Range
  Star : Range
  Within : Bounds → Range

-- A name: a dependency on a package, a locked release with its version and its integrity, or an interface with its version.
pub data ImportName : Type 0 where
  DependencyName : List ℕ → Range → ImportName
  LockedName : List ℕ → Option Parts → Option (List ℕ) → ImportName
  InterfaceName : List ℕ → Option Parts → ImportName

-- ---- how it is written

abbrev pub bounds_text : Bounds → List ℕ
bounds_text (From low) = codes ">=" ++ parts_text low
bounds_text (Below high) = codes "<" ++ parts_text high
bounds_text (Between low high) = (codes ">=" ++ parts_text low) ++ (codes " <" ++ parts_text high)

abbrev pub range_text : Range → List ℕ
range_text Plain = []
range_text Star = codes "@*"
range_text (Within bounds) = codes "@{" ++ (bounds_text bounds ++ codes "}")

-- a version behind an `@`, where there is one
abbrev pub version_part : Option Parts → List ℕ
version_part None = []
version_part (Some version) = codes "@" ++ parts_text version

abbrev pub integrity_part : Option (List ℕ) → List ℕ
integrity_part None = []
integrity_part (Some integrity) = codes ",integrity=<" ++ (integrity ++ codes ">")

-- the text of a name
abbrev pub name_text : ImportName → List ℕ
name_text (DependencyName name range) = codes "unlocked-dep=<" ++ ((name ++ range_text range) ++ codes ">")
name_text (LockedName name version integrity) = codes "locked-dep=<" ++ ((name ++ version_part version) ++ (codes ">" ++ integrity_part integrity))
name_text (InterfaceName name version) = name ++ version_part version

-- ---- what it is

abbrev pub AreBounds : Bounds → Type 0
AreBounds (From low) = IsValid low
AreBounds (Below high) = IsValid high
AreBounds (Between low high) = IsValid low × IsValid high

abbrev pub IsRange : Range → Type 0
IsRange Plain = ⊤
IsRange Star = ⊤
IsRange (Within bounds) = AreBounds bounds

-- a text that is not empty and holds no `>`
abbrev pub IsIntegrity : List ℕ → Type 0
IsIntegrity integrity = (0 < length integrity) × (lacks angle integrity ≡ true)

-- a text begins with a mark
abbrev pub Begins : List ℕ → List ℕ → Type 0
Begins mark text = (rest : List ℕ) × (text ≡ mark ++ rest)

-- the form of a name: packages have names of packages, versions are SemVer's, an integrity is one; the name of an
-- interface has no `@` of its own, is not empty where no version follows, and begins with no mark
abbrev pub IsImportName : ImportName → Type 0
IsImportName (DependencyName name range) = IsPackageName name × IsRange range
IsImportName (LockedName name version integrity) = IsPackageName name × IfSome version IsValid × IfSome integrity IsIntegrity
IsImportName (InterfaceName name version) = (lacks at_sign name ≡ true) × IfSome version IsValid × (0 < length (name ++ version_part version))
    × (Begins unlocked_mark (name ++ version_part version) → ⊥) × (Begins locked_mark (name ++ version_part version) → ⊥)

-- ---- what it asks for

-- what bounds require. Build metadata is no part of it.
abbrev pub bounds_requirement : Bounds → List Held
bounds_requirement (From low) = compared GreaterEq low ∷ []
bounds_requirement (Below high) = compared Less high ∷ []
bounds_requirement (Between low high) = compared GreaterEq low ∷ compared Less high ∷ []

abbrev pub range_requirement : Range → List Held
range_requirement Plain = []
range_requirement Star = []
range_requirement (Within bounds) = bounds_requirement bounds

abbrev pub asked : ImportName → ImportTree
asked (DependencyName name range) = dependency (range_requirement range) name
asked (LockedName name version integrity) = locked name version integrity
asked (InterfaceName name None) = interface name [] None
asked (InterfaceName name (Some version)) = interface name (compared Exact version ∷ []) (Some (parts_text version))

-- The text is a name that asks for this import.
pub record Names (text : List ℕ) (tree : ImportTree) : Type 0 where
  pub name : ImportName
  pub is_name : IsImportName name
  pub written : text ≡ name_text name
  pub asks : tree ≡ asked name
