-- Import names: which package, or which interface, and which releases of it an import asks for.
use Rattle.std.specs.Prelude.{ℕ, if◌then◌else◌, List, [], ◌∷◌, ◌++◌, codes, bytes_eq, Option, Some, None, option_map, option_and_then}
use Rattle.std.specs.Option.{option_or, option_map_or}
use Rattle.std.specs.Result.{result_ok}
use Rattle.semver.specs.Parse.{Parts, Held, version_parts}
use Rattle.semver.specs.declared.Op.{Op}
use Rattle.semver.specs.declared.Op.TheVariants.{Exact, GreaterEq, Less}
use Rattle.warg_hash.specs.Name.{is_package_name}
use Rattle.warg_names.specs.Cut.{is_empty, behind, cut_first, closed_by, ended_by}

-- The kind of an import: a release that was locked, with its integrity where it has one; a package of which a release is
-- to be chosen; or an interface, with the text of its version where it has one.
pub data KindTree : Type 0 where
  Locked : Option (List ℕ) → KindTree
  Unlocked : KindTree
  Interface : Option (List ℕ) → KindTree

-- An import: the name of the package or interface, the requirement on versions, and the exact version of a locked release.
pub record ImportTree : Type 0 where
  pub name : List ℕ
  pub requirement : List Held
  pub kind : KindTree
  pub exact : Option Parts

-- a comparator with a whole version. It holds no build metadata.
abbrev pub compared : Op → Parts → Held
compared op version = (op, version.0, Some version.1, Some version.2, version.3)

-- ---- the marks of a name

abbrev pub unlocked_mark : List ℕ
unlocked_mark = codes "unlocked-dep="

abbrev pub locked_mark : List ℕ
locked_mark = codes "locked-dep="

abbrev pub integrity_mark : List ℕ
integrity_mark = codes ",integrity=<"

-- `@`
abbrev pub at_sign : ℕ
at_sign = 0x40

-- `>`
abbrev pub angle : ℕ
angle = 0x3E

-- `}`
abbrev pub brace : ℕ
brace = 0x7D

abbrev pub space : ℕ
space = 0x20

-- ---- what the parts of a name are

-- the version that a text is, by SemVer 2.0.0 with numbers below 2 ^ 64
unfoldable pub version_of : List ℕ → Option Parts
version_of text = result_ok (version_parts text)

-- the name of a package that a text is
unfoldable pub package_of : List ℕ → Option (List ℕ)
package_of text = if is_package_name text then Some text else None

-- the bound that a text is: a mark, and a version
unfoldable pub bound_of : List ℕ → Op → List ℕ → Option Held
bound_of mark op text = option_map (compared op) (option_and_then version_of (behind mark text))

-- the lower bound that a text is, `>=v`
abbrev pub lower_of : List ℕ → Option Held
lower_of text = bound_of (codes ">=") GreaterEq text

-- the upper bound that a text is, `<v`
abbrev pub upper_of : List ℕ → Option Held
upper_of text = bound_of (codes "<") Less text

-- one bound
unfoldable pub one_bound : List ℕ → Option (List Held)
one_bound text = option_map (λ bound. bound ∷ []) (option_or (lower_of text) (upper_of text))

-- a lower bound and an upper one
unfoldable pub both_bounds : List ℕ → List ℕ → Option (List Held)
both_bounds low high = option_and_then (λ lower. option_map (λ upper. lower ∷ upper ∷ []) (upper_of high)) (lower_of low)

-- what stands in braces: a bound, or a lower and an upper one with a space between them
abbrev pub bounds_at : List ℕ → Option (List ℕ × List ℕ) → Option (List Held)
bounds_at text None = one_bound text
bounds_at text (Some cut) = both_bounds cut.0 cut.1

unfoldable pub bounds_of : List ℕ → Option (List Held)
bounds_of text = bounds_at text (cut_first space text)

-- what stands after the `@` of a dependency: a star, or bounds in braces
unfoldable pub requirement_of : List ℕ → Option (List Held)
requirement_of text = if bytes_eq text (codes "*") then Some [] else option_and_then bounds_of (option_and_then (closed_by brace) (behind (codes "{") text))

-- ---- the kinds of names

-- a package of which a release is to be chosen
abbrev pub dependency : List Held → List ℕ → ImportTree
dependency requirement name = record { name = name; requirement = requirement; kind = Unlocked; exact = None }

abbrev pub dependency_at : List ℕ → Option (List ℕ × List ℕ) → Option ImportTree
dependency_at text None = option_map (dependency []) (package_of text)
dependency_at text (Some cut) = option_and_then (λ name. option_map (λ requirement. dependency requirement name) (requirement_of cut.1)) (package_of cut.0)

-- what stands inside `unlocked-dep=<>`: a package, and where there is an `@`, a requirement after it
unfoldable pub dependency_of : List ℕ → Option ImportTree
dependency_of text = dependency_at text (cut_first at_sign text)

-- what stands behind a locked package: nothing, or an integrity, which is a text that is not empty and holds no `>`
unfoldable pub integrity_in : List ℕ → Option (List ℕ)
integrity_in text = option_and_then (λ integrity. if is_empty integrity then None else Some integrity) (ended_by angle text)

unfoldable pub integrity_of : List ℕ → Option (Option (List ℕ))
integrity_of text = if is_empty text then Some None else option_map Some (option_and_then integrity_in (behind integrity_mark text))

-- a release that was locked: its version, where it is given, is required and kept exactly
abbrev pub locked : List ℕ → Option Parts → Option (List ℕ) → ImportTree
locked name version integrity = record { name = name; requirement = option_map_or (λ v. compared Exact v ∷ []) version []; kind = Locked integrity; exact = version }

abbrev pub release_at : List ℕ → Option (List ℕ × List ℕ) → Option (List ℕ × Option Parts)
release_at text None = option_map (λ name. (name, None)) (package_of text)
release_at text (Some cut) = option_and_then (λ name. option_map (λ version. (name, Some version)) (version_of cut.1)) (package_of cut.0)

-- what stands inside `locked-dep=<>`: a package, and where there is an `@`, a version after it
unfoldable pub release_of : List ℕ → Option (List ℕ × Option Parts)
release_of text = release_at text (cut_first at_sign text)

abbrev pub locked_at : List ℕ × List ℕ → Option ImportTree
locked_at cut = option_and_then (λ release. option_map (locked release.0 release.1) (integrity_of cut.1)) (release_of cut.0)

-- what stands behind `locked-dep=`
unfoldable pub locked_of : List ℕ → Option ImportTree
locked_of text = option_and_then locked_at (option_and_then (cut_first angle) (behind (codes "<") text))

-- an interface: its version, where it has one, is required
abbrev pub interface : List ℕ → List Held → Option (List ℕ) → ImportTree
interface name requirement version = record { name = name; requirement = requirement; kind = Interface version; exact = None }

abbrev pub interface_at : List ℕ → Option (List ℕ × List ℕ) → Option ImportTree
interface_at text None = if is_empty text then None else Some (interface text [] None)
interface_at text (Some cut) = option_map (λ version. interface cut.0 (compared Exact version ∷ []) (Some cut.1)) (version_of cut.1)

-- any other name, not empty: where there is an `@`, a version stands after the first one
unfoldable pub interface_of : List ℕ → Option ImportTree
interface_of text = interface_at text (cut_first at_sign text)

-- what stands behind `unlocked-dep=`
unfoldable pub unlocked_of : List ℕ → Option ImportTree
unlocked_of text = option_and_then dependency_of (option_and_then (closed_by angle) (behind (codes "<") text))

abbrev pub other_at : List ℕ → Option (List ℕ) → Option ImportTree
other_at text None = interface_of text
other_at text (Some rest) = locked_of rest

-- a name that does not begin with `unlocked-dep=`: `locked-dep=<..>`, or that of an interface
unfoldable pub other_of : List ℕ → Option ImportTree
other_of text = other_at text (behind locked_mark text)

abbrev pub import_at : List ℕ → Option (List ℕ) → Option ImportTree
import_at text None = other_of text
import_at text (Some rest) = unlocked_of rest

-- The import that a name asks for: `unlocked-dep=<..>`, `locked-dep=<..>`, or any other name that begins with neither mark.
unfoldable pub import_of : List ℕ → Option ImportTree
import_of text = import_at text (behind unlocked_mark text)

-- what a text asks for as the inside of `unlocked-dep=<>`
abbrev pub dependency_import : List ℕ → Option ImportTree
dependency_import text = import_of (codes "unlocked-dep=<" ++ text ++ codes ">")
