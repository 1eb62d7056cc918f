-- What the entries of a plan are called by, and what each of them asks for.
use Rattle.std.specs.Prelude.{ℕ, Bool, true, false, if◌then◌else◌, List, Option, Some, None, bytes_eq, option_map, option_and_then}
use Rattle.semver.specs.Parse.{Parts}
use Rattle.warg_hash.specs.Name.{is_package_name}
use Rattle.warg_log.specs.Choice.{choice}
use Rattle.warg_names.specs.Import.{KindTree, Locked, Unlocked, Interface, ImportTree, dependency_import}
use Rattle.warg_names.specs.Mark.{digest_marked}
use Rattle.warg_names.specs.Same.{same_import}
use Rattle.compose_config.specs.Plan.{Settings, dependency_name}

-- The key of an entry: an instance that the text names, or what an import's name asks for.
pub data Key : Type 0 where
  Named : List ℕ → Key
  Parsed : ImportTree → Key

-- whether two keys are the same: `a:b` and `a:b@*` ask for the same import, and a named key is never a parsed one
abbrev pub same_key : Key → Key → Bool
same_key (Named a) (Named b) = bytes_eq a b
same_key (Parsed a) (Parsed b) = same_import a b
same_key _ _ = false

abbrev pub is_interface : KindTree → Bool
is_interface (Interface version) = true
is_interface (Locked mark) = false
is_interface Unlocked = false

-- the import, where its name is that of a package
abbrev pub of_package : ImportTree → Option ImportTree
of_package i = if is_package_name i.name then Some i else None

-- the import of a key: the text's dependency of an instance, read as the inside of `unlocked-dep=<>`, or what was read
abbrev pub import_at : Settings → Key → Option ImportTree
import_at s (Named name) = dependency_import (dependency_name s name)
import_at s (Parsed i) = Some i

-- what a key asks a registry for, if it asks for a package
unfoldable pub asked : Settings → Key → Option ImportTree
asked s k = option_and_then of_package (import_at s k)

-- ---- releases

-- a version, and the digest of its content, which a yanked one has not
abbrev pub Release : Type 0
Release = Parts × Option (List ℕ)

-- the digest that a mark asks for: any where there is no mark, and no release has it where the mark names none
abbrev pub asked_digest : KindTree → Option (Option (List ℕ))
asked_digest (Locked (Some mark)) = option_map Some (digest_marked mark)
asked_digest _ = Some None

-- a release's version and digest, where it is not yanked
abbrev pub unyanked : Release → Option (Parts × List ℕ)
unyanked r = option_map (λ d. (r.0, d)) r.1

-- the version and digest that an import takes of some releases: the greatest that meets what it asks for
abbrev pub chosen : ImportTree → List Release → Option (List ℕ) → Option (Parts × List ℕ)
chosen i rs digest = option_and_then unyanked (choice i.requirement i.exact digest rs)

unfoldable pub choice_for : ImportTree → List Release → Option (Parts × List ℕ)
choice_for i rs = option_and_then (chosen i rs) (asked_digest i.kind)
