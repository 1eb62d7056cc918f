-- A text is an import's name exactly where one of the forms gives it, and then it asks for what that form asks for.
use Rattle.std.proofs.Common.{◌≡◌, ℕ, ◌<◌, true, false, List, [], ◌++◌, length, codes, Option, Some, None, refl, sym, ap, ◌∙◌, arith}
use Rattle.std.specs.Prelude.{IfSome}
use Rattle.std.proofs.lemmas.Bool.{eqb-true, false_from_ne_true}
use Rattle.std.proofs.lemmas.List.{append-nil}
use Rattle.semver.specs.Parse.{Parts}
use Rattle.semver.specs.Identifiers.{parts_text}
use Rattle.semver.specs.Grammar.{IsValid}
use Rattle.semver.specs.declared.Op.{Op}
use Rattle.semver.specs.declared.Op.TheVariants.{GreaterEq, Less}
use Rattle.semver.proofs.Grammar.{version_parts-complete}
use Rattle.warg_hash.specs.Name.{IsPackageName}
use Rattle.warg_hash.specs.NameLaws.{is_package_name-complete}
use Rattle.warg_names.specs.Cut.{is_empty, lacks, behind, cut_first}
use Rattle.warg_names.specs.CutLaws.{some_is, behind-append, behind-none, cut_first-none, cut_first-append, closed_by-append, ended_by-append}
use Rattle.warg_names.specs.ByteLaws.{list_all-both, name_lacks_at, name_lacks_angle, version_lacks_space, version_lacks_angle}
use Rattle.warg_names.specs.Import.{ImportTree, compared, unlocked_mark, locked_mark, at_sign, angle, brace, space, version_of, package_of, bound_of, lower_of, one_bound, both_bounds, bounds_of, requirement_of, dependency, dependency_of, integrity_in, integrity_of, locked, release_of, locked_of, interface_of, unlocked_of, other_of, import_of}
use Rattle.warg_names.specs.Grammar.{Bounds, From, Below, Between, Range, Plain, Star, Within, ImportName, DependencyName, LockedName, InterfaceName, bounds_text, range_text, version_part, integrity_part, name_text, AreBounds, IsRange, IsIntegrity, Begins, IsImportName, bounds_requirement, range_requirement, asked, Names}

-- ---- what is written is read

pub version_of-again : (v : Parts) → IsValid v → version_of (parts_text v) ≡ Some v
unfolding version_of
version_of-again v valid = rw (version_parts-complete v valid) refl

package_of-again : (name : List ℕ) → IsPackageName name → package_of name ≡ Some name
unfolding package_of
package_of-again name is = rw (is_package_name-complete name is) refl

bound_of-again : (mark : List ℕ) (op : Op) (v : Parts) → IsValid v → bound_of mark op (mark ++ parts_text v) ≡ Some (compared op v)
unfolding bound_of
bound_of-again mark op v valid = rw (behind-append mark (parts_text v), version_of-again v valid) refl

-- a text that begins as an upper bound does is no lower one
no_lower : (text : List ℕ) → lower_of (codes "<" ++ text) ≡ None
unfolding bound_of behind
no_lower text = refl

bounds_of-again : (bounds : Bounds) → AreBounds bounds → bounds_of (bounds_text bounds) ≡ Some (bounds_requirement bounds)
unfolding bounds_of one_bound both_bounds
bounds_of-again (From low) valid =
    let uncut : cut_first space (codes ">=" ++ parts_text low) ≡ None = cut_first-none space (codes ">=" ++ parts_text low) (version_lacks_space low valid) in
    rw (uncut, bound_of-again (codes ">=") GreaterEq low valid) refl
bounds_of-again (Below high) valid =
    let uncut : cut_first space (codes "<" ++ parts_text high) ≡ None = cut_first-none space (codes "<" ++ parts_text high) (version_lacks_space high valid) in
    rw (uncut, no_lower (parts_text high), bound_of-again (codes "<") Less high valid) refl
bounds_of-again (Between low high) valid =
    let cut = cut_first-append space (codes ">=" ++ parts_text low) (codes "<" ++ parts_text high) (version_lacks_space low valid.0) in
    rw (cut, bound_of-again (codes ">=") GreaterEq low valid.0, bound_of-again (codes "<") Less high valid.1) refl

requirement_of-again : (bounds : Bounds) → AreBounds bounds → requirement_of (codes "{" ++ (bounds_text bounds ++ codes "}")) ≡ Some (bounds_requirement bounds)
unfolding requirement_of behind
requirement_of-again bounds valid = rw (closed_by-append brace (bounds_text bounds), bounds_of-again bounds valid) refl

requirement_of-star : requirement_of (codes "*") ≡ Some []
unfolding requirement_of
requirement_of-star = refl

-- what stands inside `unlocked-dep=<>` is read as it is written
pub dependency_of-again : (name : List ℕ) (range : Range) → IsPackageName name → IsRange range → dependency_of (name ++ range_text range) ≡ Some (dependency (range_requirement range) name)
unfolding dependency_of
dependency_of-again name Plain is valid =
    rw (append-nil name, cut_first-none at_sign name (name_lacks_at name is), package_of-again name is) refl
dependency_of-again name Star is valid =
    rw (cut_first-append at_sign name (codes "*") (name_lacks_at name is), package_of-again name is, requirement_of-star) refl
dependency_of-again name (Within bounds) is valid =
    rw (cut_first-append at_sign name (codes "{" ++ (bounds_text bounds ++ codes "}")) (name_lacks_at name is), package_of-again name is, requirement_of-again bounds valid) refl

release_of-again : (name : List ℕ) (version : Option Parts) → IsPackageName name → IfSome version IsValid → release_of (name ++ version_part version) ≡ Some (name, version)
unfolding release_of
release_of-again name None is valid =
    rw (append-nil name, cut_first-none at_sign name (name_lacks_at name is), package_of-again name is) refl
release_of-again name (Some v) is valid =
    rw (cut_first-append at_sign name (parts_text v) (name_lacks_at name is), package_of-again name is, version_of-again v valid) refl

some_is_not_empty : (text : List ℕ) → 0 < length text → is_empty text ≡ false
some_is_not_empty text h =
    false_from_ne_true (is_empty text) (λ t. let none : length text ≡ 0 = eqb-true (length text) 0 t in omega (arith, none))

integrity_of-again : (integrity : Option (List ℕ)) → IfSome integrity IsIntegrity → integrity_of (integrity_part integrity) ≡ Some integrity
unfolding integrity_of integrity_in behind
integrity_of-again None h = refl
integrity_of-again (Some integrity) h =
    rw (some_is_not_empty (integrity_part (Some integrity)) (omega arith), ended_by-append angle integrity h.1, some_is_not_empty integrity h.0) refl

release_lacks_angle : (name : List ℕ) (version : Option Parts) → IsPackageName name → IfSome version IsValid → lacks angle (name ++ version_part version) ≡ true
release_lacks_angle name None is valid = list_all-both _ name [] (name_lacks_angle name is) refl
release_lacks_angle name (Some v) is valid = list_all-both _ name (codes "@" ++ parts_text v) (name_lacks_angle name is) (version_lacks_angle v valid)

-- what stands inside `unlocked-dep=<>` is read as a dependency
pub unlocked_again : (inside : List ℕ) → import_of (codes "unlocked-dep=<" ++ (inside ++ codes ">")) ≡ dependency_of inside
unfolding import_of unlocked_of behind
unlocked_again inside = rw (closed_by-append angle inside) refl

locked_again : (name : List ℕ) (version : Option Parts) (integrity : Option (List ℕ)) → IsPackageName name → IfSome version IsValid → IfSome integrity IsIntegrity
    → import_of (name_text (LockedName name version integrity)) ≡ Some (locked name version integrity)
unfolding import_of other_of locked_of behind
locked_again name version integrity is valid good =
    rw (cut_first-append angle (name ++ version_part version) (integrity_part integrity) (release_lacks_angle name version is valid), release_of-again name version is valid, integrity_of-again integrity good) refl

interface_again : (name : List ℕ) (version : Option Parts) → lacks at_sign name ≡ true → IfSome version IsValid → 0 < length (name ++ version_part version)
    → interface_of (name ++ version_part version) ≡ Some (asked (InterfaceName name version))
unfolding interface_of
interface_again name None free valid some =
    rw (append-nil name, cut_first-none at_sign name free, some_is_not_empty name (rw (append-nil name) at some)) refl
interface_again name (Some v) free valid some = rw (cut_first-append at_sign name (parts_text v) free, version_of-again v valid) refl

-- a text that begins with no mark is the name of an interface
other_name : (text : List ℕ) → (Begins unlocked_mark text → ⊥) → (Begins locked_mark text → ⊥) → import_of text ≡ interface_of text
unfolding import_of other_of
other_name text no_unlocked no_locked =
    rw (behind-none unlocked_mark text (λ rest e. no_unlocked (rest, e)), behind-none locked_mark text (λ rest e. no_locked (rest, e))) refl

-- a name asks for what its form asks for
pub import_of-again : (name : ImportName) → IsImportName name → import_of (name_text name) ≡ Some (asked name)
import_of-again (DependencyName name range) is = unlocked_again (name ++ range_text range) ∙ dependency_of-again name range is.0 is.1
import_of-again (LockedName name version integrity) is = locked_again name version integrity is.0 is.1 is.2
import_of-again (InterfaceName name version) is =
    other_name (name ++ version_part version) is.3 is.4 ∙ interface_again name version is.0 is.1 is.2

-- so a text that is a name is read as what it asks for
pub names_read : (text : List ℕ) (tree : ImportTree) → Names text tree → import_of text ≡ Some tree
names_read text tree is = ap import_of is.written ∙ import_of-again is.name is.is_name ∙ ap (λ i. Some i) (sym is.asks)

-- a text asks for one import at most
pub one_import : (text : List ℕ) (a b : ImportTree) → Names text a → Names text b → a ≡ b
one_import text a b of_a of_b = some_is a b (sym (names_read text a of_a) ∙ names_read text b of_b)
