-- The texts that are written read back as what they were written of.
use Rattle.std.proofs.Common.{◌≡◌, ℕ, zero, suc, ◌&&◌, ◌<◌, ◌/◌, ◌%◌, ◌==◌, not, Bool, true, List, [], ◌∷◌, ◌++◌, codes, Some, refl, sym, ap, ◌∙◌, arith, inl, inr}
use Rattle.std.specs.Prelude.{slice_index}
use Rattle.std.proofs.lemmas.Bool.{and_parts, and_from, cases_lt}
use Rattle.std.proofs.lemmas.List.{append-nil}
use Rattle.semver.specs.Parse.{Parts}
use Rattle.semver.specs.Identifiers.{parts_text}
use Rattle.semver.specs.Grammar.{IsValid}
use Rattle.hex.specs.Hex.{IsBytes, encode_with, lower_digits}
use Rattle.warg_hash.specs.Hash.{IsDigest}
use Rattle.warg_hash.specs.Name.{IsPackageName}
use Rattle.warg_names.specs.Cut.{lacks}
use Rattle.warg_names.specs.Grammar.{Bounds, From, Below, Between, Range, Plain, Star, Within, LockedName, bounds_text, range_text, AreBounds, IsRange, bounds_requirement, range_requirement}
use Rattle.warg_names.specs.Import.{angle, dependency, locked, import_of, dependency_of}
use Rattle.warg_names.specs.ImportLaws.{import_of-again, unlocked_again, dependency_of-again}
use Rattle.warg_names.specs.Mark.{mark_text}
use Rattle.warg_names.specs.Texts.{versioned_text, locked_text, following, spaced}

-- ---- locked packages

-- the digit of a number below 16 is no `>`
abbrev is_apart : ℕ → Bool
is_apart d = not (slice_index lower_digits d == angle)

abbrev all_apart : ℕ → Bool
all_apart zero = true
all_apart (suc n) = is_apart n && all_apart n

apart_at : (n k : ℕ) → all_apart n ≡ true → k < n → is_apart k ≡ true
apart_at zero k h lt = absurd (omega arith)
apart_at (suc n) k h lt =
    let parts = and_parts (is_apart n) (all_apart n) h in
    elim (cases_lt k n) [
      | inl below ↦ apart_at n k parts.1 below
      | inr top ↦
          let e : k ≡ n = omega arith in
          rw e parts.0
    ]

-- hex digits hold no `>`
hex_lacks_angle : (bytes : List ℕ) → IsBytes bytes → lacks angle (encode_with lower_digits bytes) ≡ true
unfolding encode_with
hex_lacks_angle [] are = refl
hex_lacks_angle (b ∷ bytes) are =
    let lt : b < 256 = are 0 in
    and_from _ _ (apart_at 16 (b / 16) refl (omega (arith, lt)))
    (and_from _ _ (apart_at 16 (b % 16) refl (omega arith)) (hex_lacks_angle bytes (λ i. are (suc i))))

-- a locked package reads back as that package, version and digest
pub locked_text-again : (name : List ℕ) (version : Parts) (digest : List ℕ) → IsPackageName name → IsValid version → IsDigest digest
    → import_of (locked_text name version digest) ≡ Some (locked name (Some version) (Some (mark_text digest)))
locked_text-again name version digest is valid of_digest =
    import_of-again (LockedName name (Some version) (Some (mark_text digest)))
    (is, valid, (omega arith, hex_lacks_angle digest of_digest.1))

-- ---- requirements

-- a version without its build metadata
abbrev bare : Parts → Parts
bare v = (v.0, v.1, v.2, v.3, [])

bare_is_valid : (v : Parts) → IsValid v → IsValid (bare v)
bare_is_valid v valid = (valid.0, valid.1, valid.2, valid.3, refl)

abbrev bare_bounds : Bounds → Bounds
bare_bounds (From low) = From (bare low)
bare_bounds (Below high) = Below (bare high)
bare_bounds (Between low high) = Between (bare low) (bare high)

are_bare_bounds : (bounds : Bounds) → AreBounds bounds → AreBounds (bare_bounds bounds)
are_bare_bounds (From low) valid = bare_is_valid low valid
are_bare_bounds (Below high) valid = bare_is_valid high valid
are_bare_bounds (Between low high) valid = (bare_is_valid low valid.0, bare_is_valid high valid.1)

same_requirement : (bounds : Bounds) → bounds_requirement (bare_bounds bounds) ≡ bounds_requirement bounds
same_requirement (From low) = refl
same_requirement (Below high) = refl
same_requirement (Between low high) = refl

-- bounds are written as they are read
spaced_is : (bounds : Bounds) → spaced (bounds_requirement bounds) ≡ bounds_text (bare_bounds bounds)
unfolding following
spaced_is (From low) = append-nil (codes ">=" ++ parts_text (bare low))
spaced_is (Below high) = append-nil (codes "<" ++ parts_text (bare high))
spaced_is (Between low high) =
    ap (λ t. (codes ">=" ++ parts_text (bare low)) ++ (codes " " ++ t)) (append-nil (codes "<" ++ parts_text (bare high)))

versioned_is : (name : List ℕ) (bounds : Bounds) → versioned_text name (bounds_requirement bounds) ≡ name ++ range_text (Within (bare_bounds bounds))
versioned_is name (From low) = ap (λ t. name ++ (codes "@{" ++ (t ++ codes "}"))) (spaced_is (From low))
versioned_is name (Below high) = ap (λ t. name ++ (codes "@{" ++ (t ++ codes "}"))) (spaced_is (Below high))
versioned_is name (Between low high) = ap (λ t. name ++ (codes "@{" ++ (t ++ codes "}"))) (spaced_is (Between low high))

-- a package with a requirement reads back with that requirement
pub versioned_text-again : (name : List ℕ) (range : Range) → IsPackageName name → IsRange range
    → import_of (codes "unlocked-dep=<" ++ (versioned_text name (range_requirement range) ++ codes ">")) ≡ Some (dependency (range_requirement range) name)
versioned_text-again name Plain is valid = unlocked_again name ∙ ap dependency_of (sym (append-nil name)) ∙ dependency_of-again name Plain is tt
versioned_text-again name Star is valid = unlocked_again name ∙ ap dependency_of (sym (append-nil name)) ∙ dependency_of-again name Plain is tt
versioned_text-again name (Within bounds) is valid =
    unlocked_again (versioned_text name (bounds_requirement bounds))
    ∙ ap dependency_of (versioned_is name bounds)
    ∙ dependency_of-again name (Within (bare_bounds bounds)) is (are_bare_bounds bounds valid)
    ∙ ap (λ requirement. Some (dependency requirement name)) (same_requirement bounds)
