-- The choice of a release.
use Rattle.std.specs.Prelude.{◌≡◌, ◌≢◌, ◌&&◌, ℕ, Bool, true, false, if◌then◌else◌, List, fold, bytes_eq, is_some, Contains, Option, Some, None}
use Rattle.std.specs.List.{AllByRecursion}
use Rattle.std.specs.Option.{option_eq, option_map_or}
use Rattle.std.specs.Ordering.{ordering_then, nat_cmp, is_lt}
use Rattle.std.specs.declared.cmp.Ordering.{Ordering}
use Rattle.std.specs.declared.cmp.Ordering.TheVariants.{Less}
use Rattle.semver.specs.EvalViews.{matches_views}
use Rattle.semver.specs.Order.{pre_cmp, build_cmp}
use Rattle.semver.specs.Parse.{Parts, Held}
use Rattle.warg_log.specs.History.{same_version}

-- whether a release has a version, where one is given
abbrev pub has_version : Option Parts → Parts × Option (List ℕ) → Bool
has_version exact r = option_map_or (λ v. same_version v r.0) exact true

-- whether a release has a content of a digest, where one is given
abbrev pub has_digest : Option (List ℕ) → Parts × Option (List ℕ) → Bool
has_digest digest r = option_map_or (λ d. option_eq bytes_eq (Some d) r.1) digest true

-- whether a release is not yanked, meets a requirement, and has an exact version and a digest where they are given
abbrev pub is_candidate : List Held → Option Parts → Option (List ℕ) → Parts × Option (List ℕ) → Bool
is_candidate req exact digest r = is_some r.1 && (matches_views req r.0 && (has_version exact r && has_digest digest r))

-- by precedence, then by build metadata
abbrev pub version_cmp : Parts → Parts → Ordering
version_cmp a b =
    ordering_then (nat_cmp a.0 b.0) (ordering_then (nat_cmp a.1 b.1) (ordering_then (nat_cmp a.2 b.2)
    (ordering_then (pre_cmp a.3 b.3) (build_cmp a.4 b.4))))

-- the greatest of the releases that pass a test; none where there is none
abbrev pub IsGreatest : (Parts × Option (List ℕ) → Bool) → List (Parts × Option (List ℕ)) → Option (Parts × Option (List ℕ)) → Type 0
IsGreatest passes rs None = AllByRecursion (λ s. passes s ≡ false) rs
IsGreatest passes rs (Some r) = Contains rs r × (passes r ≡ true) × AllByRecursion (λ s. passes s ≡ true → version_cmp r.0 s.0 ≢ Less) rs

-- of the best release before and one more: the later one where it passes and is greater
abbrev pub better : (Parts × Option (List ℕ) → Bool) → Option (Parts × Option (List ℕ)) → Parts × Option (List ℕ) → Option (Parts × Option (List ℕ))
better passes None r = if passes r then Some r else None
better passes (Some b) r = if passes r && is_lt (version_cmp b.0 r.0) then Some r else Some b

-- the greatest of the releases that pass a test, as it is found from the first one on
abbrev pub greatest : (Parts × Option (List ℕ) → Bool) → List (Parts × Option (List ℕ)) → Option (Parts × Option (List ℕ))
greatest passes rs = fold (better passes) None rs

-- the choice by a requirement, and by an exact version and a digest where they are given: the greatest of the candidates
abbrev pub IsChosen : List Held → Option Parts → Option (List ℕ) → List (Parts × Option (List ℕ)) → Option (Parts × Option (List ℕ)) → Type 0
IsChosen req exact digest rs choice = IsGreatest (is_candidate req exact digest) rs choice

-- that choice, as it is found
abbrev pub choice : List Held → Option Parts → Option (List ℕ) → List (Parts × Option (List ℕ)) → Option (Parts × Option (List ℕ))
choice req exact digest rs = greatest (is_candidate req exact digest) rs
