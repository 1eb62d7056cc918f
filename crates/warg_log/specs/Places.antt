-- Releases, and where versions stand among them.
use Rattle.std.specs.Prelude.{◌≡◌, ℕ, suc, zero, ◌-◌, if◌then◌else◌, List, [], ◌∷◌, map, length, take, Option, Some, None, option_map}
use Rattle.std.specs.Map.{lookup}
use Rattle.std.specs.BTreeMap.{BTreeMap}
use Rattle.semver.specs.declared.Version.{Version}
use Rattle.semver.specs.Identifiers.{parts_of}
use Rattle.semver.specs.Parse.{Parts}
use Rattle.warg_log.specs.declared.release.Release.{Release}
use Rattle.warg_log.specs.History.{same_version}

-- what clauses see of a release
abbrev pub release_view : Release → Parts × Option (List ℕ)
release_view r = (parts_of r.version, r.content)

abbrev pub release_views : List Release → List (Parts × Option (List ℕ))
release_views rs = map release_view rs

-- the versions of releases
abbrev pub versions_of : List (Parts × Option (List ℕ)) → List Parts
versions_of rs = map (λ r. r.0) rs

-- the first place of a version
abbrev pub place_of : Parts → List Parts → Option ℕ
place_of v [] = None
place_of v (w ∷ ws) = if same_version v w then Some 0 else option_map suc (place_of v ws)

-- no version stands twice
abbrev pub AreDistinct : List Parts → Type 0
AreDistinct [] = Unit {0}
AreDistinct (w ∷ ws) = (place_of w ws ≡ None) × AreDistinct ws

-- what a map from versions has at a version
abbrev pub place_in : BTreeMap Version ℕ → Version → Option ℕ
place_in m v = lookup (λ k. same_version (parts_of v) (parts_of k)) m.entries

-- the map has the place of each version, and no version stands twice
pub record ArePlaced (rs : List Release) (m : BTreeMap Version ℕ) : Type 0 where
  pub placed : (v : Version) → place_in m v ≡ place_of (parts_of v) (versions_of (release_views rs))
  pub distinct : AreDistinct (versions_of (release_views rs))

-- the releases but for the last
abbrev pub without_last : {A : Type 0} → List A → List A
without_last rs = take (length rs - 1) rs

-- the releases with another content at a place
abbrev pub with_content : List (Parts × Option (List ℕ)) → ℕ → Option (List ℕ) → List (Parts × Option (List ℕ))
with_content [] i content = []
with_content (r ∷ rs) zero content = (r.0, content) ∷ rs
with_content (r ∷ rs) (suc i) content = r ∷ with_content rs i content

-- the content of the release at a place, which a yanked one has not
abbrev pub content_at : List (Parts × Option (List ℕ)) → ℕ → Option (List ℕ)
content_at [] i = None
content_at (r ∷ rs) zero = r.1
content_at (r ∷ rs) (suc i) = content_at rs i
