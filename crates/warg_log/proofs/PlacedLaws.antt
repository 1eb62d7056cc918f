-- The map of places follows the releases.
use Rattle.std.proofs.Common.{◌≡◌, ℕ, zero, suc, ◌<◌, true, false, cond, List, [], ◌∷◌, ◌++◌, length, get_or, set, Option, Some, None, refl, sym, ap, subst, ◌∙◌, arith, inl, inr}
use Rattle.std.specs.Option.{option_or}
use Rattle.std.specs.BTreeMap.{BTreeMap, UpdatesBy}
use Rattle.std.proofs.lemmas.Bool.{cases_Bool}
use Rattle.std.proofs.lemmas.List.{map_push}
use Rattle.semver.specs.declared.Version.{Version}
use Rattle.semver.specs.Identifiers.{parts_of}
use Rattle.semver.specs.Parse.{Parts}
use Rattle.semver.specs.contracts.VersionOrd.TheImpl.{cmp-value}
use Rattle.warg_log.specs.declared.release.Release.{Release}
use Rattle.warg_log.specs.History.{same_version}
use Rattle.warg_log.specs.Places.{release_view, release_views, versions_of, place_of, place_in, AreDistinct, ArePlaced, with_content, content_at}
use Rattle.warg_log.proofs.VersionKeys.{look_after}
use Rattle.warg_log.proofs.ReleaseLaws.{same_version-is, same_version-refl, same-sym, place_of-push, versions-push, AreDistinct-push, AreDistinct-pop}

or_nothing : {A : Type 0} (o : Option A) → option_or o None ≡ o
or_nothing (Some x) = refl
or_nothing None = refl

versions-views : (rs : List Release) (r : Release) → versions_of (release_views (rs ++ r ∷ [])) ≡ versions_of (release_views rs) ++ parts_of r.version ∷ []
versions-views rs r = ap versions_of (map_push release_view rs r) ∙ versions-push (release_views rs) (release_view r)

length-versions : (rs : List Release) → length (versions_of (release_views rs)) ≡ length rs
length-versions [] = refl
length-versions (r ∷ rs) = ap suc (length-versions rs)

pub ArePlaced-push : (rs : List Release) (r : Release) (key : Version) (m n : BTreeMap Version ℕ) → ArePlaced rs m → parts_of key ≡ parts_of r.version
    → place_of (parts_of r.version) (versions_of (release_views rs)) ≡ None → UpdatesBy cmp-value.it (cmp-value.it key) m n (Some (length rs)) → ArePlaced (rs ++ r ∷ []) n
ArePlaced-push rs r key m n are same new updates =
    let ws = versions_of (release_views rs) in
    let w = parts_of r.version in
    record {
      placed = λ v.
          let after = look_after key m n (Some (length rs)) updates v in
          let whole : place_of (parts_of v) (versions_of (release_views (rs ++ r ∷ []))) ≡ option_or (place_of (parts_of v) ws) (cond (same_version (parts_of v) w) (Some (length ws)) None) =
          ap (place_of (parts_of v)) (versions-views rs r) ∙ place_of-push (parts_of v) w ws in
          elim (cases_Bool (same_version (parts_of key) (parts_of v))) [
            | inl here ↦
                let is : parts_of v ≡ w = sym (same_version-is (parts_of key) (parts_of v) here) ∙ same in
                let none : place_of (parts_of v) ws ≡ None = ap (λ (x : Parts). place_of x ws) is ∙ new in
                let yes : same_version (parts_of v) w ≡ true = ap (λ (x : Parts). same_version x w) is ∙ same_version-refl w in
                after ∙ rw here (rw (whole, none, yes, length-versions rs) refl)
            | inr other ↦
                let no : same_version (parts_of v) w ≡ false = ap (same_version (parts_of v)) (sym same) ∙ same-sym (parts_of key) (parts_of v) other in
                after ∙ rw other (are.placed v ∙ sym (whole ∙ rw no (or_nothing (place_of (parts_of v) ws))))
          ];
      distinct = subst AreDistinct (sym (versions-views rs r)) (AreDistinct-push ws w are.distinct new);
    }

pub ArePlaced-pop : (rs : List Release) (r : Release) (m n : BTreeMap Version ℕ) → ArePlaced (rs ++ r ∷ []) m → UpdatesBy cmp-value.it (cmp-value.it r.version) m n None → ArePlaced rs n
ArePlaced-pop rs r m n are updates =
    let ws = versions_of (release_views rs) in
    let w = parts_of r.version in
    let parts = AreDistinct-pop ws w (subst AreDistinct (versions-views rs r) are.distinct) in
    record {
      placed = λ v.
          let after = look_after r.version m n None updates v in
          let whole : place_in m v ≡ option_or (place_of (parts_of v) ws) (cond (same_version (parts_of v) w) (Some (length ws)) None) =
          are.placed v ∙ ap (place_of (parts_of v)) (versions-views rs r) ∙ place_of-push (parts_of v) w ws in
          elim (cases_Bool (same_version w (parts_of v))) [
            | inl here ↦
                let is : parts_of v ≡ w = sym (same_version-is w (parts_of v) here) in
                after ∙ rw here (sym (ap (λ (x : Parts). place_of x ws) is ∙ parts.1))
            | inr other ↦
                let no : same_version (parts_of v) w ≡ false = same-sym w (parts_of v) other in
                after ∙ rw other (whole ∙ rw no (or_nothing (place_of (parts_of v) ws)))
          ];
      distinct = parts.0;
    }

-- another content keeps the versions
versions-set : (rs : List Release) (i : ℕ) (r d : Release) → parts_of r.version ≡ parts_of (get_or rs i d).version → i < length rs → versions_of (release_views (set rs i r)) ≡ versions_of (release_views rs)
versions-set [] i r d same lt = refl
versions-set (x ∷ rs) zero r d same lt = ap (λ (v : Parts). v ∷ versions_of (release_views rs)) same
versions-set (x ∷ rs) (suc i) r d same lt = ap (λ (ws : List Parts). parts_of x.version ∷ ws) (versions-set rs i r d same (omega arith))

pub ArePlaced-set : (rs : List Release) (i : ℕ) (r d : Release) (m : BTreeMap Version ℕ) → ArePlaced rs m → parts_of r.version ≡ parts_of (get_or rs i d).version → i < length rs → ArePlaced (set rs i r) m
ArePlaced-set rs i r d m are same lt =
    let e = versions-set rs i r d same lt in
    record {
      placed = λ v. are.placed v ∙ ap (place_of (parts_of v)) (sym e);
      distinct = subst AreDistinct (sym e) are.distinct;
    }

pub views-set : (rs : List Release) (i : ℕ) (r d : Release) → parts_of r.version ≡ parts_of (get_or rs i d).version → i < length rs → release_views (set rs i r) ≡ with_content (release_views rs) i r.content
views-set [] i r d same lt = refl
views-set (x ∷ rs) zero r d same lt = ap (λ (v : Parts). (v, r.content) ∷ release_views rs) same
views-set (x ∷ rs) (suc i) r d same lt = ap (λ (ws : List (Parts × Option (List ℕ))). release_view x ∷ ws) (views-set rs i r d same (omega arith))

-- the content at a place
pub content_at-views : (rs : List Release) (i : ℕ) (d : Release) → i < length rs → content_at (release_views rs) i ≡ (get_or rs i d).content
content_at-views [] i d lt = absurd (omega arith)
content_at-views (r ∷ rs) zero d lt = refl
content_at-views (r ∷ rs) (suc i) d lt = content_at-views rs i d (omega arith)
