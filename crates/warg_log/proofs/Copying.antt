-- A map that is copied entry by entry, as a function from the bytes of keys.
use mathlib.Core.Path.{fun_ext}
use Rattle.std.proofs.Common.{◌≡◌, ℕ, zero, suc, ◌<◌, length, get_or, take, arith, Bool, true, false, cond, List, [], ◌∷◌, Option, Some, None, option_map, refl, sym, ap, ◌∙◌, inl, inr}
use Rattle.std.specs.Prelude.{bytes_eq}
use Rattle.std.specs.Option.{option_or}
use Rattle.std.specs.List.{AllByRecursion, IsDistinct}
use Rattle.std.specs.Map.{keys_of, lookup}
use Rattle.std.specs.Cmp.Lexicographic.{slice_cmp}
use Rattle.std.specs.Ordering.{is_eq, nat_cmp}
use Rattle.std.proofs.lemmas.Bool.{cases_Bool}
use Rattle.std.proofs.lemmas.Slice.Eq.{bytes_eq-Decides}
use Rattle.std.proofs.lemmas.Map.Text.{is_eq-slice_cmp}
use Rattle.semver.specs.Identifiers.{parts_of}
use Rattle.semver.specs.Parse.{Parts}
use Rattle.warg_log.specs.declared.release.Release.{Release}
use Rattle.warg_log.specs.declared.facts.Facts.{Facts}
use Rattle.warg_log.specs.Facts.{known_by}
use Rattle.warg_log.specs.History.{same_version}
use Rattle.warg_log.specs.Keys.{known}
use Rattle.warg_log.specs.Namespaces.{space}
use Rattle.warg_log.specs.Places.{place_of, versions_of, release_views, AreDistinct}
use Rattle.warg_log.proofs.PermissionLaws.{bytes_sym}
use Rattle.warg_log.proofs.ReleaseLaws.{same-sym}

or_nothing : {A : Type 0} (o : Option A) → option_or o None ≡ o
or_nothing (Some x) = refl
or_nothing None = refl

-- a key is seen as its bytes, and a value by a view
module _ {K V W : Type 0} (name : K → List ℕ) (view : V → W) where
  -- what entries have at a key
  abbrev pub found_in : List (K × V) → List ℕ → Option W
  found_in es q = option_map view (lookup (λ k. is_eq (slice_cmp nat_cmp q (name k))) es)

  abbrev pub is_same_key : K → K → Bool
  is_same_key a b = is_eq (slice_cmp nat_cmp (name a) (name b))

  -- what was copied and the entries that are left are the whole; no key that is left was copied, and none stands twice
  pub record IsCopying (copied whole : List ℕ → Option W) (rest : List (K × V)) : Type 0 where
    pub joined : (q : List ℕ) → option_or (copied q) (found_in rest q) ≡ whole q
    pub fresh : AllByRecursion (λ k. copied (name k) ≡ None) (keys_of rest)
    pub distinct : IsDistinct is_same_key (keys_of rest)

  all_fresh : (copied : List ℕ → Option W) → ((q : List ℕ) → copied q ≡ None) → (ks : List K) → AllByRecursion (λ k. copied (name k) ≡ None) ks
  all_fresh copied none [] = tt
  all_fresh copied none (k ∷ ks) = (none (name k), all_fresh copied none ks)

  pub copying-none : (copied whole : List ℕ → Option W) (rest : List (K × V)) → ((q : List ℕ) → copied q ≡ None) → ((q : List ℕ) → whole q ≡ found_in rest q) → IsDistinct is_same_key (keys_of rest) → IsCopying copied whole rest
  copying-none copied whole rest none all distinct = record {
    joined = λ q. rw (none q) (sym (all q));
    fresh = all_fresh copied none (keys_of rest);
    distinct = distinct;
  }

  still_fresh : (copied more : List ℕ → Option W) (k : K) (v : V) → ((q : List ℕ) → more q ≡ cond (bytes_eq (name k) q) (Some (view v)) (copied q))
      → (ks : List K) → AllByRecursion (λ x. copied (name x) ≡ None) ks → AllByRecursion (λ x. is_same_key k x ≡ false) ks → AllByRecursion (λ x. more (name x) ≡ None) ks
  still_fresh copied more k v is [] fresh apart = tt
  still_fresh copied more k v is (x ∷ ks) fresh apart =
      let other : bytes_eq (name k) (name x) ≡ false = sym (is_eq-slice_cmp (name k) (name x)) ∙ apart.0 in
      (is (name x) ∙ rw other fresh.0, still_fresh copied more k v is ks fresh.1 apart.1)

  pub copying-more : (copied more whole : List ℕ → Option W) (k : K) (v : V) (rest : List (K × V)) → IsCopying copied whole ((k, v) ∷ rest)
      → ((q : List ℕ) → more q ≡ cond (bytes_eq (name k) q) (Some (view v)) (copied q)) → IsCopying more whole rest
  unfolding IsDistinct
  copying-more copied more whole k v rest c is = record {
    joined = λ q. elim (cases_Bool (bytes_eq (name k) q)) [
      | inl here ↦
          let same : name k ≡ q = (bytes_eq-Decides (name k) q).0 here in
          let none : copied q ≡ None = ap copied (sym same) ∙ c.fresh.0 in
          let at : is_eq (slice_cmp nat_cmp q (name k)) ≡ true = is_eq-slice_cmp q (name k) ∙ bytes_sym q (name k) ∙ here in
          let now : more q ≡ Some (view v) = is q ∙ rw here refl in
          let was : Some (view v) ≡ whole q = rw (none, at) at (c.joined q) in
          rw now was
      | inr there ↦
          let at : is_eq (slice_cmp nat_cmp q (name k)) ≡ false = is_eq-slice_cmp q (name k) ∙ bytes_sym q (name k) ∙ there in
          let now : more q ≡ copied q = is q ∙ rw there refl in
          rw now (rw at at (c.joined q))
    ];
    fresh = still_fresh copied more k v is (keys_of rest) c.fresh.1 c.distinct.0;
    distinct = c.distinct.1;
  }

  pub copying-all : (copied whole : List ℕ → Option W) → IsCopying copied whole [] → (q : List ℕ) → copied q ≡ whole q
  copying-all copied whole c q = sym (or_nothing (copied q)) ∙ c.joined q

pub seen_itself : {V : Type 0} (o : Option V) → o ≡ option_map (λ (v : V). v) o
seen_itself None = refl
seen_itself (Some v) = refl

-- ---- releases

none_later : (b : Bool) (o : Option ℕ) → cond b (Some 0) (option_map suc o) ≡ None → (b ≡ false) × (o ≡ None)
none_later true o h = absurd cc
none_later false None h = (refl, refl)
none_later false (Some i) h = absurd cc

-- a version that has no place is none of those that are there
unplaced : (w : Parts) (rs : List Release) (i : ℕ) (r : Release) → place_of w (versions_of (release_views rs)) ≡ None → i < length rs → r ≡ get_or rs i r → same_version w (parts_of r.version) ≡ false
unplaced w [] i r none lt is = absurd (omega arith)
unplaced w (x ∷ rs) zero r none lt is =
    let first = none_later (same_version w (parts_of x.version)) (place_of w (versions_of (release_views rs))) none in
    ap (λ (y : Release). same_version w (parts_of y.version)) is ∙ first.0
unplaced w (x ∷ rs) (suc i) r none lt is =
    let first = none_later (same_version w (parts_of x.version)) (place_of w (versions_of (release_views rs))) none in
    unplaced w rs i r first.1 (omega arith) is

-- of distinct versions each has no place among those before it
pub fresh_before : (rs : List Release) (i : ℕ) (r : Release) → AreDistinct (versions_of (release_views rs)) → i < length rs → r ≡ get_or rs i r → place_of (parts_of r.version) (versions_of (release_views (take i rs))) ≡ None
fresh_before [] i r distinct lt is = absurd (omega arith)
fresh_before (x ∷ rs) zero r distinct lt is = refl
fresh_before (x ∷ rs) (suc i) r distinct lt is =
    let other : same_version (parts_of r.version) (parts_of x.version) ≡ false = same-sym (parts_of x.version) (parts_of r.version) (unplaced (parts_of x.version) rs i r distinct.0 (omega arith) is) in
    rw (other, fresh_before rs i r distinct.1 (omega arith) is) refl

-- ---- facts

pub known_alike : (f g : Facts) → ((id : List ℕ) → known f.keys id ≡ known g.keys id) → f.releases ≡ g.releases → ((n : List ℕ) → space f.namespaces n ≡ space g.namespaces n) → known_by f ≡ known_by g
known_alike f g keys releases spaces = λ i. record { keys = fun_ext keys i; releases = releases i; namespaces = fun_ext spaces i }
