-- Where versions stand among releases.
use Rattle.std.proofs.Common.{◌≡◌, ℕ, suc, ◌==◌, ◌&&◌, Bool, true, false, cond, List, [], ◌∷◌, ◌++◌, length, Option, Some, None, option_map, refl, sym, ap, ◌∙◌, inl, inr}
use Rattle.std.specs.Prelude.{bytes_eq}
use Rattle.std.specs.Option.{option_or}
use Rattle.std.proofs.lemmas.Bool.{cases_Bool, and_parts, and_from, eqb-true, eq-eqb, false≢true}
use Rattle.std.proofs.lemmas.Slice.Eq.{bytes_eq-Decides}
use Rattle.semver.specs.Parse.{Parts}
use Rattle.warg_log.specs.History.{same_version}
use Rattle.warg_log.specs.Places.{place_of, versions_of, AreDistinct}

pub some_is_none : {A : Type 0} {x : A} → Some x ≡ None → ⊥
some_is_none e = cc

pub parts_same : (v w : Parts) → v.0 ≡ w.0 → v.1 ≡ w.1 → v.2 ≡ w.2 → v.3 ≡ w.3 → v.4 ≡ w.4 → v ≡ w
parts_same v w a b c d e =
    ap (λ (x : ℕ). (x, v.1, v.2, v.3, v.4)) a ∙ ap (λ (x : ℕ). (w.0, x, v.2, v.3, v.4)) b ∙ ap (λ (x : ℕ). (w.0, w.1, x, v.3, v.4)) c
    ∙ ap (λ (x : List ℕ). (w.0, w.1, w.2, x, v.4)) d ∙ ap (λ (x : List ℕ). (w.0, w.1, w.2, w.3, x)) e

pub no_more : (o : Option ℕ) → option_map suc o ≡ None → o ≡ None
no_more None h = refl
no_more (Some i) h = absurd (some_is_none h)

or_none : (o p : Option ℕ) → option_or o p ≡ None → (o ≡ None) × (p ≡ None)
or_none None p h = (refl, h)
or_none (Some i) p h = absurd (some_is_none h)

cond_none : (b : Bool) (n : ℕ) → cond b (Some n) None ≡ None → b ≡ false
cond_none true n h = absurd (some_is_none h)
cond_none false n h = refl

first : (b : Bool) → cond b (Some 0) (option_map suc None) ≡ option_or None (cond b (Some 0) None)
first true = refl
first false = refl

later : (o : Option ℕ) (b : Bool) (n : ℕ) → option_map suc (option_or o (cond b (Some n) None)) ≡ option_or (option_map suc o) (cond b (Some (suc n)) None)
later (Some i) b n = refl
later None true n = refl
later None false n = refl

-- versions that are the same are equal
pub same_version-is : (v w : Parts) → same_version v w ≡ true → v ≡ w
same_version-is v w h =
    let a = and_parts (v.0 == w.0) ((v.1 == w.1) && ((v.2 == w.2) && (bytes_eq v.3 w.3 && bytes_eq v.4 w.4))) h in
    let b = and_parts (v.1 == w.1) ((v.2 == w.2) && (bytes_eq v.3 w.3 && bytes_eq v.4 w.4)) a.1 in
    let c = and_parts (v.2 == w.2) (bytes_eq v.3 w.3 && bytes_eq v.4 w.4) b.1 in
    let d = and_parts (bytes_eq v.3 w.3) (bytes_eq v.4 w.4) c.1 in
    parts_same v w (eqb-true v.0 w.0 a.0) (eqb-true v.1 w.1 b.0) (eqb-true v.2 w.2 c.0) ((bytes_eq-Decides v.3 w.3).0 d.0) ((bytes_eq-Decides v.4 w.4).0 d.1)

pub same_version-refl : (v : Parts) → same_version v v ≡ true
same_version-refl v =
    and_from _ _ (eq-eqb v.0 v.0 refl) (and_from _ _ (eq-eqb v.1 v.1 refl) (and_from _ _ (eq-eqb v.2 v.2 refl)
    (and_from _ _ ((bytes_eq-Decides v.3 v.3).1 refl) ((bytes_eq-Decides v.4 v.4).1 refl))))

-- one more version
pub place_of-push : (v w : Parts) (ws : List Parts) → place_of v (ws ++ w ∷ []) ≡ option_or (place_of v ws) (cond (same_version v w) (Some (length ws)) None)
place_of-push v w [] = first (same_version v w)
place_of-push v w (x ∷ ws) = elim (cases_Bool (same_version v x)) [
  | inl here ↦ rw here refl
  | inr other ↦ rw (other, place_of-push v w ws) (later (place_of v ws) (same_version v w) (length ws))
]

pub versions-push : (rs : List (Parts × Option (List ℕ))) (r : Parts × Option (List ℕ)) → versions_of (rs ++ r ∷ []) ≡ versions_of rs ++ r.0 ∷ []
versions-push [] r = refl
versions-push (x ∷ rs) r = ap (λ (ws : List Parts). x.0 ∷ ws) (versions-push rs r)

not_same : (v w : Parts) (ws : List Parts) → place_of v (w ∷ ws) ≡ None → (same_version v w ≡ false) × (place_of v ws ≡ None)
not_same v w ws h = elim (cases_Bool (same_version v w)) [
  | inl here ↦ absurd (some_is_none (sym (ap (λ (b : Bool). cond b (Some 0) (option_map suc (place_of v ws))) here) ∙ h))
  | inr other ↦ (other, no_more (place_of v ws) (sym (ap (λ (b : Bool). cond b (Some 0) (option_map suc (place_of v ws))) other) ∙ h))
]

pub same-sym : (v w : Parts) → same_version v w ≡ false → same_version w v ≡ false
same-sym v w h = elim (cases_Bool (same_version w v)) [
  | inl is ↦ absurd (false≢true (sym h ∙ ap (same_version v) (same_version-is w v is) ∙ same_version-refl v))
  | inr is ↦ is
]

-- a version that is new keeps all distinct
pub AreDistinct-push : (ws : List Parts) (w : Parts) → AreDistinct ws → place_of w ws ≡ None → AreDistinct (ws ++ w ∷ [])
AreDistinct-push [] w are new = (refl, tt)
AreDistinct-push (x ∷ ws) w are new =
    let parts = not_same w x ws new in
    (place_of-push x w ws ∙ rw (are.0, same-sym w x parts.0) refl, AreDistinct-push ws w are.1 parts.1)

-- what stands before the last
pub AreDistinct-pop : (ws : List Parts) (w : Parts) → AreDistinct (ws ++ w ∷ []) → AreDistinct ws × (place_of w ws ≡ None)
AreDistinct-pop [] w are = (tt, refl)
AreDistinct-pop (x ∷ ws) w are =
    let rest = AreDistinct-pop ws w are.1 in
    let parts = or_none (place_of x ws) (cond (same_version x w) (Some (length ws)) None) (sym (place_of-push x w ws) ∙ are.0) in
    let other : same_version x w ≡ false = cond_none (same_version x w) (length ws) parts.1 in
    ((parts.0, rest.0), rw (same-sym x w other, rest.1) refl)
