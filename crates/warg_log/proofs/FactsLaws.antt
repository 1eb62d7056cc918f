-- What is known, and taking back what was entered.
use Rattle.std.proofs.Common.{◌≡◌, ℕ, zero, suc, ◌-◌, ◌<◌, Bool, true, false, cond, List, [], ◌∷◌, ◌++◌, length, get_or, Option, Some, None, option_map, refl, sym, ap, subst, ◌∙◌, arith, inl, inr}
use Rattle.std.specs.Prelude.{bytes_eq, find}
use Rattle.std.proofs.lemmas.Bool.{cases_Bool}
use Rattle.std.proofs.lemmas.List.{length-append, take_at, length-map}
use Rattle.std.proofs.lemmas.Slice.Eq.{bytes_eq-Decides}
use mathlib.Core.Path.{fun_ext}
use Rattle.sha2.specs.Sha256.{sha256}
use Rattle.semver.specs.Parse.{Parts}
use Rattle.warg_log.specs.declared.permissions.PermissionSet.{PermissionSet}
use Rattle.warg_log.specs.declared.keys.KeyFacts.{KeyFacts}
use Rattle.warg_log.specs.declared.facts.Undo.{Undo}
use Rattle.warg_log.specs.declared.facts.Undo.TheVariants as undo
use Rattle.warg_log.specs.History.{same_version}
use Rattle.warg_log.specs.Keys.{given, restored}
use Rattle.warg_log.specs.Places.{place_of, versions_of, without_last, with_content, content_at}
use Rattle.warg_log.specs.Facts.{PlainFacts, give, undone, undone_all, CanUndo, CanUndoAll, place_among}

-- a known key that is changed at one id and put back
pub given_back : (keys : List ℕ → Option KeyFacts) (id q : List ℕ) (key : List ℕ) (gained : PermissionSet) (old : Option KeyFacts) → keys id ≡ old
    → cond (bytes_eq id q) (restored (cond (bytes_eq id q) (Some (given (keys q) key gained)) (keys q)) (option_map (λ (f : KeyFacts). f.permissions) old)) (cond (bytes_eq id q) (Some (given (keys q) key gained)) (keys q)) ≡ keys q
given_back keys id q key gained old is = elim (cases_Bool (bytes_eq id q)) [
  | inl here ↦
      let same : keys q ≡ old = ap keys (sym ((bytes_eq-Decides id q).0 here)) ∙ is in
      rw (here, same) (back old)
  | inr there ↦ rw there refl
]
  where
    back : (o : Option KeyFacts) → restored (Some (given o key gained)) (option_map (λ (f : KeyFacts). f.permissions) o) ≡ o
    back None = refl
    back (Some f) = refl

pub undo_give : (k : PlainFacts) (key : List ℕ) (gained : PermissionSet) → undone (undo.Key (sha256 key) (option_map (λ (f : KeyFacts). f.permissions) (k.keys (sha256 key)))) (give key gained k) ≡ k
undo_give k key gained = ap (λ (keys : List ℕ → Option KeyFacts). record k { keys = keys }) (fun_ext (λ q. given_back k.keys (sha256 key) q key gained (k.keys (sha256 key)) refl))

-- a release that is taken away again
pub without_last-push : {A : Type 0} (xs : List A) (x : A) → without_last (xs ++ x ∷ []) ≡ xs
without_last-push xs x = let n : length (xs ++ x ∷ []) - 1 ≡ length xs = omega (arith, length-append xs (x ∷ [])) in rw n (take_at xs (x ∷ []) (length xs) refl)

-- a content that is put back
pub content_back : (rs : List (Parts × Option (List ℕ))) (i : ℕ) (content : List ℕ) → content_at rs i ≡ Some content → with_content (with_content rs i None) i (Some content) ≡ rs
content_back [] i content h = refl
content_back (r ∷ rs) zero content h = ap (λ (c : Option (List ℕ)). (r.0, c) ∷ rs) (sym h)
content_back (r ∷ rs) (suc i) content h = ap (λ (xs : List (Parts × Option (List ℕ))). r ∷ xs) (content_back rs i content h)

-- a place is within the list
pub place_of-within : (v : Parts) (ws : List Parts) (i : ℕ) → place_of v ws ≡ Some i → i < length ws
place_of-within v [] i h = absurd cc
place_of-within v (w ∷ ws) i h = within (same_version v w) (place_of v ws) i h (λ j e. place_of-within v ws j e)
  where
    within : (b : Bool) (o : Option ℕ) (i : ℕ) → cond b (Some 0) (option_map suc o) ≡ Some i → ((j : ℕ) → o ≡ Some j → j < length ws) → i < suc (length ws)
    within true o i h rest = let e : 0 ≡ i = cc in omega arith
    within false None i h rest = absurd cc
    within false (Some j) i h rest = let e : suc j ≡ i = cc in omega (arith, rest j refl)

pub place_among-within : (v : Parts) (rs : List (Parts × Option (List ℕ))) (i : ℕ) → place_among v rs ≡ Some i → i < length rs
place_among-within v rs i h = omega (arith, place_of-within v (versions_of rs) i h, length-map rs (λ (r : Parts × Option (List ℕ)). r.0))

-- another content keeps the length
pub length-with_content : (rs : List (Parts × Option (List ℕ))) (i : ℕ) (content : Option (List ℕ)) → length (with_content rs i content) ≡ length rs
length-with_content [] i content = refl
length-with_content (r ∷ rs) zero content = refl
length-with_content (r ∷ rs) (suc i) content = ap suc (length-with_content rs i content)

-- the entries before, and one more
pub undone_all-push : (us : List Undo) (u : Undo) (k : PlainFacts) → undone_all (us ++ u ∷ []) k ≡ undone_all us (undone u k)
undone_all-push [] u k = refl
undone_all-push (v ∷ us) u k = ap (undone v) (undone_all-push us u k)

pub CanUndoAll-push : (us : List Undo) (u : Undo) (k : PlainFacts) → CanUndo u k → CanUndoAll us (undone u k) → CanUndoAll (us ++ u ∷ []) k
CanUndoAll-push [] u k can all = (can, tt)
CanUndoAll-push (v ∷ us) u k can all = (subst (CanUndo v) (sym (undone_all-push us u k)) all.0, CanUndoAll-push us u k can all.1)

pub CanUndoAll-pop : (us : List Undo) (u : Undo) (k : PlainFacts) → CanUndoAll (us ++ u ∷ []) k → CanUndo u k × CanUndoAll us (undone u k)
CanUndoAll-pop [] u k all = (all.0, tt)
CanUndoAll-pop (v ∷ us) u k all =
    let rest = CanUndoAll-pop us u k all.1 in
    (rest.0, (subst (CanUndo v) (undone_all-push us u k) all.0, rest.1))

-- the release at a version's place
pub none_found : (v : Parts) (rs : List (Parts × Option (List ℕ))) → place_among v rs ≡ None → find (λ r. same_version v r.0) rs ≡ None
none_found v [] h = refl
none_found v (r ∷ rs) h = by (same_version v r.0) (place_among v rs) h (none_found v rs)
  where
    by : (b : Bool) (o : Option ℕ) → cond b (Some 0) (option_map suc o) ≡ None → (o ≡ None → find (λ r. same_version v r.0) rs ≡ None) → cond b (Some r) (find (λ r. same_version v r.0) rs) ≡ None
    by true o h rest = absurd cc
    by false None h rest = rest refl
    by false (Some i) h rest = absurd cc

pub some_found : (v : Parts) (rs : List (Parts × Option (List ℕ))) (i : ℕ) (d : Parts × Option (List ℕ)) → place_among v rs ≡ Some i → find (λ r. same_version v r.0) rs ≡ Some (get_or rs i d)
some_found v [] i d h = absurd cc
some_found v (r ∷ rs) i d h = by (same_version v r.0) (place_among v rs) i h (λ j e. some_found v rs j d e)
  where
    by : (b : Bool) (o : Option ℕ) (i : ℕ) → cond b (Some 0) (option_map suc o) ≡ Some i → ((j : ℕ) → o ≡ Some j → find (λ r. same_version v r.0) rs ≡ Some (get_or rs j d)) → cond b (Some r) (find (λ r. same_version v r.0) rs) ≡ Some (get_or (r ∷ rs) i d)
    by true o zero h rest = refl
    by true o (suc i) h rest = absurd cc
    by false None i h rest = absurd cc
    by false (Some j) zero h rest = absurd cc
    by false (Some j) (suc i) h rest = let e : j ≡ i = cc in rest j refl ∙ ap (λ k. Some (get_or rs k d)) e
