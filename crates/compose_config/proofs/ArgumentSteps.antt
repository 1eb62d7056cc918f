-- Steps of the search for an argument that names no import.
use Rattle.std.proofs.Common.{◌≡◌, ℕ, Bool, true, false, ◌||◌, cond, List, [], ◌∷◌, ◌++◌, drop, map, slice_get, Some, refl, sym, ap, ◌∙◌, bytes_eq, ◌+◌}
use Rattle.std.specs.List.{list_any}
use Rattle.std.specs.Borrow.{Bor}
use Rattle.std.proofs.lemmas.List.Folds.{list_any-append}
use Rattle.std.proofs.lemmas.Slice.Eq.{bytes_eq-Decides}
use Rattle.indexmap.specs.IndexSet.{insert_key}
use Rattle.yaml_read.specs.Entries.{seen_entry}
use Rattle.compose_config.specs.Plan.{Argument}
use Rattle.compose_config.specs.Arguments.{is_among, is_in_set, stray}
use Rattle.compose_config.specs.MapLaws.{drop_at}

abbrev same_text : Bor (List ℕ) → Bor (List ℕ) → Bool
same_text a b = bytes_eq a.now b.now

or_other : (a b : Bool) → (b ≡ true → a ≡ true) → a ≡ (a || b)
or_other true b h = refl
or_other false true h = h refl
or_other false false h = refl

-- a set of names with one more
pub set_step : (ks : List (Bor (List ℕ))) (k : Bor (List ℕ)) (name : List ℕ) → is_in_set (insert_key same_text ks k) name ≡ (is_in_set ks name || bytes_eq name k.now)
set_step ks k name = by (list_any (same_text k) ks) refl
  where
    same : bytes_eq name k.now ≡ true → is_in_set ks name ≡ list_any (same_text k) ks
    same h = ap (is_in_set ks) ((bytes_eq-Decides name k.now).0 h)

    last : (b : Bool) → (b || false) ≡ b
    last true = refl
    last false = refl

    by : (b : Bool) → list_any (same_text k) ks ≡ b → is_in_set (cond b ks (ks ++ k ∷ [])) name ≡ (is_in_set ks name || bytes_eq name k.now)
    by true is = or_other (is_in_set ks name) (bytes_eq name k.now) (λ h. same h ∙ is)
    by false is = list_any-append (λ (n : Bor (List ℕ)). bytes_eq name n.now) ks (k ∷ []) ∙ ap (λ b. is_in_set ks name || b) (last (bytes_eq name k.now))

pub among_step : (names : List (List ℕ)) (n name : List ℕ) → is_among (names ++ n ∷ []) name ≡ (is_among names name || bytes_eq name n)
among_step names n name = list_any-append (λ m. bytes_eq name m) names (n ∷ []) ∙ ap (λ b. is_among names name || b) (last (bytes_eq name n))
  where
    last : (b : Bool) → (b || false) ≡ b
    last true = refl
    last false = refl

-- the search for an argument that names no import
module _ {V : Type 0} (f : V → Argument) (names : List (List ℕ)) where
  pub stray_here : (es : List (List ℕ × V)) (i : ℕ) (e : List ℕ × V) → slice_get es i ≡ Some e → is_among names e.0 ≡ false → Some e.0 ≡ stray (map (seen_entry f) (drop i es)) names
  unfolding stray
  stray_here es i e at is =
      sym (ap (λ l. stray (map (seen_entry f) l) names) (drop_at es i e at) ∙ ap (λ b. cond b (stray (map (seen_entry f) (drop (i + 1) es)) names) (Some e.0)) is)

  pub stray_next : (es : List (List ℕ × V)) (i : ℕ) (e : List ℕ × V) → slice_get es i ≡ Some e → is_among names e.0 ≡ true → stray (map (seen_entry f) (drop (i + 1) es)) names ≡ stray (map (seen_entry f) (drop i es)) names
  unfolding stray
  stray_next es i e at is =
      sym (ap (λ l. stray (map (seen_entry f) l) names) (drop_at es i e at) ∙ ap (λ b. cond b (stray (map (seen_entry f) (drop (i + 1) es)) names) (Some e.0)) is)
