-- Sets of what is ordered by a text, and the texts that they have.
use Rattle.std.proofs.Common.{◌≡◌, ℕ, Bool, true, false, not, cond, ◌||◌, Ordering, List, [], ◌∷◌, ◌++◌, refl, sym, ap, ◌∙◌}
use Rattle.std.specs.BTreeMap.{is_at}
use Rattle.std.specs.BTreeSet.{BTreeSet, contains, Updates}
use Rattle.std.specs.Cmp.Lexicographic.{slice_cmp}
use Rattle.std.specs.List.{list_any}
use Rattle.std.specs.Ordering.{nat_cmp}
use Rattle.std.specs.Str.{bytes_eq}
use Rattle.std.proofs.lemmas.Cmp.{eq_by_cmp_equiv, nat_list_cmp_total}
use Rattle.std.proofs.lemmas.List.Folds.{list_any-append}
use Rattle.std.proofs.lemmas.Map.Text.{is_eq-slice_cmp}

chosen : (a b c : Bool) → a ≡ b → cond a true c ≡ (c || (b || false))
chosen true true true e = refl
chosen true true false e = refl
chosen false false true e = refl
chosen false false false e = refl
chosen true false c e = absurd cc
chosen false true c e = absurd cc

module _ {K : Type 0} (text : K → List ℕ) where
  abbrev pub by_text : K → K → Ordering
  by_text a b = slice_cmp nat_cmp (text a) (text b)

  -- the set has what has one of these texts
  abbrev pub HasTexts : List (List ℕ) → BTreeSet K → Type 0
  HasTexts texts set = (k : K) → contains by_text set k ≡ list_any (bytes_eq (text k)) texts

  pub no_texts : (set : BTreeSet K) → set.keys ≡ [] → HasTexts [] set
  no_texts set none = λ k. ap (list_any (is_at (by_text k))) none

  pub more_texts : (texts : List (List ℕ)) (set new : BTreeSet K) (k : K) → HasTexts texts set → Updates by_text set new k true → HasTexts (texts ++ text k ∷ []) new
  more_texts texts set new k has updates = λ other.
      let same : is_at (by_text k) other ≡ bytes_eq (text other) (text k) = (eq_by_cmp_equiv nat_list_cmp_total).symm (text k) (text other) ∙ is_eq-slice_cmp (text other) (text k) in
      updates.0 other ∙ ap (cond (is_at (by_text k) other) true) (has other) ∙ chosen _ _ _ same ∙ sym (list_any-append (bytes_eq (text other)) texts (text k ∷ []))

  -- what was added has a text that none had, and what was not has one that was there
  pub was_there : (texts : List (List ℕ)) (set : BTreeSet K) (k : K) (added : Bool) → HasTexts texts set → added ≡ not (contains by_text set k) → added ≡ false → list_any (bytes_eq (text k)) texts ≡ true
  was_there texts set k added has is not_added = sym (has k) ∙ found (contains by_text set k) (sym is ∙ not_added)
    where
      found : (b : Bool) → not b ≡ false → b ≡ true
      found true e = refl
      found false e = absurd cc

  pub was_missing : (texts : List (List ℕ)) (set : BTreeSet K) (k : K) (added : Bool) → HasTexts texts set → added ≡ not (contains by_text set k) → added ≡ true → list_any (bytes_eq (text k)) texts ≡ false
  was_missing texts set k added has is was_added = sym (has k) ∙ missing (contains by_text set k) (sym is ∙ was_added)
    where
      missing : (b : Bool) → not b ≡ true → b ≡ false
      missing true e = absurd cc
      missing false e = refl
