-- Maps whose keys are numbers, of which each new one is above the others: their entries as lists in the order added.
use Rattle.std.proofs.Common.{◌≡◌, ◌∙◌, ap, sym, refl, arith, ℕ, suc, ◌<◌, Bool, true, false, cond, List, [], ◌∷◌, ◌++◌, map, Some}
use Rattle.std.specs.Prelude.{◌==◌, not, filter, find, option_map}
use Rattle.std.specs.BTreeMap.{insert_entry, is_at}
use Rattle.std.specs.Map.{lookup, keys_of, remove_entry}
use Rattle.std.specs.Cmp.{unsigned_ties, nat_cmp_is, nat_eq_equiv}
use Rattle.std.specs.List.{AllByRecursion}
use Rattle.std.specs.Ordering.{is_eq, nat_cmp, match_ordering}
use Rattle.std.specs.declared.cmp.Ordering.TheVariants.{Greater}
use Rattle.compose_graph.specs.Kept.{CountUp}
use Rattle.compose_graph.proofs.CountLaws.{apart, count_below}
use Rattle.compose_graph.proofs.ListLaws.{same_number}

module _ {X : Type 0} where
  -- each key is below a number
  abbrev pub AreBelow : ℕ → List (ℕ × X) → Type 0
  AreBelow k es = AllByRecursion (λ (e : ℕ × X). e.0 < k) es

  pub are_below : (k : ℕ) (es : List (ℕ × X)) → CountUp 0 (keys_of es) k → AreBelow k es
  are_below k es c = count_below (λ (e : ℕ × X). e.0) 0 k es c

  pub insert_last : (es : List (ℕ × X)) (k : ℕ) (v : X) → AreBelow k es → insert_entry nat_cmp es k v ≡ es ++ (k, v) ∷ []
  insert_last [] k v below = refl
  insert_last (e ∷ es) k v below =
      (λ i. match_ordering (sym (nat_cmp_is k e.0 Greater below.0) i) ((k, v) ∷ e ∷ es) ((e.0, v) ∷ es) (e ∷ insert_entry nat_cmp es k v))
      ∙ ap (λ (rest : List (ℕ × X)). e ∷ rest) (insert_last es k v below.1)

  none_equal : (q low next : ℕ) (es : List (ℕ × X)) → q < low → CountUp low (keys_of es) next → es ≡ filter (λ (e : ℕ × X). not (q == e.0)) es
  none_equal q low next [] lt c = refl
  none_equal q low next (e ∷ es) lt c =
      let h = c.0 in
      let differ : (q == e.0) ≡ false = apart q e.0 (omega (arith, lt, h)) in
      ap (λ (rest : List (ℕ × X)). e ∷ rest) (none_equal q (suc e.0) next es (omega (arith, lt, h)) c.1)
      ∙ (λ i. cond (not (sym differ i)) (e ∷ filter (λ (e : ℕ × X). not (q == e.0)) es) (filter (λ (e : ℕ × X). not (q == e.0)) es))

  pub removed : (q low next : ℕ) (es : List (ℕ × X)) → CountUp low (keys_of es) next → remove_entry (is_at (nat_cmp q)) es ≡ filter (λ (e : ℕ × X). not (q == e.0)) es
  removed q low next [] c = refl
  removed q low next (e ∷ es) c = one (q == e.0) refl (sym (unsigned_ties q e.0)) (removed q (suc e.0) next es c.1)
    where
      one : (b : Bool) → (q == e.0) ≡ b → is_eq (nat_cmp q e.0) ≡ (q == e.0) → remove_entry (is_at (nat_cmp q)) es ≡ filter (λ (e : ℕ × X). not (q == e.0)) es
          → remove_entry (is_at (nat_cmp q)) (e ∷ es) ≡ filter (λ (e : ℕ × X). not (q == e.0)) (e ∷ es)
      one true h t rest =
          let same = same_number q e.0 h in
          (λ i. cond ((t ∙ h) i) es (e ∷ remove_entry (is_at (nat_cmp q)) es))
          ∙ none_equal q (suc e.0) next es (omega (arith, same)) c.1
          ∙ (λ i. cond (not (sym h i)) (e ∷ filter (λ (e : ℕ × X). not (q == e.0)) es) (filter (λ (e : ℕ × X). not (q == e.0)) es))
      one false h t rest =
          (λ i. cond ((t ∙ h) i) es (e ∷ remove_entry (is_at (nat_cmp q)) es))
          ∙ ap (λ (rest : List (ℕ × X)). e ∷ rest) rest
          ∙ (λ i. cond (not (sym h i)) (e ∷ filter (λ (e : ℕ × X). not (q == e.0)) es) (filter (λ (e : ℕ × X). not (q == e.0)) es))

  -- the last entry is taken out again
  pub removed_last : (es : List (ℕ × X)) (k : ℕ) (v : X) → AreBelow k es → remove_entry (is_at (nat_cmp k)) (es ++ (k, v) ∷ []) ≡ es
  removed_last [] k v below = λ i. cond ((sym (unsigned_ties k k) ∙ nat_eq_equiv.refl k) i) [] ((k, v) ∷ [])
  removed_last (e ∷ es) k v below =
      (λ i. cond (is_eq (sym (nat_cmp_is k e.0 Greater below.0) i)) (es ++ (k, v) ∷ []) (e ∷ remove_entry (is_at (nat_cmp k)) (es ++ (k, v) ∷ [])))
      ∙ ap (λ (rest : List (ℕ × X)). e ∷ rest) (removed_last es k v below.1)

  -- what is found in the list of entries is what the map has
  pub find_entry : {E : Type 0} (f : ℕ × X → E) (p : E → Bool) (q : ℕ) (at : X → E) → ((e : ℕ × X) → p (f e) ≡ (q == e.0)) → ((v : X) → f (q, v) ≡ at v) → (es : List (ℕ × X)) → find p (map f es) ≡ option_map at (lookup (is_at (nat_cmp q)) es)
  find_entry {E = E} f p q at same here [] = refl
  find_entry {E = E} f p q at same here (e ∷ es) = one (q == e.0) refl (find_entry f p q at same here es)
    where
      one : (b : Bool) → (q == e.0) ≡ b → find p (map f es) ≡ option_map at (lookup (is_at (nat_cmp q)) es) → find p (map f (e ∷ es)) ≡ option_map at (lookup (is_at (nat_cmp q)) (e ∷ es))
      one true h rest =
          (λ i. cond ((same e ∙ h) i) (Some (f e)) (find p (map f es)))
          ∙ ap (λ (x : E). Some x) ((λ i. f (sym (same_number q e.0 h) i, e.1)) ∙ here e.1)
          ∙ (λ i. option_map at (cond ((sym h ∙ unsigned_ties q e.0) i) (Some e.1) (lookup (is_at (nat_cmp q)) es)))
      one false h rest =
          (λ i. cond ((same e ∙ h) i) (Some (f e)) (find p (map f es)))
          ∙ rest
          ∙ (λ i. option_map at (cond ((sym h ∙ unsigned_ties q e.0) i) (Some e.1) (lookup (is_at (nat_cmp q)) es)))
