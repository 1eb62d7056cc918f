-- A map that is copied entry by entry.
use Rattle.std.proofs.Common.{◌≡◌, Bool, false, List, [], ◌∷◌, ◌++◌, cond, refl, sym, ap, subst, append_assoc, ◌∙◌}
use Rattle.std.specs.Cmp.{IsEquivalence}
use Rattle.std.specs.List.{AllByRecursion, IsDistinct}
use Rattle.std.specs.Map.{keys_of}
use Rattle.std.proofs.lemmas.Map.Keys.{IsDistinct-head, IsDistinct-tail}
use Rattle.indexmap.specs.IndexMap.{insert_entry}

-- what is so of all keys is so of one in the midst
at_key : {K X : Type 0} (P : K → Type 0) (es rest : List (K × X)) (k : K) (v : X) → AllByRecursion P (keys_of (es ++ (k, v) ∷ rest)) → P k
at_key P [] rest k v h = h.0
at_key P (e ∷ es) rest k v h = at_key P es rest k v h.1

module _ {K X : Type 0} {eq : K → K → Bool} (laws : IsEquivalence eq) where
  -- a key behind others, of which none is equal to it, goes last
  pub insert_last : (es rest : List (K × X)) (k : K) (v : X) → IsDistinct eq (keys_of (es ++ (k, v) ∷ rest)) → insert_entry eq es k v ≡ es ++ (k, v) ∷ []
  insert_last [] rest k v h = refl
  insert_last (e ∷ es) rest k v h =
      ap (λ (b : Bool). cond b ((e.0, v) ∷ es) (e ∷ insert_entry eq es k v)) (laws.symm k e.0 ∙ at_key (λ x. eq e.0 x ≡ false) es rest k v (IsDistinct-head eq e.0 _ h))
      ∙ ap (λ l. e ∷ l) (insert_last es rest k v (IsDistinct-tail eq e.0 _ h))

  -- one entry more was copied
  pub copied_more : (es rest whole next more : List (K × X)) (k : K) (v : X) → (es ++ rest ≡ whole) × IsDistinct eq (keys_of whole) → rest ≡ (k, v) ∷ next → more ≡ insert_entry eq es k v → (more ++ next ≡ whole) × IsDistinct eq (keys_of whole)
  copied_more es rest whole next more k v held left is =
      let all : es ++ (k, v) ∷ next ≡ whole = sym (ap (λ l. es ++ l) left) ∙ held.0 in
      let last = insert_last es next k v (subst (λ w. IsDistinct eq (keys_of w)) (sym all) held.1) in
      (ap (λ l. l ++ next) (is ∙ last) ∙ append_assoc es ((k, v) ∷ []) next ∙ all, held.1)
