-- The needs of one package more.
use Rattle.std.proofs.Common.{◌≡◌, ◌≢◌, ℕ, suc, ◌+◌, ◌≤◌, ◌<◌, Bool, true, false, List, [], ◌∷◌, ◌++◌, length, map, take, get_or, filter, cond, refl, ap, sym, subst, ◌∙◌, arith, append-nil}
use Rattle.std.proofs.Math.Numerals.{suc-eq-add-one}
use Rattle.std.proofs.lemmas.Bool.{eq-eqb, ne_eqb}
use Rattle.std.proofs.lemmas.List.{map-append}
use Rattle.std.proofs.lemmas.List.Elements.{filter_more}
use Rattle.warg_demo.specs.Needs.{is_of, needs_among, needs_of, with_package}

pub needs_more : (seed n : ℕ) → needs_among seed (n + 1) ≡ with_package (n + 1) (needs_among seed n)
needs_more seed n = subst (λ m. needs_among seed m ≡ with_package m (needs_among seed n)) (suc-eq-add-one n) refl

same : (n m : ℕ) → n ≤ m → m ≤ n → n ≡ m
same n m below above = omega (arith, below, above)

pub needs_end : (seed n m : ℕ) → n ≤ m → m ≤ n → needs_among seed n ≡ needs_among seed m
needs_end seed n m below above = ap (needs_among seed) (same n m below above)

module _ (user : ℕ) (pairs : List (ℕ × ℕ)) (i : ℕ) (d : ℕ × ℕ) (there : i < length pairs) where
  -- one pair more
  more_if : (b : Bool) → is_of user (get_or pairs i d) ≡ b → needs_of user (take (i + 1) pairs) ≡ needs_of user (take i pairs) ++ map (λ (pair : ℕ × ℕ). pair.1) (cond b (get_or pairs i d ∷ []) [])
  more_if b is =
      ap (map (λ (pair : ℕ × ℕ). pair.1)) (filter_more (is_of user) pairs i d there ∙ ap (λ c. filter (is_of user) (take i pairs) ++ cond c (get_or pairs i d ∷ []) []) is)
      ∙ map-append (λ (pair : ℕ × ℕ). pair.1) (filter (is_of user) (take i pairs)) (cond b (get_or pairs i d ∷ []) [])

  pub found : (get_or pairs i d).0 ≡ user → needs_of user (take (i + 1) pairs) ≡ needs_of user (take i pairs) ++ (get_or pairs i d).1 ∷ []
  found is = more_if true (eq-eqb (get_or pairs i d).0 user is)

  pub passed : ((get_or pairs i d).0 ≡ user → ⊥) → needs_of user (take (i + 1) pairs) ≡ needs_of user (take i pairs)
  passed is = more_if false (ne_eqb (get_or pairs i d).0 user is) ∙ append-nil (needs_of user (take i pairs))

  pub found_next : (old new : List ℕ) → (get_or pairs i d).0 ≡ user → old ≡ needs_of user (take i pairs) → new ≡ old ++ (get_or pairs i d).1 ∷ [] → new ≡ needs_of user (take (i + 1) pairs)
  found_next old new is before pushed = pushed ∙ ap (λ items. items ++ (get_or pairs i d).1 ∷ []) before ∙ sym (found is)
