-- Where a text is cut at its first `=`.
use Rattle.std.proofs.Common.{◌≡◌, ◌≢◌, ◌<◌, ◌++◌, ◌∷◌, [], List, ℕ, zero, suc, Option, Some, None, refl, sym, ◌∙◌, ap, subst, length, arith, get_or}
use Rattle.std.specs.Borrow.{Bor}
use Rattle.std.specs.Prelude.{MatchOption, codes}
use Rattle.std.specs.Str.Iter.{HasSubslice}
use Rattle.std.proofs.lemmas.Str.Pattern.{IsSplitOnceResult, split_parts, split_after}
use Rattle.warg_hint.specs.Hint.{IsHint}

-- a text has the byte at each of its places
has-at : (text : List ℕ) (i : ℕ) → i < length text → get_or text i 0 ≡ 61 → HasSubslice text (codes "=")
has-at [] i lt is = absurd (omega (arith, lt))
has-at (x ∷ text) zero lt is = ([], text, ap (λ (n : ℕ). n ∷ text) is)
has-at (x ∷ text) (suc i) lt is = let rest = has-at text i (omega (arith, lt)) is in (x ∷ rest.0, rest.1, ap (λ (l : List ℕ). x ∷ l) rest.2)

lacks-at : (text : List ℕ) → ¬ HasSubslice text (codes "=") → (i : ℕ) → i < length text → get_or text i 0 ≢ 61
lacks-at text lacks i lt is = lacks (has-at text i lt is)

place-of : (before after : List ℕ) (x : ℕ) → (length before < length (before ++ x ∷ after)) × (get_or (before ++ x ∷ after) (length before) 0 ≡ x)
place-of [] after x = (omega arith, refl)
place-of (y ∷ before) after x = let rest = place-of before after x in (omega (arith, rest.0), rest.1)

lacks-all : (text : List ℕ) → ((i : ℕ) → i < length text → get_or text i 0 ≢ 61) → ¬ HasSubslice text (codes "=")
lacks-all text lacks has =
    let place = place-of has.0 has.1 61 in
    lacks (length has.0) (subst (λ (t : List ℕ). length has.0 < length t) (sym has.2) place.0) (ap (λ (t : List ℕ). get_or t (length has.0) 0) has.2 ∙ place.1)

-- of a text that is not cut, no value is a hint
pub cut-none : (text : List ℕ) (r : Option (Bor (List ℕ) × Bor (List ℕ))) → IsSplitOnceResult 61 text r → r ≡ None → (namespace registry : List ℕ) → IsHint text namespace registry → ⊥
cut-none text r cases is namespace registry hint =
    subst (λ (o : Option (Bor (List ℕ) × Bor (List ℕ))). MatchOption o ⊥ (λ x. (x.0.now ≡ namespace) × (x.1.now ≡ registry))) is
    (split_after 61 text namespace registry r cases (omega arith) hint.parts (lacks-at namespace hint.first))

-- of one that is cut, the parts are the hint's
pub cut-some : (text : List ℕ) (r : Option (Bor (List ℕ) × Bor (List ℕ))) (x : Bor (List ℕ) × Bor (List ℕ)) → IsSplitOnceResult 61 text r → r ≡ Some x → (namespace registry : List ℕ) → IsHint text namespace registry
    → (x.0.now ≡ namespace) × (x.1.now ≡ registry)
cut-some text r x cases is namespace registry hint =
    subst (λ (o : Option (Bor (List ℕ) × Bor (List ℕ))). MatchOption o ⊥ (λ y. (y.0.now ≡ namespace) × (y.1.now ≡ registry))) is
    (split_after 61 text namespace registry r cases (omega arith) hint.parts (lacks-at namespace hint.first))

pub cut-parts : (text : List ℕ) (r : Option (Bor (List ℕ) × Bor (List ℕ))) (x : Bor (List ℕ) × Bor (List ℕ)) → IsSplitOnceResult 61 text r → r ≡ Some x
    → (text ≡ x.0.now ++ (codes "=" ++ x.1.now)) × ¬ HasSubslice x.0.now (codes "=")
cut-parts text r x cases is =
    let parts : (text ≡ x.0.now ++ 61 ∷ x.1.now) × ((i : ℕ) → i < length x.0.now → get_or x.0.now i 0 ≢ 61) =
    subst (λ (o : Option (Bor (List ℕ) × Bor (List ℕ))). MatchOption o ((i : ℕ) → i < length text → get_or text i 0 ≢ 61) (λ y. (text ≡ y.0.now ++ 61 ∷ y.1.now) × ((i : ℕ) → i < length y.0.now → get_or y.0.now i 0 ≢ 61))) is
    (split_parts 61 text r cases (omega arith)) in
    (parts.0, lacks-all x.0.now parts.1)
