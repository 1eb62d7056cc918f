-- The places that a range needs from those of its parts, one level at a time.
use Rattle.std.proofs.Common.{◌≡◌, ℕ, suc, ◌+◌, ◌-◌, ◌*◌, ◌^◌, ◌<◌, ◌≤◌, ltb, eqb, List, [], ◌∷◌, ◌++◌, length, get_or, take, append_assoc, append-nil, sym, ap, subst, ◌∙◌, arith}
use Rattle.std.specs.List.{flat_map}
use Rattle.std.proofs.Math.Nat.{pow-suc}
use Rattle.std.proofs.lemmas.List.{flat_map_more, take_more}
use Rattle.std.proofs.lemmas.Bool.{cond-true, cond-false, lt-ltb, le-ltb, eq-eqb, ne_eqb}
use Rattle.warg_proof.specs.LogTree.{Range, ranges_beside, ranges_joining}
use Rattle.warg_proof.specs.TrueProofs.{needed, needed_within}

abbrev Places : Type 0
Places = List (ℕ × ℕ)

-- the parts of a split have places within 64 bits
pub place_fits : (level place : ℕ) → 0 < level → level ≤ 64 → place < 2 ^ (64 - level) → 2 * place + 1 < 2 ^ (64 - (level - 1))
place_fits level place above within fits =
    let same : 64 - (level - 1) ≡ suc (64 - level) = omega arith in
    subst (λ (n : ℕ). 2 * place + 1 < 2 ^ n) (sym same) (omega (arith, pow-suc 2 (64 - level)))

-- ---- the nodes of a range

pub needed-less : (level place count : ℕ) → count ≤ 2 ^ level → needed_within (suc level) place count ≡ needed_within level (2 * place) count
unfolding needed_within
needed-less level place count le = cond-false (ltb (2 ^ level) count) _ _ (le-ltb _ _ le)

pub needed-whole : (level place count : ℕ) → 2 ^ level < count → count ≡ 2 ^ suc level → needed_within (suc level) place count ≡ (suc level, place) ∷ []
unfolding needed_within
needed-whole level place count lt whole = cond-true (ltb (2 ^ level) count) _ _ (lt-ltb _ _ lt) ∙ cond-true (eqb count (2 ^ suc level)) _ _ (eq-eqb _ _ whole)

pub needed-split : (level place count : ℕ) → 2 ^ level < count → (count ≡ 2 ^ suc level → ⊥)
    → needed_within (suc level) place count ≡ needed_within level (2 * place) (2 ^ level) ++ needed_within level (2 * place + 1) (count - 2 ^ level)
unfolding needed_within
needed-split level place count lt other = cond-true (ltb (2 ^ level) count) _ _ (lt-ltb _ _ lt) ∙ cond-false (eqb count (2 ^ suc level)) _ _ (ne_eqb _ _ other)

up : (level : ℕ) → 0 < level → level ≡ suc (level - 1)
up level above = omega arith

-- the same where half of a level is given
pub needed_none : (out : Places) (level place count : ℕ) → level ≡ 0 → out ++ (level, place) ∷ [] ≡ out ++ needed_within level place count
unfolding needed_within
needed_none out level place count e = ap (λ (l : ℕ). out ++ (l, place) ∷ []) e ∙ ap (λ (l : ℕ). out ++ needed_within l place count) (sym e)

pub needed_less : (out : Places) (level half place count : ℕ) → 0 < level → half ≡ 2 ^ (level - 1) → count ≤ half
    → out ++ needed_within (level - 1) (2 * place) count ≡ out ++ needed_within level place count
needed_less out level half place count above is le =
    let few : count ≤ 2 ^ (level - 1) = subst (λ (n : ℕ). count ≤ n) is le in
    ap (λ (xs : Places). out ++ xs) (sym (ap (λ (l : ℕ). needed_within l place count) (up level above) ∙ needed-less (level - 1) place count few))

pub needed_whole : (out : Places) (level half place count : ℕ) → 0 < level → half ≡ 2 ^ (level - 1) → half < count → count - half ≡ half
    → out ++ (level, place) ∷ [] ≡ out ++ needed_within level place count
needed_whole out level half place count above is lt whole =
    let more : 2 ^ (level - 1) < count = subst (λ (n : ℕ). n < count) is lt in
    let all : count ≡ 2 ^ suc (level - 1) = omega (arith, is, pow-suc 2 (level - 1)) in
    let e = up level above in
    ap (λ (l : ℕ). out ++ (l, place) ∷ []) e
    ∙ ap (λ (xs : Places). out ++ xs) (sym (ap (λ (l : ℕ). needed_within l place count) e ∙ needed-whole (level - 1) place count more all))

pub needed_split : (out : Places) (level half place count : ℕ) → 0 < level → half ≡ 2 ^ (level - 1) → half < count → (count - half ≡ half → ⊥)
    → (out ++ needed_within (level - 1) (2 * place) half) ++ needed_within (level - 1) (2 * place + 1) (count - half) ≡ out ++ needed_within level place count
needed_split out level half place count above is lt part =
    let more : 2 ^ (level - 1) < count = subst (λ (n : ℕ). n < count) is lt in
    let other : count ≡ 2 ^ suc (level - 1) → ⊥ = λ same. part (omega (arith, is, same, pow-suc 2 (level - 1))) in
    append_assoc out (needed_within (level - 1) (2 * place) half) (needed_within (level - 1) (2 * place + 1) (count - half))
    ∙ ap (λ (n : ℕ). out ++ (needed_within (level - 1) (2 * place) n ++ needed_within (level - 1) (2 * place + 1) (count - n))) is
    ∙ ap (λ (xs : Places). out ++ xs) (sym (ap (λ (l : ℕ). needed_within l place count) (up level above) ∙ needed-split (level - 1) place count more other))

-- ---- the nodes that prove an entry

abbrev pub beside : ℕ → ℕ → ℕ → ℕ → Places
beside level place count index = flat_map needed (ranges_beside level place count index)

pub beside-less : (level place count index : ℕ) → count ≤ 2 ^ level → beside (suc level) place count index ≡ beside level (2 * place) count index
unfolding ranges_beside
beside-less level place count index le = ap (λ (rs : List Range). flat_map needed rs) (cond-false (ltb (2 ^ level) count) _ _ (le-ltb _ _ le))

pub beside-left : (level place count index : ℕ) → 2 ^ level < count → index < 2 ^ level
    → beside (suc level) place count index ≡ needed_within level (2 * place + 1) (count - 2 ^ level) ++ beside level (2 * place) (2 ^ level) index
unfolding ranges_beside
beside-left level place count index lt here =
    ap (λ (rs : List Range). flat_map needed rs) (cond-true (ltb (2 ^ level) count) _ _ (lt-ltb _ _ lt) ∙ cond-true (ltb index (2 ^ level)) _ _ (lt-ltb _ _ here))

pub beside-right : (level place count index : ℕ) → 2 ^ level < count → 2 ^ level ≤ index
    → beside (suc level) place count index ≡ needed_within level (2 * place) (2 ^ level) ++ beside level (2 * place + 1) (count - 2 ^ level) (index - 2 ^ level)
unfolding ranges_beside
beside-right level place count index lt there =
    ap (λ (rs : List Range). flat_map needed rs) (cond-true (ltb (2 ^ level) count) _ _ (lt-ltb _ _ lt) ∙ cond-false (ltb index (2 ^ level)) _ _ (le-ltb _ _ there))

pub beside_none : (out : Places) (level place count index : ℕ) → level ≡ 0 → out ≡ out ++ beside level place count index
unfolding ranges_beside
beside_none out level place count index e = sym (ap (λ (l : ℕ). out ++ beside l place count index) e ∙ append-nil out)

pub beside_less : (out : Places) (level half place count index : ℕ) → 0 < level → half ≡ 2 ^ (level - 1) → count ≤ half
    → out ++ beside (level - 1) (2 * place) count index ≡ out ++ beside level place count index
beside_less out level half place count index above is le =
    let few : count ≤ 2 ^ (level - 1) = subst (λ (n : ℕ). count ≤ n) is le in
    ap (λ (xs : Places). out ++ xs) (sym (ap (λ (l : ℕ). beside l place count index) (up level above) ∙ beside-less (level - 1) place count index few))

pub beside_left : (out : Places) (level half place count index : ℕ) → 0 < level → half ≡ 2 ^ (level - 1) → half < count → index < half
    → (out ++ needed_within (level - 1) (2 * place + 1) (count - half)) ++ beside (level - 1) (2 * place) half index ≡ out ++ beside level place count index
beside_left out level half place count index above is lt here =
    let more : 2 ^ (level - 1) < count = subst (λ (n : ℕ). n < count) is lt in
    let low : index < 2 ^ (level - 1) = subst (λ (n : ℕ). index < n) is here in
    append_assoc out (needed_within (level - 1) (2 * place + 1) (count - half)) (beside (level - 1) (2 * place) half index)
    ∙ ap (λ (n : ℕ). out ++ (needed_within (level - 1) (2 * place + 1) (count - n) ++ beside (level - 1) (2 * place) n index)) is
    ∙ ap (λ (xs : Places). out ++ xs) (sym (ap (λ (l : ℕ). beside l place count index) (up level above) ∙ beside-left (level - 1) place count index more low))

pub beside_right : (out : Places) (level half place count index : ℕ) → 0 < level → half ≡ 2 ^ (level - 1) → half < count → half ≤ index
    → (out ++ needed_within (level - 1) (2 * place) half) ++ beside (level - 1) (2 * place + 1) (count - half) (index - half) ≡ out ++ beside level place count index
beside_right out level half place count index above is lt there =
    let more : 2 ^ (level - 1) < count = subst (λ (n : ℕ). n < count) is lt in
    let high : 2 ^ (level - 1) ≤ index = subst (λ (n : ℕ). n ≤ index) is there in
    append_assoc out (needed_within (level - 1) (2 * place) half) (beside (level - 1) (2 * place + 1) (count - half) (index - half))
    ∙ ap (λ (n : ℕ). out ++ (needed_within (level - 1) (2 * place) n ++ beside (level - 1) (2 * place + 1) (count - n) (index - n))) is
    ∙ ap (λ (xs : Places). out ++ xs) (sym (ap (λ (l : ℕ). beside l place count index) (up level above) ∙ beside-right (level - 1) place count index more high))

-- ---- the nodes that join two lengths

abbrev pub joining : ℕ → ℕ → ℕ → ℕ → Places
joining level place old new = flat_map needed (ranges_joining level place old new)

pub joining-less : (level place old new : ℕ) → new ≤ 2 ^ level → joining (suc level) place old new ≡ joining level (2 * place) old new
unfolding ranges_joining
joining-less level place old new le = ap (λ (rs : List Range). flat_map needed rs) (cond-false (ltb (2 ^ level) new) _ _ (le-ltb _ _ le))

pub joining-whole : (level place old new : ℕ) → 2 ^ level < new → old ≡ new → joining (suc level) place old new ≡ needed_within (suc level) place new ++ []
unfolding ranges_joining
joining-whole level place old new lt same =
    ap (λ (rs : List Range). flat_map needed rs) (cond-true (ltb (2 ^ level) new) _ _ (lt-ltb _ _ lt) ∙ cond-true (eqb old new) _ _ (eq-eqb _ _ same))

pub joining-right : (level place old new : ℕ) → 2 ^ level < new → (old ≡ new → ⊥) → 2 ^ level < old
    → joining (suc level) place old new ≡ needed_within level (2 * place) (2 ^ level) ++ joining level (2 * place + 1) (old - 2 ^ level) (new - 2 ^ level)
unfolding ranges_joining
joining-right level place old new lt other past =
    ap (λ (rs : List Range). flat_map needed rs)
    (cond-true (ltb (2 ^ level) new) _ _ (lt-ltb _ _ lt) ∙ cond-false (eqb old new) _ _ (ne_eqb _ _ other) ∙ cond-true (ltb (2 ^ level) old) _ _ (lt-ltb _ _ past))

pub joining-left : (level place old new : ℕ) → 2 ^ level < new → (old ≡ new → ⊥) → old ≤ 2 ^ level
    → joining (suc level) place old new ≡ needed_within level (2 * place + 1) (new - 2 ^ level) ++ joining level (2 * place) old (2 ^ level)
unfolding ranges_joining
joining-left level place old new lt other upto =
    ap (λ (rs : List Range). flat_map needed rs)
    (cond-true (ltb (2 ^ level) new) _ _ (lt-ltb _ _ lt) ∙ cond-false (eqb old new) _ _ (ne_eqb _ _ other) ∙ cond-false (ltb (2 ^ level) old) _ _ (le-ltb _ _ upto))

pub joining_none : (out : Places) (level place old new : ℕ) → level ≡ 0 → out ++ needed_within level place new ≡ out ++ joining level place old new
unfolding ranges_joining
joining_none out level place old new e =
    ap (λ (l : ℕ). out ++ needed_within l place new) e
    ∙ ap (λ (xs : Places). out ++ xs) (sym (append-nil (needed_within 0 place new)))
    ∙ ap (λ (l : ℕ). out ++ joining l place old new) (sym e)

pub joining_less : (out : Places) (level half place old new : ℕ) → 0 < level → half ≡ 2 ^ (level - 1) → new ≤ half
    → out ++ joining (level - 1) (2 * place) old new ≡ out ++ joining level place old new
joining_less out level half place old new above is le =
    let few : new ≤ 2 ^ (level - 1) = subst (λ (n : ℕ). new ≤ n) is le in
    ap (λ (xs : Places). out ++ xs) (sym (ap (λ (l : ℕ). joining l place old new) (up level above) ∙ joining-less (level - 1) place old new few))

pub joining_whole : (out : Places) (level half place old new : ℕ) → 0 < level → half ≡ 2 ^ (level - 1) → half < new → old ≡ new
    → out ++ needed_within level place new ≡ out ++ joining level place old new
joining_whole out level half place old new above is lt same =
    let more : 2 ^ (level - 1) < new = subst (λ (n : ℕ). n < new) is lt in
    let e = up level above in
    ap (λ (l : ℕ). out ++ needed_within l place new) e
    ∙ ap (λ (xs : Places). out ++ xs) (sym (ap (λ (l : ℕ). joining l place old new) e ∙ joining-whole (level - 1) place old new more same ∙ append-nil (needed_within (suc (level - 1)) place new)))

pub joining_right : (out : Places) (level half place old new : ℕ) → 0 < level → half ≡ 2 ^ (level - 1) → half < new → (old ≡ new → ⊥) → half < old
    → (out ++ needed_within (level - 1) (2 * place) half) ++ joining (level - 1) (2 * place + 1) (old - half) (new - half) ≡ out ++ joining level place old new
joining_right out level half place old new above is lt other past =
    let more : 2 ^ (level - 1) < new = subst (λ (n : ℕ). n < new) is lt in
    let high : 2 ^ (level - 1) < old = subst (λ (n : ℕ). n < old) is past in
    append_assoc out (needed_within (level - 1) (2 * place) half) (joining (level - 1) (2 * place + 1) (old - half) (new - half))
    ∙ ap (λ (n : ℕ). out ++ (needed_within (level - 1) (2 * place) n ++ joining (level - 1) (2 * place + 1) (old - n) (new - n))) is
    ∙ ap (λ (xs : Places). out ++ xs) (sym (ap (λ (l : ℕ). joining l place old new) (up level above) ∙ joining-right (level - 1) place old new more other high))

pub joining_left : (out : Places) (level half place old new : ℕ) → 0 < level → half ≡ 2 ^ (level - 1) → half < new → (old ≡ new → ⊥) → old ≤ half
    → (out ++ needed_within (level - 1) (2 * place + 1) (new - half)) ++ joining (level - 1) (2 * place) old half ≡ out ++ joining level place old new
joining_left out level half place old new above is lt other upto =
    let more : 2 ^ (level - 1) < new = subst (λ (n : ℕ). n < new) is lt in
    let low : old ≤ 2 ^ (level - 1) = subst (λ (n : ℕ). old ≤ n) is upto in
    append_assoc out (needed_within (level - 1) (2 * place + 1) (new - half)) (joining (level - 1) (2 * place) old half)
    ∙ ap (λ (n : ℕ). out ++ (needed_within (level - 1) (2 * place + 1) (new - n) ++ joining (level - 1) (2 * place) old n)) is
    ∙ ap (λ (xs : Places). out ++ xs) (sym (ap (λ (l : ℕ). joining l place old new) (up level above) ∙ joining-left (level - 1) place old new more other low))

-- ---- lists

pub flat_map-take : {A B : Type 0} (f : A → List B) (xs : List A) (i : ℕ) (d : A) → i < length xs → flat_map f (take i xs) ++ f (get_or xs i d) ≡ flat_map f (take (i + 1) xs)
flat_map-take f xs i d lt = flat_map_more f [] (take i xs) (get_or xs i d) ∙ ap (flat_map f) (sym (take_more xs i d lt))
