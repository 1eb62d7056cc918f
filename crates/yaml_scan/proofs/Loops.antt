-- One more byte, or line, of each scan.
use Rattle.std.proofs.Common.{◌≡◌, ℕ, zero, suc, ◌+◌, ◌-◌, ◌<◌, ◌≤◌, List, [], ◌∷◌, length, take, drop, get_or, Bool, true, false, not, cond, ◌&&◌, eqb, refl, sym, ap, ◌∙◌, add-one, drop-cons, arith}
use Rattle.std.proofs.lemmas.List.{drop_all, take_rest}
use Rattle.std.proofs.lemmas.Bool.{ne_eqb}
use Rattle.yaml_scan.specs.Bytes.{is_white, is_control, is_clean}
use Rattle.yaml_scan.specs.Lines.{lines_of, lengthened, without_return}
use Rattle.yaml_scan.specs.Plain.{with_byte, ends_plain, plain_len}

pub is_clean-step : (xs : List ℕ) (i : ℕ) → i < length xs → is_clean (drop i xs) ≡ not (is_control (drop i xs)) && is_clean (drop (i + 1) xs)
is_clean-step xs i lt = rw (add-one, drop-cons xs i 0) refl

pub is_clean-end : (xs : List ℕ) (i : ℕ) → length xs ≤ i → is_clean (drop i xs) ≡ true
is_clean-end xs i le = rw drop_all refl

-- the length of a scalar with bytes in front, where its last byte before here that is not white is the `len`th
abbrev pub whole_len : ℕ → ℕ → ℕ → ℕ
whole_len len at zero = len
whole_len len at (suc more) = at + suc more

whole_len-step : (c len at more : ℕ) → whole_len len at (with_byte c more) ≡ whole_len (cond (is_white c) len (suc at)) (suc at) more
whole_len-step c len at zero = either (is_white c)
  where
    either : (white : Bool) → whole_len len at (cond white 0 1) ≡ cond white len (suc at)
    either true = refl
    either false = let e : at + 1 ≡ suc at = omega arith in e
whole_len-step c len at (suc more) = let e : at + suc (suc more) ≡ suc at + suc more = omega arith in e

pub plain_len-step : (flow white : Bool) (xs : List ℕ) (i len : ℕ) → i < length xs → ends_plain flow white (drop i xs) ≡ false
    → whole_len len i (plain_len flow white (drop i xs)) ≡ whole_len (cond (is_white (get_or xs i 0)) len (i + 1)) (i + 1) (plain_len flow (is_white (get_or xs i 0)) (drop (i + 1) xs))
plain_len-step flow white xs i len lt more =
    let cell = drop-cons xs i 0 lt in
    let continues : ends_plain flow white (get_or xs i 0 ∷ drop (suc i) xs) ≡ false = sym (ap (ends_plain flow white) cell) ∙ more in
    rw (add-one i, cell, continues) (whole_len-step (get_or xs i 0) len i (plain_len flow (is_white (get_or xs i 0)) (drop (suc i) xs)))

pub plain_len-end : (flow white : Bool) (xs : List ℕ) (i : ℕ) → length xs ≤ i → plain_len flow white (drop i xs) ≡ 0
plain_len-end flow white xs i le = rw drop_all refl

pub plain_len-ended : (flow white : Bool) (xs : List ℕ) → ends_plain flow white xs ≡ true → plain_len flow white xs ≡ 0
plain_len-ended flow white [] e = refl
plain_len-ended flow white (c ∷ cs) e = rw e refl

returned : (b : Bool) (c : ℕ) (lines : List (List ℕ)) → cond (b && true) ([] ∷ lines) ((c ∷ []) ∷ lines) ≡ cond b [] (c ∷ []) ∷ lines
returned true c lines = refl
returned false c lines = refl

no_return : (b : Bool) (x y : List (List ℕ)) → cond (b && false) x y ≡ y
no_return true x y = refl
no_return false x y = refl

-- a text is cut at its first line feed
pub lines_cut : (text : List ℕ) (at : ℕ) → at < length text → eqb (get_or text at 0) 10 ≡ true → ((k : ℕ) → k < at → eqb (get_or text k 0) 10 ≡ false)
    → lines_of text ≡ without_return (take at text) ∷ lines_of (drop (suc at) text)
lines_cut [] at lt is before = absurd (omega arith)
lines_cut (c ∷ cs) zero lt is before = rw is refl
lines_cut (c ∷ []) (suc at) lt is before = absurd (omega arith)
lines_cut (c ∷ d ∷ ds) (suc zero) lt is before =
    let other : eqb c 10 ≡ false = before 0 (omega arith) in
    let here : eqb d 10 ≡ true = is in
    rw (other, here) (returned (eqb c 13) c (lines_of ds))
lines_cut (c ∷ d ∷ ds) (suc (suc at)) lt is before =
    let other : eqb c 10 ≡ false = before 0 (omega arith) in
    let next : eqb d 10 ≡ false = before 1 (omega arith) in
    let more : lines_of (d ∷ ds) ≡ without_return (d ∷ take at ds) ∷ lines_of (drop (suc at) ds) =
    lines_cut (d ∷ ds) (suc at) (omega arith) is (λ k lt. before (suc k) (omega arith)) in
    rw other (ap (λ (b : Bool). cond (eqb c 13 && b) (lines_of (d ∷ ds)) (lengthened c (lines_of (d ∷ ds)))) next ∙ no_return (eqb c 13) (lines_of (d ∷ ds)) (lengthened c (lines_of (d ∷ ds))) ∙ ap (lengthened c) more)

-- the last line has no line feed
pub lines_last : (text : List ℕ) → ((k : ℕ) → k < length text → eqb (get_or text k 0) 10 ≡ false) → lines_of text ≡ text ∷ []
lines_last [] none = refl
lines_last (c ∷ []) none =
    let other : eqb c 10 ≡ false = none 0 (omega arith) in
    rw other (no_return (eqb c 13) ([] ∷ []) ((c ∷ []) ∷ []))
lines_last (c ∷ d ∷ ds) none =
    let other : eqb c 10 ≡ false = none 0 (omega arith) in
    let next : eqb d 10 ≡ false = none 1 (omega arith) in
    let more : lines_of (d ∷ ds) ≡ (d ∷ ds) ∷ [] = lines_last (d ∷ ds) (λ k lt. none (suc k) (omega arith)) in
    rw other (ap (λ (b : Bool). cond (eqb c 13 && b) (lines_of (d ∷ ds)) (lengthened c (lines_of (d ∷ ds)))) next ∙ no_return (eqb c 13) (lines_of (d ∷ ds)) (lengthened c (lines_of (d ∷ ds))) ∙ ap (lengthened c) more)

last_of : (n : ℕ) → suc (suc n) - 1 ≡ suc (suc n - 1)
last_of n = omega arith

-- the carriage return at a line's end
pub without_return-yes : (xs : List ℕ) → get_or xs (length xs - 1) 0 ≡ 13 → without_return xs ≡ take (length xs - 1) xs
without_return-yes [] e = refl
without_return-yes (c ∷ []) e = let is : c ≡ 13 = e in rw is refl
without_return-yes (c ∷ d ∷ ds) e =
    let k = last_of (length ds) in
    rw k (ap (λ (xs : List ℕ). c ∷ xs) (without_return-yes (d ∷ ds) (sym (ap (λ (n : ℕ). get_or (c ∷ d ∷ ds) n 0) k) ∙ e)))

pub without_return-no : (xs : List ℕ) → (get_or xs (length xs - 1) 0 ≡ 13 → ⊥) → without_return xs ≡ xs
without_return-no [] e = refl
without_return-no (c ∷ []) e = let is : eqb c 13 ≡ false = ne_eqb c 13 e in rw is refl
without_return-no (c ∷ d ∷ ds) e =
    let k = last_of (length ds) in
    ap (λ (xs : List ℕ). c ∷ xs) (without_return-no (d ∷ ds) (λ is. e (ap (λ (n : ℕ). get_or (c ∷ d ∷ ds) n 0) k ∙ is)))

pub not_so : (b : Bool) → (b ≡ true → ⊥) → b ≡ false
not_so true h = absurd (h refl)
not_so false h = refl

pub ruleset clean_lines = (take_rest, is_clean-step, is_clean-end)

pub ruleset plain_lens = (take_rest, plain_len-step, plain_len-end, plain_len-ended)

pub ruleset without_returns = (without_return-yes, without_return-no)
