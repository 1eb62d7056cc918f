-- The bytes of a character that is no escape.
use Rattle.std.proofs.Common.{◌≡◌, ℕ, ◌+◌, ◌/◌, ◌%◌, ◌<◌, ◌≤◌, List, [], ◌∷◌, ◌++◌, Bool, true, false, cond, ◌&&◌, ◌||◌, nat_lt, nat_le, eqb, inl, inr, refl, sym, ◌∙◌, arith, encode_utf8}
use Rattle.std.proofs.lemmas.Bool.{cases_lt, cases_eq, ne_eqb}
use Rattle.std.proofs.lemmas.Bool.Decides.{nat_tests}
use lib.Utf8.{encode}
use Rattle.yaml_scan.specs.Bytes.{is_control, is_control_byte}
use Rattle.yaml_text.specs.Texts.{is_escaped}

-- bytes above ASCII that begin no control character, whatever follows
abbrev pub AreQuiet : List ℕ → Type 0
AreQuiet [] = Unit {0}
AreQuiet (b ∷ bs) = (128 ≤ b) × ((rest : List ℕ) → is_control (b ∷ (bs ++ rest)) ≡ false) × AreQuiet bs

no_control : (b : ℕ) → 128 ≤ b → is_control_byte b ≡ false
no_control b high = grind (arith, nat_tests)

alone : (b : ℕ) → 128 ≤ b → eqb b 194 ≡ false → (xs : List ℕ) → is_control (b ∷ xs) ≡ false
alone b high other [] = no_control b high
alone b high other (d ∷ ds) = rw (no_control b high, other) refl

after_key : (b d : ℕ) (xs : List ℕ) → 128 ≤ b → 160 ≤ d → is_control (b ∷ d ∷ xs) ≡ false
after_key b d xs high above =
    let no : nat_lt d 160 ≡ false = grind (arith, nat_tests) in
    rw (no_control b high, no) (last (eqb b 194))
  where
    last : (x : Bool) → (x && false) ≡ false
    last true = refl
    last false = refl

-- a byte behind the first
following : (n : ℕ) → eqb (128 + n % 64) 194 ≡ false
following n = ne_eqb (128 + n % 64) 194 (λ e. omega arith)

-- U+0080 to 009F are written as escapes
above_controls : (c : ℕ) → 128 ≤ c → is_escaped c ≡ false → 160 ≤ c
above_controls c high plain = elim (cases_lt c 160) [
  | inl low ↦
      let yes : nat_le 127 c && nat_le c 159 ≡ true = grind (arith, nat_tests) in
      let e : true ≡ false = sym (rw yes (either (nat_lt c 32))) ∙ plain in
      absurd cc
  | inr h ↦ h
]
  where
    either : (x : Bool) → (((x || true) || eqb c 8232) || eqb c 8233) || eqb c 65279 ≡ true
    either true = refl
    either false = refl

two_bytes : (c : ℕ) → 160 ≤ c → c < 2048 → AreQuiet ((192 + c / 64) ∷ (128 + c % 64) ∷ [])
two_bytes c high less = (
  omega arith,
  (λ rest. elim (cases_eq (192 + c / 64) 194) [
    | inl is ↦ after_key (192 + c / 64) (128 + c % 64) rest (omega arith) (omega arith)
    | inr other ↦ alone (192 + c / 64) (omega arith) (ne_eqb (192 + c / 64) 194 other) ((128 + c % 64) ∷ rest)
  ]),
  (omega arith, (λ rest. alone (128 + c % 64) (omega arith) (following c) rest), tt),
)

three_bytes : (c : ℕ) → AreQuiet ((224 + c / 4096) ∷ (128 + (c / 64) % 64) ∷ (128 + c % 64) ∷ [])
three_bytes c = (
  omega arith,
  (λ rest. alone (224 + c / 4096) (omega arith) (ne_eqb (224 + c / 4096) 194 (λ e. omega arith)) ((128 + (c / 64) % 64) ∷ (128 + c % 64) ∷ rest)),
  (
    omega arith,
    (λ rest. alone (128 + (c / 64) % 64) (omega arith) (following (c / 64)) ((128 + c % 64) ∷ rest)),
    (omega arith, (λ rest. alone (128 + c % 64) (omega arith) (following c) rest), tt),
  ),
)

four_bytes : (c : ℕ) → AreQuiet ((240 + c / 262144) ∷ (128 + (c / 4096) % 64) ∷ (128 + (c / 64) % 64) ∷ (128 + c % 64) ∷ [])
four_bytes c = (
  omega arith,
  (λ rest. alone (240 + c / 262144) (omega arith) (ne_eqb (240 + c / 262144) 194 (λ e. omega arith)) ((128 + (c / 4096) % 64) ∷ (128 + (c / 64) % 64) ∷ (128 + c % 64) ∷ rest)),
  (
    omega arith,
    (λ rest. alone (128 + (c / 4096) % 64) (omega arith) (following (c / 4096)) ((128 + (c / 64) % 64) ∷ (128 + c % 64) ∷ rest)),
    (
      omega arith,
      (λ rest. alone (128 + (c / 64) % 64) (omega arith) (following (c / 64)) ((128 + c % 64) ∷ rest)),
      (omega arith, (λ rest. alone (128 + c % 64) (omega arith) (following c) rest), tt),
    ),
  ),
)

-- the bytes of a character above ASCII that is no escape
pub quiet_char : (c : ℕ) → 128 ≤ c → is_escaped c ≡ false → AreQuiet (encode_utf8 c)
unfolding encode
quiet_char c high plain =
    let above = above_controls c high plain in
    let no : nat_lt c 128 ≡ false = grind (arith, nat_tests) in
    rw no (wide (nat_lt c 2048) (nat_lt c 65536) refl)
  where
    wide : (x y : Bool) → nat_lt c 2048 ≡ x → AreQuiet (cond x ((192 + c / 64) ∷ (128 + c % 64) ∷ []) (cond y ((224 + c / 4096) ∷ (128 + (c / 64) % 64) ∷ (128 + c % 64) ∷ []) ((240 + c / 262144) ∷ (128 + (c / 4096) % 64) ∷ (128 + (c / 64) % 64) ∷ (128 + c % 64) ∷ [])))
    wide true y e = two_bytes c (above_controls c high plain) (grind (arith, nat_tests))
    wide false true e = three_bytes c
    wide false false e = four_bytes c
