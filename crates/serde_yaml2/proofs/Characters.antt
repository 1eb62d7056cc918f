-- Characters that stand as they are.
use Rattle.std.proofs.Common.{◌≡◌, ℕ, ◌<◌, [], ◌∷◌, Bool, true, false, ◌&&◌, nat_le, arith, refl, sym, ◌∙◌, inl, inr}
use Rattle.std.specs.Prelude.{encode_utf8}
use Rattle.std.specs.Char.{is_ascii_alphanumeric}
use Rattle.std.proofs.lemmas.Bool.{cases_lt, lt-leb}
use Rattle.std.proofs.lemmas.Str.{encode_ascii}

and_none : (b : Bool) → b && false ≡ false
and_none true = refl
and_none false = refl

letter_low : (c : ℕ) → is_ascii_alphanumeric c ≡ true → c < 128
letter_low c e = elim (cases_lt c 128) [
  | inl low ↦ low
  | inr high ↦
      let f : true ≡ false = sym e ∙ rw (lt-leb c 57 (omega arith), lt-leb c 90 (omega arith), lt-leb c 122 (omega arith), and_none (nat_le 48 c), and_none (nat_le 65 c), and_none (nat_le 97 c)) refl in
      absurd cc
]

-- a letter or digit of ASCII is one byte
pub letter_text : (c : ℕ) → is_ascii_alphanumeric c ≡ true → encode_utf8 c ≡ c ∷ []
letter_text c e = encode_ascii c (letter_low c e)
