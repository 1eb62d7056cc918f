-- The writing of a number, a byte at a time.
use Rattle.std.proofs.Common.{◌≡◌, ℕ, zero, suc, ◌+◌, ◌-◌, ◌/◌, ◌%◌, ◌<◌, ◌≤◌, [], ◌∷◌, refl, arith}
use native.Mathlib.Numerals.{unary_clauses}
use Rattle.std.proofs.lemmas.Bool.{lt-ltb, le-ltb}
use Rattle.comp_format.specs.Numbers.{leb_text, signed_leb_text}

-- a number of one byte
pub leb_text_last : (most n : ℕ) → 0 < most → n < 128 → leb_text most n ≡ n ∷ []
unfolding leb_text
leb_text_last zero n some low = absurd (omega arith)
leb_text_last (suc most) n some low = rw (lt-ltb n 128 low) refl

-- the first of several bytes, and the others
pub leb_text_next : (most n : ℕ) → 0 < most → 128 ≤ n → leb_text most n ≡ (128 + n % 128) ∷ leb_text (most - 1) (n / 128)
unfolding leb_text
leb_text_next zero n some high = absurd (omega arith)
leb_text_next (suc most) n some high = rw (le-ltb n 128 high) (simp unary_clauses refl)

-- the same, where the last byte has a sign
pub signed_leb_text_last : (most n : ℕ) → 0 < most → n < 64 → signed_leb_text most n ≡ n ∷ []
unfolding signed_leb_text
signed_leb_text_last zero n some low = absurd (omega arith)
signed_leb_text_last (suc most) n some low = rw (lt-ltb n 64 low) refl

pub signed_leb_text_next : (most n : ℕ) → 0 < most → 64 ≤ n → signed_leb_text most n ≡ (128 + n % 128) ∷ signed_leb_text (most - 1) (n / 128)
unfolding signed_leb_text
signed_leb_text_next zero n some high = absurd (omega arith)
signed_leb_text_next (suc most) n some high = rw (le-ltb n 64 high) (simp unary_clauses refl)
