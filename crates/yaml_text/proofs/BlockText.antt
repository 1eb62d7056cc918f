-- A block is written character by character, where each line feed begins the next line.
use Rattle.std.proofs.Common.{◌≡◌, ℕ, ◌≤◌, List, [], ◌∷◌, ◌++◌, Bool, true, false, not, cond, ◌&&◌, ◌||◌, eqb, flat_map, IsUtf8, inl, inr, refl, sym, ap, ◌∙◌, append_assoc, arith}
use Rattle.std.specs.List.{list_any}
use Rattle.std.specs.Str.{chars}
use Rattle.std.specs.Prelude.{encode_utf8}
use Rattle.std.proofs.lemmas.Bool.{cases_Bool, cases_lt, eqb-true, ne_eqb}
use Rattle.std.proofs.lemmas.Str.{encodes-chars, encode_ascii}
use lib.Utf8.{encodes}
use Rattle.yaml_scan.specs.Lines.{lines_of, lengthened}
use Rattle.yaml_text.specs.Texts.{is_escaped, has_other_escape, block_indent, block_char, block}
use Rattle.yaml_text.proofs.Characters.{AreQuiet, quiet_char}
use Rattle.yaml_text.proofs.Lines.{HasLine, lines_there, is_inline_byte, lines_byte}

-- the lines with a break in front of each, and the same without that of the first
abbrev pub parted : List ℕ → List (List ℕ) → List ℕ
parted break lines = flat_map (λ line. break ++ line) lines

abbrev pub joined : List ℕ → List (List ℕ) → List ℕ
joined break [] = []
joined break (line ∷ lines) = line ++ parted break lines

joined-longer : (break : List ℕ) (c : ℕ) (lines : List (List ℕ)) → joined break (lengthened c lines) ≡ c ∷ joined break lines
joined-longer break c [] = refl
joined-longer break c (line ∷ lines) = refl

pub parted-joined : (break : List ℕ) (lines : List (List ℕ)) → HasLine lines → parted break lines ≡ break ++ joined break lines
parted-joined break [] h = absurd h
parted-joined break (line ∷ lines) h = append_assoc break line (parted break lines)

pub quiet_inline : (b : ℕ) → 128 ≤ b → is_inline_byte b ≡ true
quiet_inline b high = rw (ne_eqb b 10 (λ e. omega arith), ne_eqb b 13 (λ e. omega arith)) refl

line_bytes : (break bs rest : List ℕ) → AreQuiet bs → joined break (lines_of (bs ++ rest)) ≡ bs ++ joined break (lines_of rest)
line_bytes break [] rest quiet = refl
line_bytes break (b ∷ bs) rest quiet =
    ap (joined break) (lines_byte b (bs ++ rest) (quiet_inline b quiet.0)) ∙ joined-longer break b (lines_of (bs ++ rest)) ∙ ap (λ (xs : List ℕ). b ∷ xs) (line_bytes break bs rest quiet.2)

abbrev pub is_other : ℕ → Bool
is_other c = is_escaped c && not (eqb c 10)

pub not_other : (e f : Bool) → e && not f ≡ false → f ≡ false → e ≡ false
not_other true f h other = let e : true ≡ false = sym (rw other refl) ∙ h in absurd cc
not_other false f h other = refl

pub no_return : (c : ℕ) → is_escaped c ≡ false → eqb c 13 ≡ false
no_return c plain = elim (cases_Bool (eqb c 13)) [
  | inl is ↦ let e : true ≡ false = sym (ap is_escaped (eqb-true c 13 is)) ∙ plain in absurd cc
  | inr other ↦ other
]

-- a character of a block that is no line feed
char_bytes : (break : List ℕ) (c : ℕ) (rest : List ℕ) → is_escaped c ≡ false → eqb c 10 ≡ false → joined break (lines_of (encode_utf8 c ++ rest)) ≡ encode_utf8 c ++ joined break (lines_of rest)
char_bytes break c rest plain other = elim (cases_lt c 128) [
  | inl low ↦ rw (encode_ascii c low) (ap (joined break) (lines_byte c rest (rw (other, no_return c plain) refl)) ∙ joined-longer break c (lines_of rest))
  | inr high ↦ line_bytes break (encode_utf8 c) rest (quiet_char c high plain)
]

pub or_parts : (a b : Bool) → a || b ≡ false → (a ≡ false) × (b ≡ false)
or_parts true b e = absurd cc
or_parts false b e = (refl, e)

abbrev pub parted_char : List ℕ → ℕ → List ℕ
parted_char break c = cond (eqb c 10) break (encode_utf8 c)

pub joined_chars : (break cs : List ℕ) → list_any is_other cs ≡ false → joined break (lines_of (encodes cs)) ≡ flat_map (parted_char break) cs
joined_chars break [] none = refl
joined_chars break (c ∷ cs) none =
    let p = or_parts (is_other c) (list_any is_other cs) none in
    elim (cases_Bool (eqb c 10)) [
      | inl is ↦
          rw (eqb-true c 10 is, encode_ascii 10 (omega arith))
          (parted-joined break (lines_of (encodes cs)) (lines_there (encodes cs)) ∙ ap (λ (xs : List ℕ). break ++ xs) (joined_chars break cs p.1))
      | inr other ↦
          char_bytes break c (encodes cs) (not_other (is_escaped c) (eqb c 10) p.0 other) other
          ∙ ap (λ (xs : List ℕ). encode_utf8 c ++ xs) (joined_chars break cs p.1)
          ∙ sym (rw other refl)
    ]

-- a block's lines, character by character
pub block_is : (level : ℕ) (text : List ℕ) → IsUtf8 text → has_other_escape text ≡ false
    → block level text ≡ (124 ∷ 45 ∷ []) ++ (block_indent level ++ flat_map (block_char level) (chars text))
unfolding block
block_is level text utf8 none =
    ap (λ (xs : List ℕ). (124 ∷ 45 ∷ []) ++ xs)
    (parted-joined (block_indent level) (lines_of text) (lines_there text)
    ∙ ap (λ (xs : List ℕ). block_indent level ++ xs)
    (sym (ap (λ (xs : List ℕ). joined (block_indent level) (lines_of xs)) (encodes-chars text utf8)) ∙ joined_chars (block_indent level) (chars text) none))
