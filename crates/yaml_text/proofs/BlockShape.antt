-- The lines of a text that is written as a block.
use Rattle.std.proofs.Common.{◌≡◌, ℕ, ◌<◌, List, [], ◌∷◌, ◌++◌, Bool, true, false, not, ◌&&◌, ◌||◌, eqb, flat_map, IsUtf8, inl, inr, refl, sym, ap, ◌∙◌, subst, append-nil, arith}
use Rattle.std.specs.Prelude.{encode_utf8}
use Rattle.std.specs.List.{list_any}
use Rattle.std.specs.Str.{chars}
use Rattle.std.proofs.lemmas.Bool.{cases_Bool, cases_lt, eqb-true, ne_eqb}
use Rattle.std.proofs.lemmas.List.Folds.{list_any-append}
use Rattle.std.proofs.lemmas.Str.{encodes-chars, encode_ascii}
use lib.Utf8.{encodes}
use Rattle.yaml_scan.specs.Bytes.{is_white, is_clean}
use Rattle.yaml_scan.specs.Lines.{lines_of, lengthened}
use Rattle.yaml_scan.specs.Block.{all_clean}
use Rattle.yaml_text.specs.Texts.{is_escaped, is_feed, last_line, holds_text, begins_with_text, has_other_escape, is_block}
use Rattle.yaml_text.proofs.Characters.{AreQuiet, quiet_char}
use Rattle.yaml_text.proofs.Quotes.{ascii_clean}
use Rattle.yaml_text.proofs.Lines.{and_parts, not_true, is_inline, is_inline_byte, line_of, later_of, lines_parted, lines_byte, lines_of-append, line_of-append}
use Rattle.yaml_text.proofs.BlockText.{is_other, or_parts, not_other, no_return, quiet_inline, joined, joined_chars, parted_char}
use Rattle.yaml_text.proofs.Blocks.{EndsFull}

-- a byte that is written as an escape
abbrev has : ℕ → List ℕ → Bool
has k xs = list_any (λ c. eqb c k) xs

quiet_other : (k : ℕ) (bs : List ℕ) → k < 128 → AreQuiet bs → has k bs ≡ false
quiet_other k [] low quiet = refl
quiet_other k (b ∷ bs) low quiet = rw (ne_eqb b k (λ e. omega (arith, quiet.0))) (quiet_other k bs low quiet.2)

no_byte : (k : ℕ) (cs : List ℕ) → k < 128 → is_other k ≡ true → list_any is_other cs ≡ false → has k (encodes cs) ≡ false
no_byte k [] low other none = refl
no_byte k (c ∷ cs) low other none =
    let p = or_parts (is_other c) (list_any is_other cs) none in
    let differs : eqb c k ≡ false = ne_eqb c k (λ e. let f : true ≡ false = sym other ∙ ap is_other (sym e) ∙ p.0 in absurd cc) in
    list_any-append (λ d. eqb d k) (encode_utf8 c) (encodes cs)
    ∙ rw (no_byte k cs low other p.1) (elim (cases_lt c 128) [
      | inl ascii ↦ rw (encode_ascii c ascii, differs) refl
      | inr high ↦ rw (quiet_other k (encode_utf8 c) low (quiet_char c high (not_other (is_escaped c) (eqb c 10) p.0 (ne_eqb c 10 (λ e. omega arith))))) refl
    ])

-- its lines are clean
quiet_clean : (bs rest : List ℕ) → AreQuiet bs → is_clean rest ≡ true → is_clean (bs ++ rest) ≡ true
quiet_clean [] rest quiet e = e
quiet_clean (b ∷ bs) rest quiet e = rw (quiet.1 rest) (quiet_clean bs rest quiet.2 e)

pub quiet_inlines : (bs : List ℕ) → AreQuiet bs → is_inline bs ≡ true
quiet_inlines [] quiet = refl
quiet_inlines (b ∷ bs) quiet = rw (quiet_inline b quiet.0) (quiet_inlines bs quiet.2)

pub char_inline : (c : ℕ) → is_escaped c ≡ false → eqb c 10 ≡ false → is_inline (encode_utf8 c) ≡ true
char_inline c plain other = elim (cases_lt c 128) [
  | inl low ↦ rw (encode_ascii c low, other, no_return c plain) refl
  | inr high ↦ quiet_inlines (encode_utf8 c) (quiet_char c high plain)
]

char_clean : (c : ℕ) (rest : List ℕ) → is_escaped c ≡ false → is_clean rest ≡ true → is_clean (encode_utf8 c ++ rest) ≡ true
char_clean c rest plain e = elim (cases_lt c 128) [
  | inl low ↦ rw (encode_ascii c low, ascii_clean c rest low plain) e
  | inr high ↦ quiet_clean (encode_utf8 c) rest (quiet_char c high plain) e
]

both_clean : (line : List ℕ) (lines : List (List ℕ)) → is_clean line ≡ true → all_clean lines ≡ true → all_clean (line ∷ lines) ≡ true
both_clean line lines e f = rw e f

chars_clean : (cs : List ℕ) → list_any is_other cs ≡ false → all_clean (lines_of (encodes cs)) ≡ true
chars_clean [] none = refl
chars_clean (c ∷ cs) none =
    let p = or_parts (is_other c) (list_any is_other cs) none in
    let more = chars_clean cs p.1 in
    elim (cases_Bool (eqb c 10)) [
      | inl is ↦ rw (eqb-true c 10 is, encode_ascii 10 (omega arith)) more
      | inr other ↦
          let plain = not_other (is_escaped c) (eqb c 10) p.0 other in
          let q = and_parts (is_clean (line_of (encodes cs))) (all_clean (later_of (encodes cs))) (sym (ap all_clean (lines_parted (encodes cs))) ∙ more) in
          ap all_clean (lines_of-append (encode_utf8 c) (encodes cs) (char_inline c plain other))
          ∙ both_clean (encode_utf8 c ++ line_of (encodes cs)) (later_of (encodes cs)) (char_clean c (line_of (encodes cs)) plain q.0) q.1
    ]

-- its last line is not empty
longer_full : (c : ℕ) (lines : List (List ℕ)) → EndsFull lines → EndsFull (lengthened c lines)
longer_full c [] full = absurd full
longer_full c ([] ∷ []) full = absurd full
longer_full c ((d ∷ ds) ∷ []) full = tt
longer_full c (l ∷ next ∷ ls) full = full

feed_full : (lines : List (List ℕ)) → EndsFull lines → EndsFull ([] ∷ lines)
feed_full [] full = absurd full
feed_full (l ∷ ls) full = full

no_feed : (cs : List ℕ) → has 10 cs ≡ false → has 13 cs ≡ false → is_inline cs ≡ true
no_feed [] e f = refl
no_feed (c ∷ cs) e f =
    let p = or_parts (eqb c 10) (has 10 cs) e in
    let q = or_parts (eqb c 13) (has 13 cs) f in
    rw (p.0, q.0) (no_feed cs p.1 q.1)

ends_full : (text : List ℕ) → has 13 text ≡ false → holds_text (last_line text) ≡ true → EndsFull (lines_of text)
ends_full [] none holds = absurd cc
ends_full (c ∷ cs) none holds =
    let q = or_parts (eqb c 13) (has 13 cs) none in
    elim (cases_Bool (eqb c 10)) [
      | inl is ↦
          let more : holds_text (last_line cs) ≡ true = rw is at holds in
          rw is (feed_full (lines_of cs) (ends_full cs q.1 more))
      | inr other ↦
          let byte : is_inline_byte c ≡ true = rw (other, q.0) refl in
          rw (lines_byte c cs byte) (elim (cases_Bool (has 10 cs)) [
            | inl some ↦
                let more : holds_text (last_line cs) ≡ true = rw (other, some) at holds in
                longer_full c (lines_of cs) (ends_full cs q.1 more)
            | inr no_more ↦ rw (sym (append-nil cs)) (rw (lines_of-append cs [] (no_feed cs no_more q.1)) tt)
          ])
    ]

-- What the lines of a block's text are.
pub record BlockShape (text : List ℕ) : Type 0 where
  pub clean : all_clean (lines_of text) ≡ true
  pub full : EndsFull (lines_of text)
  pub joined_is : joined (10 ∷ []) (lines_of text) ≡ text
  pub first : ℕ
  pub rest : List ℕ
  pub first_is : line_of text ≡ first ∷ rest
  pub no_white : is_white first ≡ false

parted_same : (cs : List ℕ) → flat_map (parted_char (10 ∷ [])) cs ≡ encodes cs
parted_same [] = refl
parted_same (c ∷ cs) = elim (cases_Bool (eqb c 10)) [
  | inl is ↦ rw (eqb-true c 10 is, encode_ascii 10 (omega arith)) (ap (λ (xs : List ℕ). 10 ∷ xs) (parted_same cs))
  | inr other ↦ rw other (ap (λ (xs : List ℕ). encode_utf8 c ++ xs) (parted_same cs))
]

-- the first byte
pub record FirstByte (text : List ℕ) : Type 0 where
  pub first : ℕ
  pub rest : List ℕ
  pub first_is : line_of text ≡ first ∷ rest
  pub no_white : is_white first ≡ false

first_byte : (text : List ℕ) → begins_with_text text ≡ true → has 13 text ≡ false → has 9 text ≡ false → FirstByte text
first_byte [] e f g = absurd cc
first_byte (c ∷ cs) e f g =
    let p = or_parts (eqb c 10) (eqb c 32) (not_true (eqb c 10 || eqb c 32) e) in
    let q = or_parts (eqb c 13) (has 13 cs) f in
    let r = or_parts (eqb c 9) (has 9 cs) g in
    record {
      first = c;
      rest = line_of cs;
      first_is = line_of-append (c ∷ []) cs (rw (p.0, q.0) refl);
      no_white = rw (p.1, r.0) refl;
    }

pub block_shape : (text : List ℕ) → IsUtf8 text → is_block text ≡ true → BlockShape text
unfolding is_block
block_shape text utf8 is =
    let p = and_parts (list_any is_feed text && not (has_other_escape text) && begins_with_text text) (holds_text (last_line text)) is in
    let q = and_parts (list_any is_feed text && not (has_other_escape text)) (begins_with_text text) p.0 in
    let r = and_parts (list_any is_feed text) (not (has_other_escape text)) q.0 in
    let none : list_any is_other (chars text) ≡ false = not_true (has_other_escape text) r.1 in
    let spelled = encodes-chars text utf8 in
    let return : has 13 text ≡ false = subst (λ (xs : List ℕ). has 13 xs ≡ false) spelled (no_byte 13 (chars text) (omega arith) refl none) in
    let tab : has 9 text ≡ false = subst (λ (xs : List ℕ). has 9 xs ≡ false) spelled (no_byte 9 (chars text) (omega arith) refl none) in
    let byte = first_byte text q.1 return tab in
    record {
      clean = subst (λ (xs : List ℕ). all_clean (lines_of xs) ≡ true) spelled (chars_clean (chars text) none);
      full = ends_full text return p.1;
      joined_is = sym (ap (λ (xs : List ℕ). joined (10 ∷ []) (lines_of xs)) spelled) ∙ joined_chars (10 ∷ []) (chars text) none ∙ parted_same (chars text) ∙ spelled;
      first = byte.first;
      rest = byte.rest;
      first_is = byte.first_is;
      no_white = byte.no_white;
    }
