-- A quoted text is read back: single quotes and double quotes, whatever stands behind the closing one.
use Rattle.std.proofs.Common.{◌≡◌, ℕ, zero, suc, ◌+◌, ◌*◌, ◌/◌, ◌%◌, ◌<◌, List, [], ◌∷◌, ◌++◌, Bool, true, false, ◌&&◌, ◌||◌, nat_lt, nat_le, eqb, flat_map, inl, inr, Ok, Err, refl, sym, ap, ◌∙◌, append_assoc, arith}
use Rattle.std.specs.Prelude.{encode_utf8}
use Rattle.std.specs.List.{list_any}
use Rattle.std.specs.Char.{digit_value, is_digit}
use Rattle.std.proofs.lemmas.Bool.{cases_Bool, cases_lt, cases_eq, eqb-true, ne_eqb, lt-ltb, le-ltb, lt-leb}
use Rattle.std.proofs.lemmas.Bool.Decides.{nat_tests}
use Rattle.std.proofs.lemmas.Str.{encode_ascii}
use lib.Utf8.{scalar, scalars, low_scalar, encodes}
use Rattle.yaml_scan.specs.Bytes.{is_control, is_control_byte}
use Rattle.yaml_scan.specs.QuotedScan.{Found, with_text, single_at, double_quoted_at}
use Rattle.yaml_text.specs.Texts.{is_escaped, hex_digit, hex_pair, escape, double_char, single_char}
use Rattle.yaml_text.proofs.Characters.{AreQuiet, quiet_char}
use Rattle.yaml_text.proofs.Lines.{and_parts}
use Rattle.yaml_text.proofs.BlockText.{or_parts}

with_two : (a b : List ℕ) (f : Found) (text rest : List ℕ) → f ≡ Ok (text, rest) → with_text a (with_text b f) ≡ Ok ((a ++ b) ++ text, rest)
with_two a b f text rest e = rw (e, append_assoc a b text) refl

-- no byte, or one that is no single quote
abbrev pub NoQuote : List ℕ → Type 0
NoQuote [] = Unit {0}
NoQuote (c ∷ cs) = eqb c 39 ≡ false

closed_single : (rest : List ℕ) → NoQuote rest → single_at (39 ∷ rest) ≡ Ok ([], rest)
closed_single [] n = refl
closed_single (c ∷ cs) n = rw n refl

-- some byte
abbrev HasByte : List ℕ → Type 0
HasByte [] = ⊥
HasByte (c ∷ cs) = Unit {0}

some_byte : (xs : List ℕ) (c : ℕ) (rest : List ℕ) → HasByte (xs ++ (c ∷ rest))
some_byte [] c rest = tt
some_byte (x ∷ xs) c rest = tt

single_byte : (b : ℕ) (rest : List ℕ) → HasByte rest → eqb b 39 ≡ false → is_control (b ∷ rest) ≡ false → single_at (b ∷ rest) ≡ with_text (b ∷ []) (single_at rest)
single_byte b [] h other clean = absurd h
single_byte b (c ∷ cs) h other clean = rw (other, clean) refl

single_bytes : (bs rest : List ℕ) → AreQuiet bs → HasByte rest → (text behind : List ℕ) → single_at rest ≡ Ok (text, behind) → single_at (bs ++ rest) ≡ Ok (bs ++ text, behind)
single_bytes [] rest quiet h text behind e = e
single_bytes (b ∷ bs) rest quiet h text behind e =
    let more : HasByte (bs ++ rest) = longer bs rest h in
    single_byte b (bs ++ rest) more (ne_eqb b 39 (λ is. omega (arith, quiet.0))) (quiet.1 rest) ∙ ap (with_text (b ∷ [])) (single_bytes bs rest quiet.2 h text behind e)
  where
    longer : (bs rest : List ℕ) → HasByte rest → HasByte (bs ++ rest)
    longer [] rest h = h
    longer (b ∷ bs) rest h = tt

parts_of : (a b c d e f : Bool) → ((((a || (b && c)) || d) || e) || f) ≡ false → (a ≡ false) × ((b && c) ≡ false)
parts_of false false c d e f h = (refl, refl)
parts_of false true false d e f h = (refl, refl)
parts_of false true true d e f h = absurd cc
parts_of true b c d e f h = absurd cc

no_control_byte : (c : ℕ) → c < 128 → is_escaped c ≡ false → is_control_byte c ≡ false
no_control_byte c low plain =
    let p = parts_of (nat_lt c 32) (nat_le 127 c) (nat_le c 159) (eqb c 8232) (eqb c 8233) (eqb c 65279) plain in
    let below : nat_le c 159 ≡ true = grind (arith, nat_tests) in
    let not_last : (nat_le 127 c && nat_le c 159) ≡ false = p.1 in
    rw (p.0, ne_eqb c 127 (λ e. last c e (rw below at not_last))) refl
  where
    last : (c : ℕ) → c ≡ 127 → (nat_le 127 c && true) ≡ false → ⊥
    last c e h = let f : true ≡ false = sym (rw e refl) ∙ h in absurd cc

-- an ASCII character that is no escape is no control character
pub ascii_clean : (c : ℕ) (rest : List ℕ) → c < 128 → is_escaped c ≡ false → is_control (c ∷ rest) ≡ false
ascii_clean c [] low plain = no_control_byte c low plain
ascii_clean c (d ∷ ds) low plain = rw (no_control_byte c low plain, ne_eqb c 194 (λ e. omega arith)) refl

pub single_read : (cs rest : List ℕ) → list_any is_escaped cs ≡ false → NoQuote rest → single_at (flat_map single_char cs ++ (39 ∷ rest)) ≡ Ok (encodes cs, rest)
single_read [] rest none behind = closed_single rest behind
single_read (c ∷ cs) rest none behind =
    let p = or_parts (is_escaped c) (list_any is_escaped cs) none in
    let more = single_read cs rest p.1 behind in
    let here = some_byte (flat_map single_char cs) 39 rest in
    elim (cases_Bool (eqb c 39)) [
      | inl is ↦
          rw (eqb-true c 39 is, encode_ascii 39 (omega arith)) (ap (with_text (39 ∷ [])) more)
      | inr other ↦
          rw (other, append_assoc (encode_utf8 c) (flat_map single_char cs) (39 ∷ rest))
          (elim (cases_lt c 128) [
            | inl low ↦ rw (encode_ascii c low) (single_byte c (flat_map single_char cs ++ (39 ∷ rest)) here other (ascii_clean c _ low p.0) ∙ ap (with_text (c ∷ [])) more)
            | inr high ↦ single_bytes (encode_utf8 c) (flat_map single_char cs ++ (39 ∷ rest)) (quiet_char c high p.0) here (encodes cs) rest more
          ])
    ]

with_none : (f : Found) → with_text [] f ≡ f
with_none (Ok found) = refl
with_none (Err flaw) = refl

-- a hex digit is read as its value
abbrev are_digits : ℕ → Bool
are_digits zero = true
are_digits (suc n) = (is_digit (hex_digit n) 16 && eqb (digit_value (hex_digit n)) n) && are_digits n

digit_below : (n : ℕ) → are_digits n ≡ true → (d : ℕ) → d < n → (is_digit (hex_digit d) 16 ≡ true) × (digit_value (hex_digit d) ≡ d)
digit_below zero e d less = absurd (omega arith)
digit_below (suc n) e d less =
    let p = and_parts (is_digit (hex_digit n) 16 && eqb (digit_value (hex_digit n)) n) (are_digits n) e in
    let q = and_parts (is_digit (hex_digit n) 16) (eqb (digit_value (hex_digit n)) n) p.0 in
    elim (cases_eq d n) [
      | inl same ↦ rw same (q.0, eqb-true (digit_value (hex_digit n)) n q.1)
      | inr other ↦ digit_below n p.1 d (omega arith)
    ]

sixteen : are_digits 16 ≡ true
sixteen = refl

digit_is : (d : ℕ) → d < 16 → (is_digit (hex_digit d) 16 ≡ true) × (digit_value (hex_digit d) ≡ d)
digit_is d less = digit_below 16 sixteen d less

-- \x and two digits
two_digits : (x y a b c : ℕ) (rest : List ℕ) → is_digit x 16 ≡ true → digit_value x ≡ a → is_digit y 16 ≡ true → digit_value y ≡ b
    → 16 * (0 + a) + b ≡ c → nat_lt (0 + a) 0x110000 ≡ true → nat_lt c 0x110000 ≡ true → scalar c ≡ true
    → double_quoted_at (92 ∷ 120 ∷ x ∷ y ∷ rest) ≡ with_text (encode_utf8 c) (double_quoted_at rest)
two_digits x y a b c rest dx vx dy vy e less below is =
    rw (dx, vx, less, dy, vy, e, is, below) (with_none (with_text [] (with_text [] (with_text (encode_utf8 c) (double_quoted_at rest)))) ∙ with_none (with_text [] (with_text (encode_utf8 c) (double_quoted_at rest))) ∙ with_none (with_text (encode_utf8 c) (double_quoted_at rest)))

-- \u and four digits
four_digits : (x y z w a b c d n : ℕ) (rest : List ℕ) → is_digit x 16 ≡ true → digit_value x ≡ a → is_digit y 16 ≡ true → digit_value y ≡ b
    → is_digit z 16 ≡ true → digit_value z ≡ c → is_digit w 16 ≡ true → digit_value w ≡ d
    → 16 * (16 * (16 * (0 + a) + b) + c) + d ≡ n → nat_lt (0 + a) 0x110000 ≡ true → nat_lt (16 * (0 + a) + b) 0x110000 ≡ true
    → nat_lt (16 * (16 * (0 + a) + b) + c) 0x110000 ≡ true → nat_lt n 0x110000 ≡ true → scalar n ≡ true
    → double_quoted_at (92 ∷ 117 ∷ x ∷ y ∷ z ∷ w ∷ rest) ≡ with_text (encode_utf8 n) (double_quoted_at rest)
four_digits x y z w a b c d n rest dx vx dy vy dz vz dw vw e l1 l2 l3 l4 is =
    let last : Found = with_text (encode_utf8 n) (double_quoted_at rest) in
    rw (dx, vx, l1, dy, vy, l2, dz, vz, l3, dw, vw, e, is, l4)
    (with_none (with_text [] (with_text [] (with_text [] (with_text [] last)))) ∙ with_none (with_text [] (with_text [] (with_text [] last))) ∙ with_none (with_text [] (with_text [] last)) ∙ with_none (with_text [] last) ∙ with_none last)

-- two and four hex digits of a number
hex_two : (c : ℕ) (rest : List ℕ) → c < 256 → double_quoted_at ((92 ∷ 120 ∷ hex_pair c) ++ rest) ≡ with_text (encode_utf8 c) (double_quoted_at rest)
hex_two c rest small =
    let x = digit_is (c / 16) (omega arith) in
    let y = digit_is (c % 16) (omega arith) in
    two_digits (hex_digit (c / 16)) (hex_digit (c % 16)) (c / 16) (c % 16) c rest x.0 x.1 y.0 y.1 (omega arith)
    (below (0 + c / 16) (omega arith)) (below c (omega arith)) (low_scalar c (omega arith))
  where
    below : (n : ℕ) → n < 0x110000 → nat_lt n 0x110000 ≡ true
    below n h = lt-ltb n 0x110000 h

hex_four : (c : ℕ) (rest : List ℕ) → c < 0x10000 → scalar c ≡ true
    → double_quoted_at (((92 ∷ 117 ∷ hex_pair (c / 0x100)) ++ hex_pair (c % 0x100)) ++ rest) ≡ with_text (encode_utf8 c) (double_quoted_at rest)
hex_four c rest small is =
    let x = digit_is (c / 0x100 / 16) (omega arith) in
    let y = digit_is (c / 0x100 % 16) (omega arith) in
    let z = digit_is (c % 0x100 / 16) (omega arith) in
    let w = digit_is (c % 0x100 % 16) (omega arith) in
    four_digits (hex_digit (c / 0x100 / 16)) (hex_digit (c / 0x100 % 16)) (hex_digit (c % 0x100 / 16)) (hex_digit (c % 0x100 % 16))
    (c / 0x100 / 16) (c / 0x100 % 16) (c % 0x100 / 16) (c % 0x100 % 16) c rest x.0 x.1 y.0 y.1 z.0 z.1 w.0 w.1 (omega arith)
    (below (0 + c / 0x100 / 16) (omega arith)) (below _ (omega arith)) (below _ (omega arith)) (below c (omega arith)) is
  where
    below : (n : ℕ) → n < 0x110000 → nat_lt n 0x110000 ≡ true
    below n h = lt-ltb n 0x110000 h

-- an escape is read as its character
escape_read : (c : ℕ) (rest : List ℕ) → c < 0x10000 → scalar c ≡ true → double_quoted_at (escape c ++ rest) ≡ with_text (encode_utf8 c) (double_quoted_at rest)
escape_read c rest small is = elim (cases_Bool (eqb c 10)) [
  | inl feed ↦ rw (eqb-true c 10 feed) (with_none (with_text (encode_utf8 10) (double_quoted_at rest)))
  | inr no_feed ↦ elim (cases_Bool (eqb c 13)) [
    | inl return ↦ rw (eqb-true c 13 return) (with_none (with_text (encode_utf8 13) (double_quoted_at rest)))
    | inr no_return ↦ elim (cases_Bool (eqb c 9)) [
      | inl tab ↦ rw (eqb-true c 9 tab) (with_none (with_text (encode_utf8 9) (double_quoted_at rest)))
      | inr no_tab ↦ elim (cases_lt c 256) [
        | inl low ↦ rw (no_feed, no_return, no_tab, lt-ltb c 256 low) (hex_two c rest low)
        | inr high ↦ rw (no_feed, no_return, no_tab, le-ltb c 256 high) (hex_four c rest small is)
      ]
    ]
  ]
]

double_byte : (b : ℕ) (rest : List ℕ) → eqb b 34 ≡ false → eqb b 92 ≡ false → is_control (b ∷ rest) ≡ false → double_quoted_at (b ∷ rest) ≡ with_text (b ∷ []) (double_quoted_at rest)
double_byte b rest quote slash clean = rw (quote, slash, clean) refl

double_bytes : (bs rest : List ℕ) → AreQuiet bs → double_quoted_at (bs ++ rest) ≡ with_text bs (double_quoted_at rest)
double_bytes [] rest quiet = sym (with_none (double_quoted_at rest))
double_bytes (b ∷ bs) rest quiet =
    double_byte b (bs ++ rest) (ne_eqb b 34 (λ e. omega (arith, quiet.0))) (ne_eqb b 92 (λ e. omega (arith, quiet.0))) (quiet.1 rest)
    ∙ ap (with_text (b ∷ [])) (double_bytes bs rest quiet.2) ∙ with_both (b ∷ []) bs (double_quoted_at rest)
  where
    with_both : (a b : List ℕ) (f : Found) → with_text a (with_text b f) ≡ with_text (a ++ b) f
    with_both a b (Ok found) = rw append_assoc refl
    with_both a b (Err flaw) = refl

escaped_small : (c : ℕ) → is_escaped c ≡ true → c < 0x10000
escaped_small c e = elim (cases_lt c 0x10000) [
  | inl low ↦ low
  | inr high ↦ let f : true ≡ false = sym e ∙ rw (le-ltb c 32 (omega arith), lt-leb c 159 (omega arith), ne_eqb c 8232 (λ g. omega arith), ne_eqb c 8233 (λ g. omega arith), ne_eqb c 65279 (λ g. omega arith)) (and_none (nat_le 127 c)) in absurd cc
]
  where
    and_none : (x : Bool) → ((((false || (x && false)) || false) || false) || false) ≡ false
    and_none true = refl
    and_none false = refl

-- a character between double quotes is read as itself
double_char_read : (c : ℕ) (rest : List ℕ) → scalar c ≡ true → double_quoted_at (double_char c ++ rest) ≡ with_text (encode_utf8 c) (double_quoted_at rest)
double_char_read c rest is = elim (cases_Bool (eqb c 34)) [
  | inl quote ↦ rw (eqb-true c 34 quote) (with_none (with_text (encode_utf8 34) (double_quoted_at rest)))
  | inr no_quote ↦ elim (cases_Bool (eqb c 92)) [
    | inl slash ↦ rw (eqb-true c 92 slash) (with_none (with_text (encode_utf8 92) (double_quoted_at rest)))
    | inr no_slash ↦ elim (cases_Bool (is_escaped c)) [
      | inl escaped ↦ rw (no_quote, no_slash, escaped) (escape_read c rest (escaped_small c escaped) is)
      | inr plain ↦ rw (no_quote, no_slash, plain) (elim (cases_lt c 128) [
        | inl low ↦ rw (encode_ascii c low) (double_byte c rest no_quote no_slash (ascii_clean c rest low plain))
        | inr high ↦ double_bytes (encode_utf8 c) rest (quiet_char c high plain)
      ])
    ]
  ]
]

pub double_read : (cs rest : List ℕ) → scalars cs ≡ true → double_quoted_at (flat_map double_char cs ++ (34 ∷ rest)) ≡ Ok (encodes cs, rest)
double_read [] rest is = refl
double_read (c ∷ cs) rest is =
    let p = and_parts (scalar c) (scalars cs) is in
    rw (append_assoc (double_char c) (flat_map double_char cs) (34 ∷ rest))
    (double_char_read c (flat_map double_char cs ++ (34 ∷ rest)) p.0 ∙ ap (with_text (encode_utf8 c)) (double_read cs rest p.1))
