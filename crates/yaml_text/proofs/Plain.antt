-- Plain texts: numbers, true, false, ~ and names.
use Rattle.std.proofs.Common.{◌≡◌, ℕ, zero, suc, ◌+◌, ◌%◌, ◌^◌, ◌<◌, ◌≤◌, List, [], ◌∷◌, ◌++◌, Bool, true, false, not, ◌&&◌, ◌||◌, nat_le, eqb, inl, inr, ℤ, pos, negsuc, refl, sym, ◌∙◌, arith}
use Rattle.std.specs.Char.{is_ascii_alphanumeric}
use Rattle.std.specs.List.{list_all}
use Rattle.std.specs.Fmt.{decimal, signed_decimal}
use Rattle.std.proofs.lemmas.Bool.{cases_lt, cases_eq, eq-eqb, ne_eqb, lt-ltb, lt-leb, le-leb}
use Rattle.std.proofs.lemmas.Fmt.{decimal_by_steps}
use Rattle.yaml_scan.specs.Bytes.{is_gap}
use Rattle.yaml_scan.specs.Lines.{is_dashes, is_dots}
use Rattle.yaml_scan.specs.Plain.{is_indicator, begins_plain}
use Rattle.yaml_small.specs.Places.{begins}
use Rattle.yaml_text.specs.Written.{boolean_text, magnitude, is_letter, is_name_byte, is_name}
use Rattle.yaml_text.proofs.Lines.{and_parts, not_true, opens}
use Rattle.yaml_text.proofs.ScalarTokens.{is_token, token_is, token_clean, token_white}

-- a test of each number below n
abbrev all_below : (ℕ → Bool) → ℕ → Bool
all_below p zero = true
all_below p (suc n) = p n && all_below p n

below : (p : ℕ → Bool) (n : ℕ) → all_below p n ≡ true → (c : ℕ) → c < n → p c ≡ true
below p zero e c less = absurd (omega arith)
below p (suc n) e c less =
    let q = and_parts (p n) (all_below p n) e in
    elim (cases_eq c n) [ inl same ↦ rw same q.0 | inr other ↦ below p n q.1 c (omega arith) ]

abbrev is_decimal : ℕ → Bool
is_decimal c = nat_le 48 c && nat_le c 57

-- a byte that begins a plain text, whatever follows
abbrev starts : ℕ → Bool
starts c = not (is_indicator c) && not (eqb c 45) && not (eqb c 63) && not (eqb c 58) && not (eqb c 46) && not (eqb c 37) && not (eqb c 39) && not (eqb c 34)

implies : (a b : Bool) → (not a || b) ≡ true → a ≡ true → b ≡ true
implies true b h e = h
implies false b h e = absurd cc

and_none : (a : Bool) → (a && false) ≡ false
and_none true = refl
and_none false = refl

name_low : (c : ℕ) → is_name_byte c ≡ true → c < 127
name_low c e = elim (cases_lt c 127) [
  | inl low ↦ low
  | inr high ↦
      let f : true ≡ false = sym e ∙ rw (lt-leb c 90 (omega arith), lt-leb c 122 (omega arith), lt-leb c 57 (omega arith), ne_eqb c 95 (λ g. omega arith), and_none (nat_le 65 c), and_none (nat_le 97 c), and_none (nat_le 48 c)) refl in
      absurd cc
]

name_token : (c : ℕ) → is_name_byte c ≡ true → is_token c ≡ true
name_token c e = implies (is_name_byte c) (is_token c) (below (λ d. not (is_name_byte d) || is_token d) 127 refl c (name_low c e)) e

abbrev is_first : ℕ → Bool
is_first c = is_letter c || is_decimal c

first_name : (c : ℕ) → is_first c ≡ true → is_name_byte c ≡ true
first_name c e = rw e refl

first_starts : (c : ℕ) → is_first c ≡ true → starts c ≡ true
first_starts c e = implies (is_first c) (starts c) (below (λ d. not (is_first d) || starts d) 127 refl c (name_low c (first_name c e))) e

-- What the scans find of a plain text.
pub record PlainText (w : List ℕ) : Type 0 where
  pub tokens : list_all is_token w ≡ true
  pub begin : (rest : List ℕ) → begins_plain false (w ++ rest) ≡ true
  pub dashes : (rest : List ℕ) → is_dashes (w ++ rest) ≡ false
  pub dots : (rest : List ℕ) → is_dots (w ++ rest) ≡ false
  pub single : (rest : List ℕ) → begins 39 (w ++ rest) ≡ false
  pub double : (rest : List ℕ) → begins 34 (w ++ rest) ≡ false
  pub opened : (rest : List ℕ) → opens (w ++ rest) ≡ true

pub record Starts (c : ℕ) : Type 0 where
  pub indicator : is_indicator c ≡ false
  pub dash : eqb c 45 ≡ false
  pub question : eqb c 63 ≡ false
  pub colon : eqb c 58 ≡ false
  pub dot : eqb c 46 ≡ false
  pub percent : eqb c 37 ≡ false
  pub single : eqb c 39 ≡ false
  pub double : eqb c 34 ≡ false

starts_is : (c : ℕ) → starts c ≡ true → Starts c
starts_is c e =
    let y = and_parts _ (not (eqb c 34)) e in
    let z = and_parts _ (not (eqb c 39)) y.0 in
    let a = and_parts _ (not (eqb c 37)) z.0 in
    let b = and_parts _ (not (eqb c 46)) a.0 in
    let d = and_parts _ (not (eqb c 58)) b.0 in
    let f = and_parts _ (not (eqb c 63)) d.0 in
    let g = and_parts (not (is_indicator c)) (not (eqb c 45)) f.0 in
    record {
      indicator = not_true (is_indicator c) g.0;
      dash = not_true (eqb c 45) g.1;
      question = not_true (eqb c 63) f.1;
      colon = not_true (eqb c 58) d.1;
      dot = not_true (eqb c 46) b.1;
      percent = not_true (eqb c 37) a.1;
      single = not_true (eqb c 39) z.1;
      double = not_true (eqb c 34) y.1;
    }

other_way : (c k : ℕ) → eqb c k ≡ false → eqb k c ≡ false
other_way c k e = ne_eqb k c (λ f. let g : true ≡ false = sym (eq-eqb c k (sym f)) ∙ e in absurd cc)

pub plain_from : (c : ℕ) (cs : List ℕ) → list_all is_token (c ∷ cs) ≡ true → starts c ≡ true → PlainText (c ∷ cs)
plain_from c cs tokens start =
    let p = and_parts (is_token c) (list_all is_token cs) tokens in
    let t = token_is c p.0 in
    let s = starts_is c start in
    record {
      tokens = tokens;
      begin = λ rest. rw (token_white c t, s.indicator, token_clean c (cs ++ rest) t, s.dash, s.question, s.colon) refl;
      dashes = λ rest. rw (other_way c 45 s.dash) refl;
      dots = λ rest. rw (other_way c 46 s.dot) refl;
      single = λ rest. s.single;
      double = λ rest. s.double;
      opened = λ rest. rw (lt-ltb 32 c t.low, lt-ltb c 127 t.high, t.hash, s.percent) refl;
    }

-- a minus and digits
decimal_first : (c : ℕ) → is_decimal c ≡ true → is_first c ≡ true
decimal_first c e = rw e (or_true (is_letter c))
  where
    or_true : (a : Bool) → (a || true) ≡ true
    or_true true = refl
    or_true false = refl

minus_from : (c : ℕ) (cs : List ℕ) → list_all is_token (c ∷ cs) ≡ true → starts c ≡ true → PlainText (45 ∷ c ∷ cs)
minus_from c cs tokens start =
    let p = and_parts (is_token c) (list_all is_token cs) tokens in
    let t = token_is c p.0 in
    let s = starts_is c start in
    let gap : is_gap (c ∷ cs) ≡ false = ne_eqb c 32 (λ e. omega (arith, t.low)) in
    record {
      tokens = tokens;
      begin = λ rest. rw gap refl;
      dashes = λ rest. rw (other_way c 45 s.dash) refl;
      dots = λ rest. refl;
      single = λ rest. refl;
      double = λ rest. refl;
      opened = λ rest. refl;
    }

-- the digits of a number
abbrev are_digits : List ℕ → Bool
are_digits [] = false
are_digits (c ∷ cs) = is_decimal c && list_all is_decimal cs

all_more : (p : ℕ → Bool) (xs : List ℕ) (x : ℕ) → list_all p xs ≡ true → p x ≡ true → list_all p (xs ++ (x ∷ [])) ≡ true
all_more p [] x e f = rw f refl
all_more p (y ∷ ys) x e f = let q = and_parts (p y) (list_all p ys) e in rw q.0 (all_more p ys x q.1 f)

decimal_digit_is : (n : ℕ) → n < 10 → is_decimal (48 + n) ≡ true
decimal_digit_is n less = rw (le-leb 48 (48 + n) (omega arith), le-leb (48 + n) 57 (omega arith)) refl

one_digit : (n : ℕ) → n < 10 → are_digits ((48 + n) ∷ []) ≡ true
one_digit n less = rw (decimal_digit_is n less) refl

more_digits : (n : ℕ) (ds : List ℕ) → 10 ≤ n → are_digits ds ≡ true → are_digits (ds ++ ((48 + n % 10) ∷ [])) ≡ true
more_digits n [] high e = absurd cc
more_digits n (d ∷ ds) high e =
    let q = and_parts (is_decimal d) (list_all is_decimal ds) e in
    rw q.0 (all_more is_decimal ds (48 + n % 10) q.1 (decimal_digit_is (n % 10) (omega arith)))

decimal_digits : (n : ℕ) → n < 2 ^ 64 → are_digits (decimal n) ≡ true
decimal_digits n less = decimal_by_steps (λ m ds. are_digits ds ≡ true) one_digit more_digits n less

tokens_from : (cs : List ℕ) → list_all is_name_byte cs ≡ true → list_all is_token cs ≡ true
tokens_from [] e = refl
tokens_from (c ∷ cs) e = let q = and_parts (is_name_byte c) (list_all is_name_byte cs) e in rw (name_token c q.0) (tokens_from cs q.1)

digit_names : (cs : List ℕ) → list_all is_decimal cs ≡ true → list_all is_name_byte cs ≡ true
digit_names [] e = refl
digit_names (c ∷ cs) e = let q = and_parts (is_decimal c) (list_all is_decimal cs) e in rw (first_name c (decimal_first c q.0)) (digit_names cs q.1)

pub digits_plain : (ds : List ℕ) → are_digits ds ≡ true → PlainText ds
digits_plain [] e = absurd cc
digits_plain (d ∷ ds) e =
    let q = and_parts (is_decimal d) (list_all is_decimal ds) e in
    plain_from d ds (tokens_from (d ∷ ds) (digit_names (d ∷ ds) (rw q.0 q.1))) (first_starts d (decimal_first d q.0))

minus_plain : (ds : List ℕ) → are_digits ds ≡ true → PlainText (45 ∷ ds)
minus_plain [] e = absurd cc
minus_plain (d ∷ ds) e =
    let q = and_parts (is_decimal d) (list_all is_decimal ds) e in
    minus_from d ds (tokens_from (d ∷ ds) (digit_names (d ∷ ds) (rw q.0 q.1))) (first_starts d (decimal_first d q.0))

pub number_plain : (z : ℤ) → magnitude z < 2 ^ 64 → PlainText (signed_decimal z)
number_plain (pos n) less = digits_plain (decimal n) (decimal_digits n less)
number_plain (negsuc n) less = minus_plain (decimal (suc n)) (decimal_digits (suc n) (let e : suc n ≡ n + 1 = omega arith in rw e less))

pub boolean_plain : (b : Bool) → PlainText (boolean_text b)
boolean_plain true = plain_from 116 (114 ∷ 117 ∷ 101 ∷ []) refl refl
boolean_plain false = plain_from 102 (97 ∷ 108 ∷ 115 ∷ 101 ∷ []) refl refl

pub tilde_plain : PlainText (126 ∷ [])
tilde_plain = plain_from 126 [] refl refl

letter_or_digit : (digit upper lower : Bool) → ((digit || upper) || lower) ≡ true → ((upper || lower) || digit) ≡ true
letter_or_digit true true lower e = refl
letter_or_digit true false true e = refl
letter_or_digit true false false e = refl
letter_or_digit false true lower e = refl
letter_or_digit false false true e = refl
letter_or_digit false false false e = e

pub character_plain : (c : ℕ) → is_ascii_alphanumeric c ≡ true → PlainText (c ∷ [])
character_plain c e =
    let first : is_first c ≡ true = letter_or_digit (is_decimal c) (nat_le 65 c && nat_le c 90) (nat_le 97 c && nat_le c 122) e in
    plain_from c [] (tokens_from (c ∷ []) (rw (first_name c first) refl)) (first_starts c first)

pub name_plain : (name : List ℕ) → is_name name ≡ true → PlainText name
name_plain [] e = absurd cc
name_plain (c ∷ cs) e =
    let q = and_parts (is_letter c) (list_all is_name_byte cs) e in
    let first : is_first c ≡ true = rw q.0 refl in
    plain_from c cs (tokens_from (c ∷ cs) (rw (first_name c first) q.1)) (first_starts c first)
