-- What a scan finds is a quoted scalar, and each quoted scalar is found.
use Rattle.std.proofs.Common.{◌≡◌, ℕ, zero, suc, ◌+◌, ◌-◌, ◌*◌, ◌<◌, ◌≤◌, List, [], ◌∷◌, ◌++◌, length, Bool, true, false, cond, ◌&&◌, eqb, ltb, Option, Some, None, Ok, Err, refl, sym, ap, ◌∙◌, subst, inl, inr, arith}
use Rattle.std.specs.Char.{encode_utf8, digit_value, is_digit}
use Rattle.std.proofs.lemmas.Bool.{eqb-true, ne_eqb, lt-ltb}
use lib.Utf8.{scalar, scalar_cases}
use Rattle.yaml_scan.specs.Bytes.{is_control}
use Rattle.yaml_scan.specs.Quoted.{escaped, digits_wanted, all_hex, hex_number, Piece, itself, SinglePiece, DoublePiece, Pieces, begins_quote, SingleQuoted, DoubleQuoted}
use Rattle.yaml_scan.specs.QuotedScan.{Found, Open, Bad, with_text, single_at, Standing, Text, Backslash, Hex, Turn, turn, text_turn, escape_turn, hex_turn, digit_turn, continued, double_at, double_quoted_at}

unfoldable pub found_is : List ℕ → List ℕ → Found
found_is text rest = Ok (text, rest)

pub same_text : (s t r q : List ℕ) → found_is s r ≡ found_is t q → s ≡ t
unfolding found_is
same_text s t r q e = ap (λ (f : Found). elim f as (λ (g : Found). List ℕ) [ Ok p ↦ p.0 | Err x ↦ [] ]) e

pub same_rest : (s t r q : List ℕ) → found_is s r ≡ found_is t q → r ≡ q
unfolding found_is
same_rest s t r q e = ap (λ (f : Found). elim f as (λ (g : Found). List ℕ) [ Ok p ↦ p.1 | Err x ↦ [] ]) e

-- text in front of what was found
pub record Texted (s text rest : List ℕ) (found : Found) : Type 0 where
  pub behind : List ℕ
  pub is : found ≡ found_is behind rest
  pub all : text ≡ s ++ behind

pub texted : (s text rest : List ℕ) (found : Found) → with_text s found ≡ found_is text rest → Texted s text rest found
unfolding found_is
texted s text rest (Ok p) e = record {
  behind = p.0;
  is = ap (λ (r : List ℕ). found_is p.0 r) (same_rest (s ++ p.0) text p.1 rest e);
  all = sym (same_text (s ++ p.0) text p.1 rest e);
}
texted s text rest (Err f) e = absurd cc

pub text_on : (s behind t text : List ℕ) (found : Found) → found ≡ found_is behind t → text ≡ s ++ behind → with_text s found ≡ found_is text t
unfolding found_is
text_on s behind t text found e all = ap (with_text s) e ∙ ap (λ (x : List ℕ). found_is x t) (sym all)

-- Single quotes.
single_closed : (c : ℕ) (cs text rest : List ℕ) → eqb c 39 ≡ true → begins_quote cs ≡ false → found_is [] cs ≡ found_is text rest → SingleQuoted (c ∷ cs) text rest
single_closed c cs text rest is last e =
    let same = same_rest [] text cs rest e in
    ([], (ap (λ (x : ℕ). x ∷ cs) (eqb-true c 39 is) ∙ ap (λ (x : List ℕ). 39 ∷ x) same, sym (same_text [] text cs rest e)), sym (ap begins_quote same) ∙ last)

single_piece : (p : Piece) (line behind text more rest : List ℕ) → line ≡ p.written ++ behind → SinglePiece p behind → text ≡ p.text ++ more → SingleQuoted behind more rest → SingleQuoted line text rest
single_piece p line behind text more rest is may all (ps, pieces, last) = (p ∷ ps, (behind, more, is, may, all, pieces), last)

no_single : {P : Type 0} (text rest : List ℕ) (b : Bool) → cond b (Err Bad) (Err Open) ≡ found_is text rest → P
unfolding found_is
no_single text rest true e = absurd cc
no_single text rest false e = absurd cc

single_one : (c : ℕ) (text rest : List ℕ) (b : Bool) → eqb c 39 ≡ b → cond b (found_is [] []) (cond (is_control (c ∷ [])) (Err Bad) (Err Open)) ≡ found_is text rest → SingleQuoted (c ∷ []) text rest
single_one c text rest true is e = single_closed c [] text rest is refl e
single_one c text rest false is e = no_single text rest (is_control (c ∷ [])) e

single_two : (c d : ℕ) (cs text rest : List ℕ) (b e f : Bool) → eqb c 39 ≡ b → eqb d 39 ≡ e → is_control (c ∷ d ∷ cs) ≡ f
    → ((more : List ℕ) → single_at cs ≡ found_is more rest → SingleQuoted cs more rest) → ((more : List ℕ) → single_at (d ∷ cs) ≡ found_is more rest → SingleQuoted (d ∷ cs) more rest)
    → cond b (cond e (with_text (39 ∷ []) (single_at cs)) (found_is [] (d ∷ cs))) (cond f (Err Bad) (with_text (c ∷ []) (single_at (d ∷ cs)))) ≡ found_is text rest → SingleQuoted (c ∷ d ∷ cs) text rest
unfolding found_is
single_two c d cs text rest true true f is also clean after onward e =
    let t = texted (39 ∷ []) text rest (single_at cs) e in
    single_piece (record { written = 39 ∷ 39 ∷ []; text = 39 ∷ [] }) (c ∷ d ∷ cs) cs text t.behind rest
    (ap (λ (x : ℕ). x ∷ d ∷ cs) (eqb-true c 39 is) ∙ ap (λ (x : ℕ). 39 ∷ x ∷ cs) (eqb-true d 39 also)) (inr refl) t.all (after t.behind t.is)
single_two c d cs text rest true false f is also clean after onward e = single_closed c (d ∷ cs) text rest is also e
single_two c d cs text rest false g true is also clean after onward e = absurd cc
single_two c d cs text rest false g false is also clean after onward e =
    let t = texted (c ∷ []) text rest (single_at (d ∷ cs)) e in
    single_piece (itself c) (c ∷ d ∷ cs) (d ∷ cs) text t.behind rest refl (inl (c, is, clean, refl)) t.all (onward t.behind t.is)

pub single_found : (line text rest : List ℕ) → single_at line ≡ found_is text rest → SingleQuoted line text rest
unfolding found_is
single_found [] text rest e = absurd cc
single_found (c ∷ []) text rest e = single_one c text rest (eqb c 39) refl e
single_found (c ∷ d ∷ cs) text rest e =
    single_two c d cs text rest (eqb c 39) (eqb d 39) (is_control (c ∷ d ∷ cs)) refl refl refl (λ more h. single_found cs more rest h) (λ more h. single_found (d ∷ cs) more rest h) e

-- no piece is empty, so no line of pieces is
some_line : (ps : List Piece) (line text rest : List ℕ) → Pieces SinglePiece 39 ps line text rest → (d : ℕ) × ((ds : List ℕ) × (line ≡ d ∷ ds))
some_line [] line text rest (is, none) = (39, (rest, is))
some_line (p ∷ ps) line text rest (behind, more, is, may, all, pieces) = from may
  where
    from : SinglePiece p behind → (d : ℕ) × ((ds : List ℕ) × (line ≡ d ∷ ds))
    from (inl (c, other, clean, piece)) = (c, (behind, is ∙ ap (λ (q : Piece). q.written ++ behind) piece))
    from (inr piece) = (39, (39 ∷ behind, is ∙ ap (λ (q : Piece). q.written ++ behind) piece))

byte_scanned : (c : ℕ) (behind text more rest : List ℕ) (d : ℕ) (ds : List ℕ) → behind ≡ d ∷ ds → eqb c 39 ≡ false → is_control (c ∷ behind) ≡ false → text ≡ (c ∷ []) ++ more → single_at behind ≡ found_is more rest → single_at (c ∷ behind) ≡ found_is text rest
byte_scanned c behind text more rest d ds some other clean all e =
    let scanned : single_at (c ∷ d ∷ ds) ≡ with_text (c ∷ []) (single_at (d ∷ ds)) = rw (other, sym (ap (λ (x : List ℕ). is_control (c ∷ x)) some) ∙ clean) refl in
    ap (λ (x : List ℕ). single_at (c ∷ x)) some ∙ scanned ∙ ap (λ (x : List ℕ). with_text (c ∷ []) (single_at x)) (sym some) ∙ text_on (c ∷ []) more rest text (single_at behind) e all

single_pieces : (ps : List Piece) (line text rest : List ℕ) → Pieces SinglePiece 39 ps line text rest → begins_quote rest ≡ false → single_at line ≡ found_is text rest
unfolding found_is
single_pieces [] line text rest (is, none) last = ap single_at is ∙ closed rest last ∙ ap (λ (x : List ℕ). found_is x rest) (sym none)
  where
    closed : (rest : List ℕ) → begins_quote rest ≡ false → single_at (39 ∷ rest) ≡ found_is [] rest
    closed [] last = refl
    closed (d ∷ ds) last = rw last refl
single_pieces (p ∷ ps) line text rest (behind, more, is, may, all, pieces) last = from may (single_pieces ps behind more rest pieces last)
  where
    from : SinglePiece p behind → single_at behind ≡ found_is more rest → single_at line ≡ found_is text rest
    from (inl (c, other, clean, piece)) h =
        let some = some_line ps behind more rest pieces in
        ap single_at (is ∙ ap (λ (q : Piece). q.written ++ behind) piece)
        ∙ byte_scanned c behind text more rest some.0 some.1.0 some.1.1 other clean (all ∙ ap (λ (q : Piece). q.text ++ more) piece) h
    from (inr piece) h =
        ap single_at (is ∙ ap (λ (q : Piece). q.written ++ behind) piece)
        ∙ text_on (39 ∷ []) more rest text (single_at behind) h (all ∙ ap (λ (q : Piece). q.text ++ more) piece)

pub single_scanned : (line text rest : List ℕ) → SingleQuoted line text rest → single_at line ≡ found_is text rest
single_scanned line text rest (ps, pieces, last) = single_pieces ps line text rest pieces last

-- Double quotes: what stands behind a backslash, or behind hex digits.
record Digits (wanted value : ℕ) (line text rest : List ℕ) : Type 0 where
  digits : List ℕ
  behind : List ℕ
  more : List ℕ
  is : line ≡ digits ++ behind
  count : length digits ≡ wanted
  hex : all_hex digits ≡ true
  character : scalar (hex_number value digits) ≡ true
  all : text ≡ encode_utf8 (hex_number value digits) ++ more
  quoted : DoubleQuoted behind more rest

-- what a scan finds from within a scalar
abbrev Rest : Standing → List ℕ → List ℕ → List ℕ → Type 0
Rest Text line text rest = DoubleQuoted line text rest
Rest Backslash line text rest = DoubleQuoted (92 ∷ line) text rest
Rest (Hex wanted value) line text rest = 0 < wanted → Digits wanted value line text rest

double_piece : (p : Piece) (line behind text more rest : List ℕ) → line ≡ p.written ++ behind → DoublePiece p behind → text ≡ p.text ++ more → DoubleQuoted behind more rest → DoubleQuoted line text rest
double_piece p line behind text more rest is may all (ps, pieces) = (p ∷ ps, (behind, more, is, may, all, pieces))

-- a byte, and what the scan finds behind it
abbrev Onward : List ℕ → List ℕ → Type 0
Onward cs rest = (standing : Standing) (more : List ℕ) → double_at cs standing ≡ found_is more rest → Rest standing cs more rest

refused : {P : Type 0} (text rest : List ℕ) (f : Standing → Found) → continued None f ≡ found_is text rest → P
unfolding found_is
refused text rest f e = absurd cc

text_found : (c : ℕ) (cs text rest : List ℕ) (b f : Bool) → eqb c 92 ≡ b → is_control (c ∷ cs) ≡ f → eqb c 34 ≡ false → Onward cs rest
    → continued (cond b (turn [] Backslash) (cond f None (turn (c ∷ []) Text))) (double_at cs) ≡ found_is text rest → DoubleQuoted (c ∷ cs) text rest
text_found c cs text rest true f is clean other onward e =
    let t = texted [] text rest (double_at cs Backslash) e in
    subst (λ (x : List ℕ). DoubleQuoted (c ∷ cs) x rest) (sym t.all)
    (subst (λ (x : ℕ). DoubleQuoted (x ∷ cs) t.behind rest) (sym (eqb-true c 92 is)) (onward Backslash t.behind t.is))
text_found c cs text rest false true is clean other onward e = refused text rest (double_at cs) e
text_found c cs text rest false false is clean other onward e =
    let t = texted (c ∷ []) text rest (double_at cs Text) e in
    double_piece (itself c) (c ∷ cs) cs text t.behind rest refl (inl (c, other, is, clean, refl)) t.all (onward Text t.behind t.is)

some_wanted : (c wanted : ℕ) → digits_wanted c ≡ Some wanted → 0 < wanted
some_wanted c wanted e = from (eqb c 0x78) (eqb c 0x75) (eqb c 0x55) e
  where
    some : (n m : ℕ) → 0 < n → Some n ≡ Some m → 0 < m
    some n m lt e = subst (λ (o : Option ℕ). elim o as (λ p. Type 0) [ None ↦ Unit {0} | Some k ↦ 0 < k ]) e lt

    from : (a b d : Bool) → cond a (Some 2) (cond b (Some 4) (cond d (Some 8) None)) ≡ Some wanted → 0 < wanted
    from true b d e = some 2 wanted (omega arith) e
    from false true d e = some 4 wanted (omega arith) e
    from false false true e = some 8 wanted (omega arith) e
    from false false false e = absurd cc

escape_found : (c : ℕ) (cs text rest : List ℕ) (wanted character : Option ℕ) → digits_wanted c ≡ wanted → escaped c ≡ character → Onward cs rest
    → continued (escape_turn wanted character) (double_at cs) ≡ found_is text rest → DoubleQuoted (92 ∷ c ∷ cs) text rest
escape_found c cs text rest (Some wanted) character is letter onward e =
    let t = texted [] text rest (double_at cs (Hex wanted 0)) e in
    let d = onward (Hex wanted 0) t.behind t.is (some_wanted c wanted is) in
    double_piece (record { written = 92 ∷ c ∷ d.digits; text = encode_utf8 (hex_number 0 d.digits) }) (92 ∷ c ∷ cs) d.behind text d.more rest
    (ap (λ (x : List ℕ). 92 ∷ c ∷ x) d.is) (inr (inr (c, d.digits, is ∙ ap (λ (n : ℕ). Some n) (sym d.count), d.hex, d.character, refl))) (t.all ∙ d.all) d.quoted
escape_found c cs text rest None (Some character) is letter onward e =
    let t = texted (encode_utf8 character) text rest (double_at cs Text) e in
    double_piece (record { written = 92 ∷ c ∷ []; text = encode_utf8 character }) (92 ∷ c ∷ cs) cs text t.behind rest refl (inr (inl (c, character, letter, refl))) t.all (onward Text t.behind t.is)
escape_found c cs text rest None None is letter onward e = refused text rest (double_at cs) e

-- One digit more.
digit_more : (wanted value c : ℕ) (cs text rest : List ℕ) → is_digit c 16 ≡ true → (d : Digits wanted (16 * value + digit_value c) cs text rest) → Digits (suc wanted) value (c ∷ cs) text rest
digit_more wanted value c cs text rest hex d = record {
  digits = c ∷ d.digits;
  behind = d.behind;
  more = d.more;
  is = ap (λ (x : List ℕ). c ∷ x) d.is;
  count = ap (λ (n : ℕ). suc n) d.count;
  hex = rw hex d.hex;
  character = d.character;
  all = d.all;
  quoted = d.quoted;
}

last_digit : (value c : ℕ) (cs text rest : List ℕ) → is_digit c 16 ≡ true → scalar (16 * value + digit_value c) ≡ true → (t : Texted (encode_utf8 (16 * value + digit_value c)) text rest (double_at cs Text)) → DoubleQuoted cs t.behind rest → Digits 1 value (c ∷ cs) text rest
last_digit value c cs text rest hex is t quoted = record {
  digits = c ∷ [];
  behind = cs;
  more = t.behind;
  is = refl;
  count = refl;
  hex = rw hex refl;
  character = is;
  all = t.all;
  quoted = quoted;
}

hex_found : (wanted value c : ℕ) (cs text rest : List ℕ) (low one is : Bool) → is_digit c 16 ≡ true → eqb wanted 1 ≡ one → scalar (16 * value + digit_value c) ≡ is → 0 < wanted → Onward cs rest
    → continued (cond low (cond one (cond is (turn (encode_utf8 (16 * value + digit_value c)) Text) None) (turn [] (Hex (wanted - 1) (16 * value + digit_value c)))) None) (double_at cs) ≡ found_is text rest → Digits wanted value (c ∷ cs) text rest
hex_found wanted value c cs text rest false one is hex last scalar_is some onward e = refused text rest (double_at cs) e
hex_found wanted value c cs text rest true true true hex last scalar_is some onward e =
    let t = texted (encode_utf8 (16 * value + digit_value c)) text rest (double_at cs Text) e in
    subst (λ (n : ℕ). Digits n value (c ∷ cs) text rest) (sym (eqb-true wanted 1 last)) (last_digit value c cs text rest hex scalar_is t (onward Text t.behind t.is))
hex_found wanted value c cs text rest true true false hex last scalar_is some onward e = refused text rest (double_at cs) e
hex_found wanted value c cs text rest true false is hex last scalar_is some onward e =
    let t = texted [] text rest (double_at cs (Hex (wanted - 1) (16 * value + digit_value c))) e in
    subst (λ (n : ℕ). Digits n value (c ∷ cs) text rest) (whole wanted some)
    (digit_more (wanted - 1) value c cs text rest hex (subst (λ (x : List ℕ). Digits (wanted - 1) (16 * value + digit_value c) cs x rest) (sym t.all) (onward (Hex (wanted - 1) (16 * value + digit_value c)) t.behind t.is (more wanted some last))))
  where
    whole : (n : ℕ) → 0 < n → suc (n - 1) ≡ n
    whole n lt = omega (arith, lt)

    more : (n : ℕ) → 0 < n → eqb n 1 ≡ false → 0 < n - 1
    more zero lt e = absurd (omega (arith, lt))
    more (suc zero) lt e = absurd cc
    more (suc (suc n)) lt e = omega arith

digit_found : (wanted value c : ℕ) (cs text rest : List ℕ) (hex : Bool) → is_digit c 16 ≡ hex → 0 < wanted → Onward cs rest
    → continued (cond hex (hex_turn wanted (16 * value + digit_value c)) None) (double_at cs) ≡ found_is text rest → Digits wanted value (c ∷ cs) text rest
digit_found wanted value c cs text rest true hex some onward e =
    let v = 16 * value + digit_value c in
    hex_found wanted value c cs text rest (ltb v 0x110000) (eqb wanted 1) (scalar v) hex refl refl some onward e
digit_found wanted value c cs text rest false hex some onward e = refused text rest (double_at cs) e

text_or_end : (c : ℕ) (cs text rest : List ℕ) (b : Bool) → eqb c 34 ≡ b → Onward cs rest → cond b (found_is [] cs) (continued (text_turn c cs) (double_at cs)) ≡ found_is text rest → DoubleQuoted (c ∷ cs) text rest
text_or_end c cs text rest true is onward e =
    ([], (ap (λ (x : ℕ). x ∷ cs) (eqb-true c 34 is) ∙ ap (λ (x : List ℕ). 34 ∷ x) (same_rest [] text cs rest e), sym (same_text [] text cs rest e)))
text_or_end c cs text rest false is onward e = text_found c cs text rest (eqb c 92) (is_control (c ∷ cs)) refl refl is onward e

rest_found : (line : List ℕ) (standing : Standing) (text rest : List ℕ) → double_at line standing ≡ found_is text rest → Rest standing line text rest
unfolding found_is
rest_found [] Text text rest e = absurd cc
rest_found [] Backslash text rest e = absurd cc
rest_found [] (Hex wanted value) text rest e = absurd cc
rest_found (c ∷ cs) Text text rest e = text_or_end c cs text rest (eqb c 34) refl (λ standing more h. rest_found cs standing more rest h) e
rest_found (c ∷ cs) Backslash text rest e = escape_found c cs text rest (digits_wanted c) (escaped c) refl refl (λ standing more h. rest_found cs standing more rest h) e
rest_found (c ∷ cs) (Hex wanted value) text rest e =
    λ some. digit_found wanted value c cs text rest (is_digit c 16) refl some (λ standing more h. rest_found cs standing more rest h) e

pub double_found : (line text rest : List ℕ) → double_quoted_at line ≡ found_is text rest → DoubleQuoted line text rest
double_found line text rest e = rest_found line Text text rest e

hex_parts : (a b : Bool) → a && b ≡ true → (a ≡ true) × (b ≡ true)
hex_parts true b e = (refl, e)
hex_parts false b e = absurd cc

-- Digits make no number less.
grown : (value : ℕ) (digits : List ℕ) → value ≤ hex_number value digits
grown value [] = omega arith
grown value (c ∷ cs) = omega (arith, grown (16 * value + digit_value c) cs)

scalar_low : (n : ℕ) → scalar n ≡ true → n < 1114112
scalar_low n e = elim (scalar_cases n e) [ inl low ↦ omega (arith, low) | inr high ↦ high.1 ]

digits_scanned : (c : ℕ) (cs : List ℕ) (value : ℕ) (behind more rest : List ℕ) → all_hex (c ∷ cs) ≡ true → scalar (hex_number value (c ∷ cs)) ≡ true → double_at behind Text ≡ found_is more rest
    → double_at (c ∷ (cs ++ behind)) (Hex (length (c ∷ cs)) value) ≡ found_is (encode_utf8 (hex_number value (c ∷ cs)) ++ more) rest
unfolding found_is
digits_scanned c [] value behind more rest hex character e =
    let v = 16 * value + digit_value c in
    let digit = (hex_parts (is_digit c 16) true hex).0 in
    let low : ltb v 0x110000 ≡ true = lt-ltb v 0x110000 (scalar_low v character) in
    let is : scalar v ≡ true = character in
    let turned : digit_turn 1 value c ≡ turn (encode_utf8 v) Text = rw (digit, is, low) refl in
    ap (λ (t : Option Turn). continued t (double_at behind)) turned
    ∙ text_on (encode_utf8 v) more rest (encode_utf8 v ++ more) (double_at behind Text) e refl
digits_scanned c (d ∷ ds) value behind more rest hex character e =
    let v = 16 * value + digit_value c in
    let p = hex_parts (is_digit c 16) (all_hex (d ∷ ds)) hex in
    let low : ltb v 0x110000 ≡ true = lt-ltb v 0x110000 (omega (arith, grown v (d ∷ ds), scalar_low (hex_number v (d ∷ ds)) character)) in
    let not_last : eqb (length (c ∷ d ∷ ds)) 1 ≡ false = ne_eqb (length (c ∷ d ∷ ds)) 1 (λ is. absurd (omega (arith, is))) in
    let one_less : length (c ∷ d ∷ ds) - 1 ≡ length (d ∷ ds) = omega arith in
    let turned : digit_turn (length (c ∷ d ∷ ds)) value c ≡ turn [] (Hex (length (d ∷ ds)) v) = rw (p.0, low, not_last, one_less) refl in
    ap (λ (t : Option Turn). continued t (double_at (d ∷ (ds ++ behind)))) turned
    ∙ text_on [] (encode_utf8 (hex_number v (d ∷ ds)) ++ more) rest (encode_utf8 (hex_number v (d ∷ ds)) ++ more) (double_at (d ∷ (ds ++ behind)) (Hex (length (d ∷ ds)) v)) (digits_scanned d ds v behind more rest p.1 character e) refl

-- A letter of the table wants no digits.
no_digits : (c character : ℕ) → escaped c ≡ Some character → digits_wanted c ≡ None
no_digits c character e =
    rw (other 0x78 (λ is. absurd (none (sym (ap escaped is) ∙ e))), other 0x75 (λ is. absurd (none (sym (ap escaped is) ∙ e))), other 0x55 (λ is. absurd (none (sym (ap escaped is) ∙ e)))) refl
  where
    none : None ≡ Some character → ⊥
    none e = absurd cc

    other : (n : ℕ) → (c ≡ n → ⊥) → eqb c n ≡ false
    other n ne = ne_eqb c n ne

some_digits : (c : ℕ) (digits : List ℕ) → digits_wanted c ≡ Some (length digits) → (d : ℕ) × ((ds : List ℕ) × (digits ≡ d ∷ ds))
some_digits c [] e = absurd (omega (arith, some_wanted c (length {A = ℕ} []) e))
some_digits c (d ∷ ds) e = (d, (ds, refl))

escape_scanned : (c character : ℕ) (behind more rest : List ℕ) → escaped c ≡ Some character → double_at behind Text ≡ found_is more rest → double_at (92 ∷ c ∷ behind) Text ≡ found_is (encode_utf8 character ++ more) rest
escape_scanned c character behind more rest letter e =
    let escape : escape_turn (digits_wanted c) (escaped c) ≡ turn (encode_utf8 character) Text = rw (no_digits c character letter, letter) refl in
    text_on [] (encode_utf8 character ++ more) rest (encode_utf8 character ++ more) (double_at (c ∷ behind) Backslash)
    (ap (λ (t : Option Turn). continued t (double_at behind)) escape ∙ text_on (encode_utf8 character) more rest (encode_utf8 character ++ more) (double_at behind Text) e refl) refl

hex_scanned : (c : ℕ) (digits behind more rest : List ℕ) → digits_wanted c ≡ Some (length digits) → all_hex digits ≡ true → scalar (hex_number 0 digits) ≡ true → double_at behind Text ≡ found_is more rest
    → double_at (92 ∷ c ∷ (digits ++ behind)) Text ≡ found_is (encode_utf8 (hex_number 0 digits) ++ more) rest
hex_scanned c digits behind more rest wanted hex character e =
    let d = some_digits c digits wanted in
    let escape : escape_turn (digits_wanted c) (escaped c) ≡ turn [] (Hex (length digits) 0) = rw wanted refl in
    let within = λ (x : List ℕ). double_at (x ++ behind) (Hex (length x) 0) ≡ found_is (encode_utf8 (hex_number 0 x) ++ more) rest in
    let found : within digits =
    subst within (sym d.1.1) (digits_scanned d.0 d.1.0 0 behind more rest (sym (ap all_hex d.1.1) ∙ hex) (sym (ap (λ (x : List ℕ). scalar (hex_number 0 x)) d.1.1) ∙ character) e) in
    text_on [] (encode_utf8 (hex_number 0 digits) ++ more) rest (encode_utf8 (hex_number 0 digits) ++ more) (double_at (c ∷ (digits ++ behind)) Backslash)
    (ap (λ (t : Option Turn). continued t (double_at (digits ++ behind))) escape
    ∙ text_on [] (encode_utf8 (hex_number 0 digits) ++ more) rest (encode_utf8 (hex_number 0 digits) ++ more) (double_at (digits ++ behind) (Hex (length digits) 0)) found refl) refl

double_pieces : (ps : List Piece) (line text rest : List ℕ) → Pieces DoublePiece 34 ps line text rest → double_at line Text ≡ found_is text rest
unfolding found_is
double_pieces [] line text rest (is, none) = ap (λ (x : List ℕ). double_at x Text) is ∙ ap (λ (x : List ℕ). found_is x rest) (sym none)
double_pieces (p ∷ ps) line text rest (behind, more, is, may, all, pieces) = from may (double_pieces ps behind more rest pieces)
  where
    from : DoublePiece p behind → double_at behind Text ≡ found_is more rest → double_at line Text ≡ found_is text rest
    from (inl (c, other, slash, clean, piece)) h =
        let scanned : double_at (c ∷ behind) Text ≡ with_text (c ∷ []) (double_at behind Text) = rw (other, slash, clean) refl in
        ap (λ (x : List ℕ). double_at x Text) (is ∙ ap (λ (q : Piece). q.written ++ behind) piece)
        ∙ scanned ∙ text_on (c ∷ []) more rest text (double_at behind Text) h (all ∙ ap (λ (q : Piece). q.text ++ more) piece)
    from (inr (inl (c, character, letter, piece))) h =
        ap (λ (x : List ℕ). double_at x Text) (is ∙ ap (λ (q : Piece). q.written ++ behind) piece)
        ∙ escape_scanned c character behind more rest letter h ∙ ap (λ (x : List ℕ). found_is x rest) (sym (all ∙ ap (λ (q : Piece). q.text ++ more) piece))
    from (inr (inr (c, digits, wanted, hex, character, piece))) h =
        ap (λ (x : List ℕ). double_at x Text) (is ∙ ap (λ (q : Piece). q.written ++ behind) piece)
        ∙ hex_scanned c digits behind more rest wanted hex character h ∙ ap (λ (x : List ℕ). found_is x rest) (sym (all ∙ ap (λ (q : Piece). q.text ++ more) piece))

pub double_scanned : (line text rest : List ℕ) → DoubleQuoted line text rest → double_quoted_at line ≡ found_is text rest
double_scanned line text rest (ps, pieces) = double_pieces ps line text rest pieces
