-- Scalars on one line: quoted texts, and plain texts of bytes that end no plain scalar.
use Rattle.std.proofs.Common.{◌≡◌, ℕ, zero, suc, ◌-◌, ◌<◌, List, [], ◌∷◌, ◌++◌, length, take, Bool, true, false, not, cond, ◌&&◌, nat_lt, eqb, flat_map, IsUtf8, Ok, refl, sym, ap, ap₂, ◌∙◌, subst, append_assoc, length-append, arith}
use Rattle.std.specs.List.{list_all}
use Rattle.std.specs.Str.{chars}
use Rattle.std.proofs.lemmas.Bool.{ne_eqb, ltb-true, le-ltb}
use Rattle.std.proofs.lemmas.Str.{encodes-chars, scalars-chars}
use Rattle.yaml_scan.specs.Bytes.{is_white, is_control, is_control_byte}
use Rattle.yaml_scan.specs.Plain.{begins_plain, with_byte, plain_len}
use Rattle.yaml_scan.specs.QuotedScan.{single_at, double_quoted_at}
use Rattle.yaml_small.specs.declared.event.Style.TheVariants as styles
use Rattle.yaml_small.specs.Places.{At, past, begins, at_mark}
use Rattle.yaml_small.specs.Scalars.{scalar_token, scalar_token_at, plain_at, quoted_at}
use Rattle.yaml_text.specs.Texts.{is_double, quoted, quoted_in, quoted_char, quoted_style}
use Rattle.yaml_text.proofs.Quotes.{NoQuote, single_read, double_read}
use Rattle.yaml_text.proofs.Lines.{and_parts, not_true}

-- the place behind a word that stands on the line with this behind it
abbrev pub behind_scalar_token : List ℕ → At → At
behind_scalar_token w a = past (length w) a

lengths : (w rest : List ℕ) → length (w ++ rest) - length rest ≡ length w
lengths w rest = omega (arith, length-append w rest)

single_found : (text rest : List ℕ) → IsUtf8 text → is_double text ≡ false → NoQuote rest
    → single_at ((flat_map (quoted_char false) (chars text) ++ (39 ∷ [])) ++ rest) ≡ Ok (text, rest)
unfolding is_double
single_found text rest utf8 is behind =
    rw append_assoc
    (single_read (chars text) rest is behind ∙ ap (λ (xs : List ℕ). Ok (xs, rest)) (encodes-chars text utf8))

double_found : (text rest : List ℕ) → IsUtf8 text → double_quoted_at ((flat_map (quoted_char true) (chars text) ++ (34 ∷ [])) ++ rest) ≡ Ok (text, rest)
double_found text rest utf8 =
    rw append_assoc
    (double_read (chars text) rest (scalars-chars text utf8) ∙ ap (λ (xs : List ℕ). Ok (xs, rest)) (encodes-chars text utf8))

abbrev at : At → List ℕ → At
at a line = record { col = a.col; line = line; later = a.later }

quoted_scalar_token : (double : Bool) (text rest : List ℕ) (a : At) → IsUtf8 text → is_double text ≡ double → NoQuote rest
    → scalar_token_at false (at a (quoted_in double text ++ rest))
    ≡ Ok (scalar_token text (cond double styles.DoubleQuoted styles.SingleQuoted) (past (length (quoted_in double text)) (at a (quoted_in double text ++ rest))))
unfolding scalar_token_at quoted_at
quoted_scalar_token true text rest a utf8 is behind =
    rw (double_found text rest utf8) (ap (λ (n : ℕ). Ok (scalar_token text styles.DoubleQuoted (past n (at a (quoted_in true text ++ rest))))) (lengths (quoted_in true text) rest))
quoted_scalar_token false text rest a utf8 is behind =
    rw (single_found text rest utf8 is behind) (ap (λ (n : ℕ). Ok (scalar_token text styles.SingleQuoted (past n (at a (quoted_in false text ++ rest))))) (lengths (quoted_in false text) rest))

-- a text in quotes, before anything but a single quote
pub quoted_at_scalar_token : (text rest : List ℕ) (a : At) → IsUtf8 text → NoQuote rest → a.line ≡ quoted text ++ rest
    → scalar_token_at false a ≡ Ok (scalar_token text (quoted_style text) (past (length (quoted text)) a))
unfolding quoted
quoted_at_scalar_token text rest a utf8 behind line =
    let P : List ℕ → Type 0 = λ l. scalar_token_at false (at a l) ≡ Ok (scalar_token text (quoted_style text) (past (length (quoted_in (is_double text) text)) (at a l))) in
    subst P (sym line) (quoted_scalar_token (is_double text) text rest a utf8 refl behind)

-- bytes of plain texts: printable ASCII but # and :
abbrev pub is_token : ℕ → Bool
is_token c = nat_lt 32 c && nat_lt c 127 && not (eqb c 35) && not (eqb c 58)

pub record Token (c : ℕ) : Type 0 where
  pub low : 32 < c
  pub high : c < 127
  pub hash : eqb c 35 ≡ false
  pub colon : eqb c 58 ≡ false

pub token_is : (c : ℕ) → is_token c ≡ true → Token c
token_is c e =
    let p = and_parts (nat_lt 32 c && nat_lt c 127 && not (eqb c 35)) (not (eqb c 58)) e in
    let q = and_parts (nat_lt 32 c && nat_lt c 127) (not (eqb c 35)) p.0 in
    let r = and_parts (nat_lt 32 c) (nat_lt c 127) q.0 in
    record { low = ltb-true 32 c r.0; high = ltb-true c 127 r.1; hash = not_true (eqb c 35) q.1; colon = not_true (eqb c 58) p.1 }

pub token_clean : (c : ℕ) (cs : List ℕ) → Token c → is_control (c ∷ cs) ≡ false
token_clean c [] t = clean_byte c t
  where
    clean_byte : (c : ℕ) → Token c → is_control_byte c ≡ false
    clean_byte c t = rw (le-ltb c 32 (omega (arith, t.low)), ne_eqb c 127 (λ e. omega (arith, t.high))) refl
token_clean c (d ∷ ds) t = rw (le-ltb c 32 (omega (arith, t.low)), ne_eqb c 127 (λ e. omega (arith, t.high)), ne_eqb c 194 (λ e. omega (arith, t.high))) refl

pub token_white : (c : ℕ) → Token c → is_white c ≡ false
token_white c t = rw (ne_eqb c 32 (λ e. omega (arith, t.low)), ne_eqb c 9 (λ e. omega (arith, t.low))) refl

with_token : (c n : ℕ) → Token c → with_byte c n ≡ suc n
with_token c zero t = rw (token_white c t) refl
with_token c (suc n) t = refl

-- a plain scalar ends here, behind white space or not
abbrev pub EndsPlain : List ℕ → Type 0
EndsPlain rest = (white : Bool) → plain_len false white rest ≡ 0

plain_tokens : (w rest : List ℕ) (white : Bool) → list_all is_token w ≡ true → EndsPlain rest → plain_len false white (w ++ rest) ≡ length w
plain_tokens [] rest white e end = end white
plain_tokens (c ∷ cs) rest white e end =
    let p = and_parts (is_token c) (list_all is_token cs) e in
    let t = token_is c p.0 in
    rw (t.hash, t.colon, token_clean c (cs ++ rest) t) (with_token c _ t ∙ ap suc (plain_tokens cs rest (is_white c) p.1 end))

take_front : (xs ys : List ℕ) → take (length xs) (xs ++ ys) ≡ xs
take_front [] ys = refl
take_front (x ∷ xs) ys = ap (λ (zs : List ℕ). x ∷ zs) (take_front xs ys)

plain_at_line : (w rest : List ℕ) (a : At) → list_all is_token w ≡ true → begins_plain false (w ++ rest) ≡ true → at_mark (at a (w ++ rest)) ≡ false
    → EndsPlain rest → begins 39 (w ++ rest) ≡ false → begins 34 (w ++ rest) ≡ false
    → scalar_token_at false (at a (w ++ rest)) ≡ Ok (scalar_token w styles.Plain (past (length w) (at a (w ++ rest))))
unfolding scalar_token_at plain_at
plain_at_line w rest a tokens begin mark end single double =
    rw (single, double, mark, begin)
    (ap₂ (λ (n : ℕ) (xs : List ℕ). Ok (scalar_token xs styles.Plain (past n (at a (w ++ rest))))) (plain_tokens w rest false tokens end)
    (ap (λ (n : ℕ). take n (w ++ rest)) (plain_tokens w rest false tokens end) ∙ take_front w rest))

-- a plain text, before what ends it
pub plain_scalar_token : (w rest : List ℕ) (a : At) → list_all is_token w ≡ true → begins_plain false (w ++ rest) ≡ true → at_mark a ≡ false
    → EndsPlain rest → a.line ≡ w ++ rest → begins 39 (w ++ rest) ≡ false → begins 34 (w ++ rest) ≡ false
    → scalar_token_at false a ≡ Ok (scalar_token w styles.Plain (past (length w) a))
plain_scalar_token w rest a tokens begin mark end line single double =
    let P : List ℕ → Type 0 = λ l. scalar_token_at false (at a l) ≡ Ok (scalar_token w styles.Plain (past (length w) (at a l))) in
    let Q : List ℕ → Type 0 = λ l. at_mark (at a l) ≡ false in
    subst P (sym line) (plain_at_line w rest a tokens begin (subst Q line mark) end single double)
