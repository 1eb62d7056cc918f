-- Scalars and keys where they stand in the lines of what is written.
use Rattle.std.proofs.Common.{◌≡◌, ℕ, ◌+◌, ◌/◌, ◌%◌, List, [], ◌∷◌, ◌++◌, length, drop, Bool, true, false, cond, ◌&&◌, ◌||◌, nat_lt, eqb, flat_map, IsUtf8, Option, inl, inr, Ok, refl, sym, ap, ◌∙◌, subst, arith}
use Rattle.std.specs.List.{list_any, list_all}
use Rattle.std.specs.Prelude.{encode_utf8}
use Rattle.std.specs.Str.{chars}
use Rattle.std.proofs.lemmas.Bool.{cases_Bool, cases_lt, ne_eqb, eqb-true, le-ltb, lt-ltb}
use Rattle.yaml_scan.specs.Bytes.{is_gap, whites}
use Rattle.yaml_scan.specs.Block.{is_deeper}
use Rattle.yaml_small.specs.Trees.{Scalar, Leaf}
use Rattle.yaml_small.specs.Places.{At, past, over, next_at, at_mark}
use Rattle.yaml_small.specs.Scalars.{scalar_token_at}
use Rattle.yaml_small.specs.Grammar.{IsKey, Inline}
use Rattle.yaml_small.specs.ScalarLaws.{token_form}
use Rattle.yaml_text.specs.Texts.{is_escaped, hex_digit, hex_pair, escape, double_char, single_char, quoted_char, quoted_in, is_double, quoted, quoted_style, is_block, text_at, text_style}
use Rattle.yaml_text.specs.Written.{plain_scalar}
use Rattle.yaml_text.proofs.Quotes.{NoQuote}
use Rattle.yaml_text.proofs.BlockText.{or_parts}
use Rattle.yaml_text.proofs.BlockShape.{char_inline}
use Rattle.yaml_text.proofs.Lines.{and_parts, is_inline, is_inline_byte, line_of, later_of, line_of-append, later_of-append, IsBreak, line_of-break, at_text, after}
use Rattle.yaml_text.proofs.ScalarTokens.{is_token, token_is, EndsPlain, plain_scalar_token, quoted_at_scalar_token}
use Rattle.yaml_text.proofs.Plain.{PlainText}
use Rattle.yaml_text.proofs.Blocks.{Shallow}
use Rattle.yaml_text.proofs.Texts.{block_read}

-- words end no line
pub tokens_inline : (w : List ℕ) → list_all is_token w ≡ true → is_inline w ≡ true
tokens_inline [] e = refl
tokens_inline (c ∷ cs) e =
    let p = and_parts (is_token c) (list_all is_token cs) e in
    let t = token_is c p.0 in
    rw (ne_eqb c 10 (λ f. omega (arith, t.low)), ne_eqb c 13 (λ f. omega (arith, t.low))) (tokens_inline cs p.1)

inline_both : (xs ys : List ℕ) → is_inline xs ≡ true → is_inline ys ≡ true → is_inline (xs ++ ys) ≡ true
inline_both [] ys e f = f
inline_both (x ∷ xs) ys e f = let p = and_parts (is_inline_byte x) (is_inline xs) e in rw p.0 (inline_both xs ys p.1 f)

digit_inline : (d : ℕ) → is_inline_byte (hex_digit d) ≡ true
digit_inline d = elim (cases_lt d 10) [
  | inl low ↦ rw (lt-ltb d 10 low, ne_eqb (48 + d) 10 (λ e. omega arith), ne_eqb (48 + d) 13 (λ e. omega arith)) refl
  | inr high ↦ rw (le-ltb d 10 high, ne_eqb (55 + d) 10 (λ e. omega arith), ne_eqb (55 + d) 13 (λ e. omega arith)) refl
]

pair_inline : (n : ℕ) → is_inline (hex_pair n) ≡ true
pair_inline n = rw (digit_inline (n / 16), digit_inline (n % 16)) refl

escape_inline : (c : ℕ) → is_inline (escape c) ≡ true
escape_inline c = either (eqb c 10) (eqb c 13) (eqb c 9) (nat_lt c 0x100)
  where
    either : (a b d e : Bool)
        → is_inline (cond a (92 ∷ 110 ∷ []) (cond b (92 ∷ 114 ∷ []) (cond d (92 ∷ 116 ∷ []) (cond e (92 ∷ 120 ∷ hex_pair c) ((92 ∷ 117 ∷ hex_pair (c / 0x100)) ++ hex_pair (c % 0x100)))))) ≡ true
    either true b d e = refl
    either false true d e = refl
    either false false true e = refl
    either false false false true = pair_inline c
    either false false false false = inline_both (92 ∷ 117 ∷ hex_pair (c / 0x100)) (hex_pair (c % 0x100)) (pair_inline (c / 0x100)) (pair_inline (c % 0x100))

no_feed : (c : ℕ) → is_escaped c ≡ false → eqb c 10 ≡ false
no_feed c plain = elim (cases_Bool (eqb c 10)) [
  | inl is ↦ let e : true ≡ false = sym (ap is_escaped (eqb-true c 10 is)) ∙ plain in absurd cc
  | inr other ↦ other
]

double_inline : (c : ℕ) → is_inline (double_char c) ≡ true
double_inline c = elim (cases_Bool (is_escaped c)) [
  | inl is ↦ rw is (either (eqb c 34) (eqb c 92) (escape c) (escape_inline c))
  | inr plain ↦ rw plain (either (eqb c 34) (eqb c 92) (encode_utf8 c) (char_inline c plain (no_feed c plain)))
]
  where
    either : (a b : Bool) (bs : List ℕ) → is_inline bs ≡ true → is_inline (cond a (92 ∷ 34 ∷ []) (cond b (92 ∷ 92 ∷ []) bs)) ≡ true
    either true b bs e = refl
    either false true bs e = refl
    either false false bs e = e

single_inline : (c : ℕ) → is_escaped c ≡ false → is_inline (single_char c) ≡ true
single_inline c plain = either (eqb c 39) (encode_utf8 c) (char_inline c plain (no_feed c plain))
  where
    either : (a : Bool) (bs : List ℕ) → is_inline bs ≡ true → is_inline (cond a (39 ∷ 39 ∷ []) bs) ≡ true
    either true bs e = refl
    either false bs e = e

doubles_inline : (cs : List ℕ) → is_inline (flat_map (quoted_char true) cs) ≡ true
doubles_inline [] = refl
doubles_inline (c ∷ cs) = inline_both (double_char c) (flat_map (quoted_char true) cs) (double_inline c) (doubles_inline cs)

singles_inline : (cs : List ℕ) → list_any is_escaped cs ≡ false → is_inline (flat_map (quoted_char false) cs) ≡ true
singles_inline [] e = refl
singles_inline (c ∷ cs) e =
    let p = or_parts (is_escaped c) (list_any is_escaped cs) e in
    inline_both (single_char c) (flat_map (quoted_char false) cs) (single_inline c p.0) (singles_inline cs p.1)

quoted_in_inline : (double : Bool) (text : List ℕ) → is_double text ≡ double → is_inline (quoted_in double text) ≡ true
unfolding is_double
quoted_in_inline true text e = inline_both (flat_map (quoted_char true) (chars text)) (34 ∷ []) (doubles_inline (chars text)) refl
quoted_in_inline false text e = inline_both (flat_map (quoted_char false) (chars text)) (39 ∷ []) (singles_inline (chars text) e) refl

pub quoted_inline : (text : List ℕ) → is_inline (quoted text) ≡ true
unfolding quoted
quoted_inline text = quoted_in_inline (is_double text) text refl

-- a word that was read from its text, with the place behind it
pub record Reads (w : List ℕ) (s : Scalar) (a : At) : Type 0 where
  pub is : scalar_token_at false a ≡ Ok (record { scalar = s; end = past (length w) a })

drop_front : (xs ys : List ℕ) → drop (length xs) (xs ++ ys) ≡ ys
drop_front [] ys = refl
drop_front (x ∷ xs) ys = drop_front xs ys

-- a word alone on its line
pub scalar_token_inline : (parent : Option ℕ) (w : List ℕ) (s : Scalar) (col : ℕ) (k : List ℕ) → is_inline w ≡ true → IsBreak k → Reads w s (at_text col (w ++ k))
    → Inline parent (Leaf s) (at_text col (w ++ k)) (after k)
scalar_token_inline parent w s col k inline break r =
    let a = at_text col (w ++ k) in
    let rest : drop (length w) (line_of (w ++ k)) ≡ [] =
    ap (drop (length w)) (line_of-append w k inline) ∙ drop_front w (line_of k) ∙ line_of-break k break in
    inl (past (length w) a, token_form false a (record { scalar = s; end = past (length w) a }) r.is, record { ends = rw rest refl; next = ap next_at (sym (later_of-append w k inline)) })

-- a plain text at a place
plain_mark : (w : List ℕ) (col : ℕ) (text : List ℕ) → PlainText w → at_mark (at_text col (w ++ text)) ≡ false
plain_mark w col text p =
    rw (line_of-append w text (tokens_inline w p.tokens), p.dashes (line_of text), p.dots (line_of text)) (none (eqb col 0))
  where
    none : (b : Bool) → (b && false) || (b && false) ≡ false
    none true = refl
    none false = refl

pub plain_reads : (w : List ℕ) (col : ℕ) (text : List ℕ) → PlainText w → EndsPlain (line_of text) → Reads w (plain_scalar w) (at_text col (w ++ text))
plain_reads w col text p end = record {
  is = plain_scalar_token w (line_of text) (at_text col (w ++ text)) p.tokens (p.begin (line_of text)) (plain_mark w col text p) end
      (line_of-append w text (tokens_inline w p.tokens)) (p.single (line_of text)) (p.double (line_of text));
}

pub plain_leaf : (parent : Option ℕ) (w : List ℕ) (col : ℕ) (k : List ℕ) → PlainText w → IsBreak k → Inline parent (Leaf (plain_scalar w)) (at_text col (w ++ k)) (after k)
plain_leaf parent w col k p break =
    scalar_token_inline parent w (plain_scalar w) col k (tokens_inline w p.tokens) break (plain_reads w col k p (rw (line_of-break k break) (λ white. refl)))

-- a text in quotes at a place
pub quoted_reads : (text : List ℕ) (col : ℕ) (rest : List ℕ) → IsUtf8 text → NoQuote (line_of rest)
    → Reads (quoted text) (record { text = text; style = quoted_style text }) (at_text col (quoted text ++ rest))
quoted_reads text col rest utf8 behind = record {
  is = quoted_at_scalar_token text (line_of rest) (at_text col (quoted text ++ rest)) utf8 behind (line_of-append (quoted text) rest (quoted_inline text));
}

-- a text that is no key
pub text_leaf : (level col : ℕ) (parent : Option ℕ) (text k : List ℕ) → IsUtf8 text → IsBreak k → Shallow (level + 2) (later_of k) → is_deeper parent (level + 2) ≡ true
    → Inline parent (Leaf (record { text = text; style = text_style text })) (at_text col (text_at level text ++ k)) (after k)
unfolding text_at text_style
text_leaf level col parent text k utf8 break shallow deep = elim (cases_Bool (is_block text)) [
  | inl is ↦ rw is (inr (block_read level col text parent k utf8 is break shallow deep))
  | inr other ↦ rw other
      (scalar_token_inline parent (quoted text) (record { text = text; style = quoted_style text }) col k (quoted_inline text) break
      (quoted_reads text col k utf8 (rw (line_of-break k break) tt)))
]

-- A key before its colon, and the place behind that.
pub record KeyAt (s : Scalar) (a : At) (line : List ℕ) (later : List (List ℕ)) : Type 0 where
  pub end : At
  pub is : IsKey s a end
  pub line_is : end.line ≡ line
  pub later_is : end.later ≡ later

colon_follows : (w : List ℕ) (s : Scalar) (a : At) (line : List ℕ) → Reads w s a → drop (length w) a.line ≡ 58 ∷ line → is_gap line ≡ true → KeyAt s a line a.later
colon_follows w s a line r here gap =
    let e = past (length w) a in
    let white : whites e.line ≡ 0 = rw here refl in
    let over_line : drop (whites e.line) e.line ≡ 58 ∷ line = rw (white, here) refl in
    record {
      end = past 1 (over e);
      is = (e, token_form false a (record { scalar = s; end = e }) r.is, rw (over_line, gap) refl, refl);
      line_is = rw over_line refl;
      later_is = refl;
    }

-- a word and a colon before a gap
pub scalar_token_key : (w : List ℕ) (s : Scalar) (col : ℕ) (rest : List ℕ) → is_inline w ≡ true → is_gap (line_of rest) ≡ true → Reads w s (at_text col (w ++ (58 ∷ rest)))
    → KeyAt s (at_text col (w ++ (58 ∷ rest))) (line_of rest) (later_of rest)
scalar_token_key w s col rest inline gap r =
    let colon : line_of (58 ∷ rest) ≡ 58 ∷ line_of rest = line_of-append (58 ∷ []) rest refl in
    let behind : later_of (58 ∷ rest) ≡ later_of rest = later_of-append (58 ∷ []) rest refl in
    let here = ap (drop (length w)) (line_of-append w (58 ∷ rest) inline) ∙ drop_front w (line_of (58 ∷ rest)) ∙ colon in
    let k = colon_follows w s (at_text col (w ++ (58 ∷ rest))) (line_of rest) r here gap in
    record { end = k.end; is = k.is; line_is = k.line_is; later_is = k.later_is ∙ later_of-append w (58 ∷ rest) inline ∙ behind }

ends_colon : (line : List ℕ) → is_gap line ≡ true → EndsPlain (58 ∷ line)
ends_colon line gap white = rw gap refl

pub name_key : (name : List ℕ) (col : ℕ) (rest : List ℕ) → PlainText name → is_gap (line_of rest) ≡ true
    → KeyAt (plain_scalar name) (at_text col (name ++ (58 ∷ rest))) (line_of rest) (later_of rest)
name_key name col rest p gap =
    let colon : line_of (58 ∷ rest) ≡ 58 ∷ line_of rest = line_of-append (58 ∷ []) rest refl in
    scalar_token_key name (plain_scalar name) col rest (tokens_inline name p.tokens) gap
    (plain_reads name col (58 ∷ rest) p (subst EndsPlain (sym colon) (ends_colon (line_of rest) gap)))

pub quoted_key : (key : List ℕ) (col : ℕ) (rest : List ℕ) → IsUtf8 key → is_gap (line_of rest) ≡ true
    → KeyAt (record { text = key; style = quoted_style key }) (at_text col (quoted key ++ (58 ∷ rest))) (line_of rest) (later_of rest)
quoted_key key col rest utf8 gap =
    let colon : line_of (58 ∷ rest) ≡ 58 ∷ line_of rest = line_of-append (58 ∷ []) rest refl in
    scalar_token_key (quoted key) (record { text = key; style = quoted_style key }) col rest (quoted_inline key) gap
    (quoted_reads key col (58 ∷ rest) utf8 (subst NoQuote (sym colon) refl))
