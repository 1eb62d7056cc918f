-- Quoted scalars of one line (YAML 1.2.2, sections 7.3.1, 7.3.2 and 5.7): pieces in a row, and the closing quote.
use Rattle.std.specs.Prelude.{◌≡◌, ℕ, ◌+◌, ◌*◌, List, [], ◌∷◌, ◌++◌, length, Bool, true, false, ◌==◌, ◌&&◌, ◌⊎◌, if◌then◌else◌, Option, Some, None}
use Rattle.std.specs.Char.{encode_utf8, digit_value, is_digit}
use lib.Utf8.{scalar}
use Rattle.yaml_scan.specs.Bytes.{upper_u, lower_x, lower_u, double_quote, single_quote, backslash, is_control}

-- The character that a byte stands for behind a backslash (productions [42] to [58]): 0, a, b, t, n, v, f, r, e, a
-- space, a double quote, a slash, a backslash, N, _, L and P.
abbrev pub escaped : ℕ → Option ℕ
escaped c =
    if c == 0x30 then Some 0x00
    else if c == 0x61 then Some 0x07
    else if c == 0x62 then Some 0x08
    else if c == 0x74 then Some 0x09
    else if c == 0x6e then Some 0x0a
    else if c == 0x76 then Some 0x0b
    else if c == 0x66 then Some 0x0c
    else if c == 0x72 then Some 0x0d
    else if c == 0x65 then Some 0x1b
    else if c == 0x20 then Some 0x20
    else if c == 0x22 then Some 0x22
    else if c == 0x2f then Some 0x2f
    else if c == 0x5c then Some 0x5c
    else if c == 0x4e then Some 0x85
    else if c == 0x5f then Some 0xa0
    else if c == 0x4c then Some 0x2028
    else if c == 0x50 then Some 0x2029
    else None

-- How many hex digits a letter wants behind a backslash (productions [59] to [61]).
abbrev pub digits_wanted : ℕ → Option ℕ
digits_wanted c =
    if c == lower_x then Some 2
    else if c == lower_u then Some 4
    else if c == upper_u then Some 8
    else None

abbrev pub all_hex : List ℕ → Bool
all_hex [] = true
all_hex (c ∷ cs) = is_digit c 16 && all_hex cs

-- the number of hex digits, behind those that made a value
abbrev pub hex_number : ℕ → List ℕ → ℕ
hex_number value [] = value
hex_number value (c ∷ cs) = hex_number (16 * value + digit_value c) cs

-- a piece as it is written, and the text that it stands for
pub record Piece : Type 0 where
  pub written : List ℕ
  pub text : List ℕ

-- A byte that stands for itself. Characters are told byte by byte: where a control character begins none may stand.
abbrev pub itself : ℕ → Piece
itself c = record { written = c ∷ []; text = c ∷ [] }

-- In front of the rest of a line: a character that is no quote, or two quotes, which are one ([118] nb-single-char).
abbrev pub SinglePiece : Piece → List ℕ → Type 0
SinglePiece p behind =
    ((c : ℕ) × ((c == single_quote) ≡ false) × (is_control (c ∷ behind) ≡ false) × (p ≡ itself c))
    ⊎ (p ≡ record { written = single_quote ∷ single_quote ∷ []; text = single_quote ∷ [] })

-- In front of the rest of a line: a character that is neither a quote nor a backslash, a backslash and a letter of the
-- table, or a backslash, one of x, u and U, and two, four or eight hex digits of a Unicode scalar value ([107]
-- nb-double-char, [62] c-ns-esc-char).
abbrev pub DoublePiece : Piece → List ℕ → Type 0
DoublePiece p behind =
    ((c : ℕ) × ((c == double_quote) ≡ false) × ((c == backslash) ≡ false) × (is_control (c ∷ behind) ≡ false)
    × (p ≡ itself c))
    ⊎ ((c character : ℕ) × (escaped c ≡ Some character)
    × (p ≡ record { written = backslash ∷ c ∷ []; text = encode_utf8 character }))
    ⊎ ((c : ℕ) × (digits : List ℕ) × (digits_wanted c ≡ Some (length digits)) × (all_hex digits ≡ true)
    × (scalar (hex_number 0 digits) ≡ true)
    × (p ≡ record { written = backslash ∷ c ∷ digits; text = encode_utf8 (hex_number 0 digits) }))

-- Pieces of a kind in a row, and a quote behind them: the line that they begin, the text that they stand for, and the
-- rest of the line.
abbrev pub Pieces : (Piece → List ℕ → Type 0) → ℕ → List Piece → List ℕ → List ℕ → List ℕ → Type 0
Pieces IsPiece quote [] line text rest = (line ≡ quote ∷ rest) × (text ≡ [])
Pieces IsPiece quote (p ∷ ps) line text rest =
    (behind more : List ℕ) × (line ≡ p.written ++ behind) × IsPiece p behind × (text ≡ p.text ++ more)
    × Pieces IsPiece quote ps behind more rest

abbrev pub begins_quote : List ℕ → Bool
begins_quote [] = false
begins_quote (c ∷ cs) = c == single_quote

-- Behind an opening quote: the line, the scalar's text, and the rest of the line behind the closing quote
-- ([120] c-single-quoted).
abbrev pub SingleQuoted : List ℕ → List ℕ → List ℕ → Type 0
SingleQuoted line text rest =
    (ps : List Piece) × Pieces SinglePiece single_quote ps line text rest × (begins_quote rest ≡ false)

-- The same of double quotes ([109] c-double-quoted).
abbrev pub DoubleQuoted : List ℕ → List ℕ → List ℕ → Type 0
DoubleQuoted line text rest = (ps : List Piece) × Pieces DoublePiece double_quote ps line text rest
