-- How a quoted scalar is found, byte by byte, and why none is. What is found is what specs/Quoted says: QuotedLaws.
use Rattle.std.specs.Prelude.{ℕ, ◌+◌, ◌*◌, ◌-◌, List, [], ◌∷◌, ◌++◌, Bool, false, nat_lt, ◌==◌, if◌then◌else◌, Option, Some, None, Result, Ok, Err}
use Rattle.std.specs.Char.{encode_utf8, digit_value, is_digit}
use lib.Utf8.{scalar}
use Rattle.warg_values.specs.Reading.{◌>>=◌}
use Rattle.yaml_scan.specs.Bytes.{double_quote, single_quote, backslash, is_control}
use Rattle.yaml_scan.specs.Quoted.{escaped, digits_wanted}

-- Why no quoted scalar stands here: the line ends before it does, or a character is not allowed.
pub data Flaw : Type 0 where
  Open : Flaw
  Bad : Flaw

-- the text of a quoted scalar, and what stands behind its closing quote
abbrev pub Found : Type 0
Found = Result (List ℕ × List ℕ) Flaw

abbrev pub with_text : List ℕ → Found → Found
with_text text found = found >>= λ f. Ok (text ++ f.0, f.1)

-- Single quotes: two quotes are one.
abbrev pub single_at : List ℕ → Found
single_at [] = Err Open
single_at (c ∷ []) =
    if c == single_quote then Ok ([], [])
    else if is_control (c ∷ []) then Err Bad
    else Err Open
single_at (c ∷ d ∷ cs) =
    if c == single_quote then
    (if d == single_quote then with_text (single_quote ∷ []) (single_at cs) else Ok ([], d ∷ cs))
    else if is_control (c ∷ d ∷ cs) then Err Bad
    else with_text (c ∷ []) (single_at (d ∷ cs))

-- Where in a double-quoted scalar a byte stands: in its text, behind a backslash, or where so many hex digits more are
-- wanted, behind those that made a value.
pub data Standing : Type 0 where
  Text : Standing
  Backslash : Standing
  Hex : ℕ → ℕ → Standing

-- What a byte of a double-quoted scalar gives, and where the next one stands; nothing, where it can't stand there.
-- A backslash begins an escape, which stands for one character.
pub record Turn : Type 0 where
  pub text : List ℕ
  pub next : Standing

abbrev pub turn : List ℕ → Standing → Option Turn
turn text next = Some (record { text = text; next = next })

abbrev pub text_turn : ℕ → List ℕ → Option Turn
text_turn c cs =
    if c == backslash then turn [] Backslash
    else if is_control (c ∷ cs) then None
    else turn (c ∷ []) Text

abbrev pub escape_turn : Option ℕ → Option ℕ → Option Turn
escape_turn (Some wanted) character = turn [] (Hex wanted 0)
escape_turn None (Some character) = turn (encode_utf8 character) Text
escape_turn None None = None

-- The number is at most that of the last character, and with the last digit it is a character.
abbrev pub hex_turn : ℕ → ℕ → Option Turn
hex_turn wanted value =
    if nat_lt value 0x110000 then
    (if wanted == 1 then (if scalar value then turn (encode_utf8 value) Text else None)
    else turn [] (Hex (wanted - 1) value))
    else None

abbrev pub digit_turn : ℕ → ℕ → ℕ → Option Turn
digit_turn wanted value c = if is_digit c 16 then hex_turn wanted (16 * value + digit_value c) else None

abbrev pub turn_at : Standing → ℕ → List ℕ → Option Turn
turn_at Text c cs = text_turn c cs
turn_at Backslash c cs = escape_turn (digits_wanted c) (escaped c)
turn_at (Hex wanted value) c cs = digit_turn wanted value c

abbrev pub next_of : Option Turn → Option Standing
next_of None = None
next_of (Some t) = Some t.next

abbrev pub text_of : Option Turn → List ℕ
text_of None = []
text_of (Some t) = t.text

abbrev pub continued : Option Turn → (Standing → Found) → Found
continued None f = Err Bad
continued (Some t) f = with_text t.text (f t.next)

abbrev pub closes : Standing → ℕ → Bool
closes Text c = c == double_quote
closes Backslash c = false
closes (Hex wanted value) c = false

-- A scalar that its line cuts off is open, but for a cut number, which is bad.
abbrev pub cut_off : Standing → Flaw
cut_off Text = Open
cut_off Backslash = Open
cut_off (Hex wanted value) = Bad

-- Double quotes, behind the opening one or further in.
abbrev pub double_at : List ℕ → Standing → Found
double_at [] standing = Err (cut_off standing)
double_at (c ∷ cs) standing =
    if closes standing c then Ok ([], cs) else continued (turn_at standing c cs) (double_at cs)

-- Double quotes, behind the opening one.
abbrev pub double_quoted_at : List ℕ → Found
double_quoted_at line = double_at line Text
