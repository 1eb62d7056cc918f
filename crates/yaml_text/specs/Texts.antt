-- How texts are written: in quotes, or as the lines of a block (YAML 1.2.2, sections 5.7, 7.3.1, 7.3.2 and 8.1.2).
-- A text is the bytes of UTF-8, and `chars` gives its characters.
use Rattle.std.specs.Prelude.{ℕ, ◌+◌, ◌/◌, ◌%◌, List, [], ◌∷◌, ◌++◌, replicate, nat_lt, nat_le, Bool, false, not, ◌==◌, ◌&&◌, ◌||◌, if◌then◌else◌, codes}
use Rattle.std.specs.List.{flat_map, list_any}
use Rattle.std.specs.Char.{encode_utf8}
use Rattle.std.specs.Str.{chars}
use Rattle.yaml_scan.specs.Bytes.{digit_zero, lower_u, tab, line_feed, carriage_return, space, double_quote, single_quote, dash, backslash, lower_x, vertical_bar}
use Rattle.yaml_scan.specs.Lines.{lines_of}
use Rattle.yaml_small.specs.declared.event.Style.{Style}
use Rattle.yaml_small.specs.declared.event.Style.TheVariants.{SingleQuoted, DoubleQuoted, Literal}

-- nothing at level 0, and n + 1 spaces at level n
abbrev pub indentation : ℕ → List ℕ
indentation level = if level == 0 then [] else replicate (level + 1) space

-- Characters that are written as escapes: U+0000 to 001F, U+007F to 009F, U+2028, U+2029 and U+FEFF.
abbrev pub is_escaped : ℕ → Bool
is_escaped c =
    nat_lt c 0x20 || (nat_le 0x7f c && nat_le c 0x9f) || c == 0x2028 || c == 0x2029 || c == 0xfeff

-- a hex digit in upper case (`A` is 0x41), and the two digits of a byte
abbrev pub hex_digit : ℕ → ℕ
hex_digit d = if nat_lt d 10 then digit_zero + d else 0x37 + d

abbrev pub hex_pair : ℕ → List ℕ
hex_pair n = hex_digit (n / 16) ∷ hex_digit (n % 16) ∷ []

-- \n, \r, \t, \xHH below U+0100, and \uHHHH
abbrev pub escape : ℕ → List ℕ
escape c =
    if c == line_feed then codes "\\n"
    else if c == carriage_return then codes "\\r"
    else if c == tab then codes "\\t"
    else if nat_lt c 0x100 then backslash ∷ lower_x ∷ hex_pair c
    else (backslash ∷ lower_u ∷ hex_pair (c / 0x100)) ++ hex_pair (c % 0x100)

-- a character within double quotes: a double quote and a backslash have a backslash in front
abbrev pub double_char : ℕ → List ℕ
double_char c =
    if c == double_quote then backslash ∷ double_quote ∷ []
    else if c == backslash then backslash ∷ backslash ∷ []
    else if is_escaped c then escape c
    else encode_utf8 c

-- a character within single quotes: a quote is doubled
abbrev pub single_char : ℕ → List ℕ
single_char c = if c == single_quote then single_quote ∷ single_quote ∷ [] else encode_utf8 c

-- quotes, which are double or single
abbrev pub quote : Bool → ℕ
quote double = if double then double_quote else single_quote

abbrev pub quoted_char : Bool → ℕ → List ℕ
quoted_char double c = if double then double_char c else single_char c

abbrev pub quoted_in : Bool → List ℕ → List ℕ
quoted_in double text = (quote double ∷ []) ++ flat_map (quoted_char double) (chars text) ++ (quote double ∷ [])

-- A text in quotes, which are double where it holds a character that is written as an escape.
unfoldable pub is_double : List ℕ → Bool
is_double text = list_any is_escaped (chars text)

unfoldable pub quoted : List ℕ → List ℕ
quoted text = quoted_in (is_double text) text

abbrev pub quoted_style : List ℕ → Style
quoted_style text = if is_double text then DoubleQuoted else SingleQuoted

abbrev pub is_feed : ℕ → Bool
is_feed c = c == line_feed

-- the first line begins with a character that is no space
abbrev pub begins_with_text : List ℕ → Bool
begins_with_text [] = false
begins_with_text (c ∷ cs) = not (c == line_feed || c == space)

-- what stands behind the last line feed
abbrev pub last_line : List ℕ → List ℕ
last_line [] = []
last_line (c ∷ cs) = if list_any is_feed (c ∷ cs) then last_line cs else c ∷ cs

-- a line holds a character that is no space
abbrev pub holds_text : List ℕ → Bool
holds_text line = list_any (λ c. not (c == space)) line

-- a character other than a line feed that is written as an escape
abbrev pub has_other_escape : List ℕ → Bool
has_other_escape text = list_any (λ c. is_escaped c && not (c == line_feed)) (chars text)

-- A text is written as a block where it holds a line feed and no other character that is written as an escape,
-- its first line begins with a character that is no space, and its last line holds one.
unfoldable pub is_block : List ℕ → Bool
is_block text =
    list_any is_feed text && not (has_other_escape text) && begins_with_text text
    && holds_text (last_line text)

-- what stands in front of a block's line: a line feed and two spaces more than the level
abbrev pub block_indent : ℕ → List ℕ
block_indent level = line_feed ∷ replicate (level + 2) space

-- the block's head, and its lines
unfoldable pub block : ℕ → List ℕ → List ℕ
block level text = (vertical_bar ∷ dash ∷ []) ++ flat_map (λ line. block_indent level ++ line) (lines_of text)

-- a character of a block, whose line feeds begin its lines
abbrev pub block_char : ℕ → ℕ → List ℕ
block_char level c = if c == line_feed then block_indent level else encode_utf8 c

-- a text that is no key, at a level, and its style
unfoldable pub text_at : ℕ → List ℕ → List ℕ
text_at level text = if is_block text then block level text else quoted text

unfoldable pub text_style : List ℕ → Style
text_style text = if is_block text then Literal else quoted_style text
