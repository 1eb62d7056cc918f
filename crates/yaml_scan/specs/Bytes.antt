-- Classes of bytes (YAML 1.2.2, chapter 5 and section 6.1). A text is a list of bytes, and a line has no line end.
use Rattle.std.specs.Prelude.{ℕ, List, [], ◌∷◌, Bool, true, false, not, ◌==◌, ◌&&◌, ◌||◌, nat_lt}
use Rattle.std.specs.List.{prefix_len}

-- the bytes that have a meaning of their own, by name
abbrev pub tab : ℕ
tab = 0x09

abbrev pub line_feed : ℕ
line_feed = 0x0a

abbrev pub carriage_return : ℕ
carriage_return = 0x0d

abbrev pub space : ℕ
space = 0x20

abbrev pub exclamation_mark : ℕ
exclamation_mark = 0x21

abbrev pub double_quote : ℕ
double_quote = 0x22

abbrev pub hash : ℕ
hash = 0x23

abbrev pub percent : ℕ
percent = 0x25

abbrev pub ampersand : ℕ
ampersand = 0x26

abbrev pub single_quote : ℕ
single_quote = 0x27

abbrev pub asterisk : ℕ
asterisk = 0x2a

abbrev pub plus : ℕ
plus = 0x2b

abbrev pub comma : ℕ
comma = 0x2c

abbrev pub dash : ℕ
dash = 0x2d

abbrev pub dot : ℕ
dot = 0x2e

abbrev pub digit_zero : ℕ
digit_zero = 0x30

abbrev pub digit_nine : ℕ
digit_nine = 0x39

abbrev pub colon : ℕ
colon = 0x3a

abbrev pub greater_than : ℕ
greater_than = 0x3e

abbrev pub question_mark : ℕ
question_mark = 0x3f

abbrev pub at_sign : ℕ
at_sign = 0x40

abbrev pub upper_a : ℕ
upper_a = 0x41

abbrev pub upper_e : ℕ
upper_e = 0x45

abbrev pub upper_u : ℕ
upper_u = 0x55

abbrev pub upper_z : ℕ
upper_z = 0x5a

abbrev pub left_bracket : ℕ
left_bracket = 0x5b

abbrev pub backslash : ℕ
backslash = 0x5c

abbrev pub right_bracket : ℕ
right_bracket = 0x5d

abbrev pub underscore : ℕ
underscore = 0x5f

abbrev pub grave_accent : ℕ
grave_accent = 0x60

abbrev pub lower_a : ℕ
lower_a = 0x61

abbrev pub lower_e : ℕ
lower_e = 0x65

abbrev pub lower_o : ℕ
lower_o = 0x6f

abbrev pub lower_u : ℕ
lower_u = 0x75

abbrev pub lower_x : ℕ
lower_x = 0x78

abbrev pub lower_z : ℕ
lower_z = 0x7a

abbrev pub left_brace : ℕ
left_brace = 0x7b

abbrev pub vertical_bar : ℕ
vertical_bar = 0x7c

abbrev pub right_brace : ℕ
right_brace = 0x7d

abbrev pub is_space : ℕ → Bool
is_space c = c == space

-- a space or a tab
abbrev pub is_white : ℕ → Bool
is_white c = c == space || c == tab

-- one of ,[]{}
abbrev pub is_flow_mark : ℕ → Bool
is_flow_mark c = c == comma || c == left_bracket || c == right_bracket || c == left_brace || c == right_brace

-- a mark in front of this is one: a space or the line's end
abbrev pub is_gap : List ℕ → Bool
is_gap [] = true
is_gap (c ∷ cs) = is_space c

abbrev pub begins_flow_mark : List ℕ → Bool
begins_flow_mark [] = false
begins_flow_mark (c ∷ cs) = is_flow_mark c

abbrev pub is_control_byte : ℕ → Bool
is_control_byte c = (nat_lt c 0x20 && not (c == tab)) || c == 0x7f

-- a control character begins here: U+0000 to 001F but the tab, U+007F, or U+0080 to 009F
abbrev pub is_control : List ℕ → Bool
is_control [] = false
is_control (c ∷ []) = is_control_byte c
is_control (c ∷ d ∷ cs) = is_control_byte c || (c == 0xc2 && nat_lt d 0xa0)

-- A document mark in front of this is one: the line's end or white space ([206] c-forbidden), or a control character,
-- which no text holds.
abbrev pub ends_mark : List ℕ → Bool
ends_mark [] = true
ends_mark (c ∷ cs) = is_white c || is_control (c ∷ cs)

-- no control character
abbrev pub is_clean : List ℕ → Bool
is_clean [] = true
is_clean (c ∷ cs) = not (is_control (c ∷ cs)) && is_clean cs

-- the spaces, and the white space, that a line begins with
abbrev pub spaces : List ℕ → ℕ
spaces line = prefix_len is_space line

abbrev pub whites : List ℕ → ℕ
whites line = prefix_len is_white line
