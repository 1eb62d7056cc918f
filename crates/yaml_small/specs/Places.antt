-- Places in the lines of a text.
use Rattle.std.specs.Prelude.{ℕ, ◌+◌, List, [], ◌∷◌, drop, nat_le, nat_lt, Bool, true, false, not, ◌==◌, ◌&&◌, ◌||◌, if◌then◌else◌, Option}
use Rattle.yaml_scan.specs.Bytes.{dash, colon, is_gap, spaces, whites}
use Rattle.yaml_scan.specs.Lines.{is_passed, ends, is_dashes, is_dots}
use Rattle.yaml_scan.specs.Block.{is_deeper}

-- the rest of a line, the column where it begins, and the lines behind it
pub record At : Type 0 where
  pub col : ℕ
  pub line : List ℕ
  pub later : List (List ℕ)

abbrev pub past : ℕ → At → At
past n a = record { col = a.col + n; line = drop n a.line; later = a.later }

-- behind white space
abbrev pub over : At → At
over a = past (whites a.line) a

-- The first place with content, behind the spaces of its line: lines of white space and of comments are passed
-- over. Where there is none, the text's end: no line, at column 0.
unfoldable pub next_at : List (List ℕ) → At
next_at [] = record { col = 0; line = []; later = [] }
next_at (line ∷ lines) =
    if is_passed line then next_at lines
    else record { col = spaces line; line = drop (spaces line) line; later = lines }

-- the next token within a flow, where white space, line ends and comments part tokens
unfoldable pub flow_next : At → At
flow_next a = over (if ends a.line then next_at a.later else a)

abbrev pub is_end : At → Bool
is_end a = is_nil a.line
  where
    is_nil : List ℕ → Bool
    is_nil [] = true
    is_nil (c ∷ cs) = false

abbrev pub begins : ℕ → List ℕ → Bool
begins c [] = false
begins c (d ∷ ds) = d == c

-- the marks of a document's start and end, which stand at column 0
abbrev pub at_dashes : At → Bool
at_dashes a = a.col == 0 && is_dashes a.line

abbrev pub at_dots : At → Bool
at_dots a = a.col == 0 && is_dots a.line

abbrev pub at_mark : At → Bool
at_mark a = at_dashes a || at_dots a

-- the document's content is over here
abbrev pub is_outside : At → Bool
is_outside a = is_end a || at_mark a

-- content that is deeper than the parent
abbrev pub is_within : Option ℕ → At → Bool
is_within parent a = is_deeper parent a.col && not (is_outside a)

-- a dash or a colon that is a mark
abbrev pub is_dash : List ℕ → Bool
is_dash [] = false
is_dash (c ∷ cs) = c == dash && is_gap cs

abbrev pub is_colon : List ℕ → Bool
is_colon [] = false
is_colon (c ∷ cs) = c == colon && is_gap cs

-- the dash of a list whose dashes stand at a column
abbrev pub at_dash : ℕ → At → Bool
at_dash col a = a.col == col && is_dash a.line

-- A list ends at content that is at its column or left of it and no dash of it, a map at content left of it,
-- and both at the document's end.
abbrev pub list_ends : ℕ → At → Bool
list_ends col a = not (at_dash col a) && nat_le a.col col

abbrev pub map_ends : ℕ → At → Bool
map_ends col a = nat_lt a.col col || is_outside a
