-- Block scalars (YAML 1.2.2, section 8.1): what the lines behind a head give.
use Rattle.std.specs.Prelude.{ℕ, ◌+◌, ◌-◌, List, [], ◌∷◌, ◌++◌, drop, map, replicate, Bool, true, false, not, nat_le, nat_lt, ◌==◌, ◌&&◌, ◌||◌, if◌then◌else◌, Option, Some, None}
use Rattle.yaml_scan.specs.Bytes.{line_feed, space, is_white, is_clean, spaces}
use Rattle.yaml_scan.specs.Lines.{is_white_line, is_dashes, is_dots}

-- a mark of a document's start or end
abbrev pub is_document_mark : List ℕ → Bool
is_document_mark line = is_dashes line || is_dots line

-- a column is deeper than the parent's; what has no parent is deeper than all
abbrev pub is_deeper : Option ℕ → ℕ → Bool
is_deeper None col = true
is_deeper (Some parent) col = nat_lt parent col

-- The indentation is that of the first line that is not of white space, where that line is deeper than the
-- parent and no mark.
abbrev pub indent_of : Option ℕ → List (List ℕ) → Option ℕ
indent_of parent [] = None
indent_of parent (line ∷ lines) =
    if is_white_line line then indent_of parent lines
    else if is_deeper parent (spaces line) && not (is_document_mark line) then Some (spaces line)
    else None

-- The block goes on as long as lines are as deep as its indentation, or of white space.
abbrev pub is_inside : ℕ → List ℕ → Bool
is_inside indent line = is_white_line line || (nat_le indent (spaces line) && not (is_document_mark line))

abbrev pub block_lines : ℕ → List (List ℕ) → List (List ℕ)
block_lines indent [] = []
block_lines indent (line ∷ lines) = if is_inside indent line then line ∷ block_lines indent lines else []

abbrev pub behind_block : ℕ → List (List ℕ) → List (List ℕ)
behind_block indent [] = []
behind_block indent (line ∷ lines) = if is_inside indent line then behind_block indent lines else line ∷ lines

-- A line gives what follows the indentation. One of fewer spaces is empty.
abbrev pub content : ℕ → List ℕ → List ℕ
content indent line = if nat_le indent (spaces line) then drop indent line else []

abbrev pub all_clean : List (List ℕ) → Bool
all_clean [] = true
all_clean (line ∷ lines) = is_clean line && all_clean lines

-- n line feeds
abbrev pub feeds : ℕ → List ℕ
feeds n = replicate n line_feed

-- In a folded block a line is joined to its neighbours where it does not begin with white space.
abbrev pub is_joined : Bool → List ℕ → Bool
is_joined folded [] = false
is_joined folded (c ∷ cs) = folded && not (is_white c)

-- What stands between two lines that are not empty, with n line ends between them. Where both are joined, a
-- lone line end is a space, and of more one is dropped.
abbrev pub between : Bool → ℕ → List ℕ
between false n = feeds n
between true n = if n == 1 then space ∷ [] else feeds (n - 1)

-- The contents together, behind a line that is joined or not and n line ends. Empty ones at the end are dropped.
abbrev pub together : Bool → Bool → ℕ → List (List ℕ) → List ℕ
together folded joined n [] = []
together folded joined n ([] ∷ rest) = together folded joined (n + 1) rest
together folded joined n ((c ∷ cs) ∷ rest) =
    between (joined && is_joined folded (c ∷ cs)) n ++ (c ∷ cs) ++ together folded (is_joined folded (c ∷ cs)) 1 rest

-- One last line feed is kept, where there is any text and the head has no dash.
abbrev pub with_end : Bool → List ℕ → List ℕ
with_end strip [] = []
with_end strip (c ∷ cs) = if strip then c ∷ cs else (c ∷ cs) ++ (line_feed ∷ [])

-- the text that the lines of a block with this indentation give
abbrev pub block_text : Bool → Bool → ℕ → List (List ℕ) → List ℕ
block_text folded strip indent lines =
    with_end strip (together folded false 0 (map (content indent) (block_lines indent lines)))
