-- Lines (YAML 1.2.2, sections 5.4, 6.1 and 6.6).
use Rattle.std.specs.Prelude.{ℕ, ◌+◌, List, [], ◌∷◌, length, drop, Bool, true, false, not, ◌==◌, ◌&&◌, if◌then◌else◌, Option, Some, None, nat_eq}
use Rattle.std.specs.List.{starts_with}
use Rattle.yaml_scan.specs.Bytes.{line_feed, carriage_return, hash, dash, dot, is_white, ends_mark, is_clean, whites}

-- a line with one more byte in front
abbrev pub lengthened : ℕ → List (List ℕ) → List (List ℕ)
lengthened c [] = (c ∷ []) ∷ []
lengthened c (line ∷ lines) = (c ∷ line) ∷ lines

abbrev pub begins_feed : List ℕ → Bool
begins_feed [] = false
begins_feed (c ∷ cs) = c == line_feed

-- A line feed ends a line, and so does a carriage return before it. What follows the last end is a line too.
abbrev pub lines_of : List ℕ → List (List ℕ)
lines_of [] = [] ∷ []
lines_of (c ∷ cs) =
    if c == line_feed then [] ∷ lines_of cs
    else if c == carriage_return && begins_feed cs then lines_of cs
    else lengthened c (lines_of cs)

-- the lines behind a line, which may have no end
abbrev pub lines_behind : Option (List ℕ) → List (List ℕ)
lines_behind None = []
lines_behind (Some text) = lines_of text

abbrev pub without_return : List ℕ → List ℕ
without_return [] = []
without_return (c ∷ []) = if c == carriage_return then [] else c ∷ []
without_return (c ∷ d ∷ cs) = c ∷ without_return (d ∷ cs)

-- how much text is left
abbrev pub size_behind : Option (List ℕ) → ℕ
size_behind None = 0
size_behind (Some text) = length text + 1

-- nothing, or a comment without control characters
abbrev pub is_over : List ℕ → Bool
is_over [] = true
is_over (c ∷ cs) = c == hash && is_clean cs

-- a line of white space, or with a comment alone
abbrev pub is_passed : List ℕ → Bool
is_passed line = is_over (drop (whites line) line)

-- the rest of a line has nothing more: a comment stands behind white space
abbrev pub ends : List ℕ → Bool
ends [] = true
ends (c ∷ cs) = is_white c && is_passed (c ∷ cs)

-- a line of white space
abbrev pub is_white_line : List ℕ → Bool
is_white_line line = whites line == length line

-- a line that has a comment alone, whatever the comment holds
abbrev pub is_comment : List ℕ → Bool
is_comment [] = false
is_comment (c ∷ cs) = c == hash

abbrev pub is_comment_line : List ℕ → Bool
is_comment_line line = is_comment (drop (whites line) line)

-- the first line that is not of white space is there, and has more than a comment
abbrev pub text_follows : List (List ℕ) → Bool
text_follows [] = false
text_follows (line ∷ lines) = if is_white_line line then text_follows lines else not (is_comment_line line)

-- the marks of a document's start and end ([203] c-directives-end, [204] c-document-end)
abbrev pub is_dashes : List ℕ → Bool
is_dashes line = starts_with nat_eq line (dash ∷ dash ∷ dash ∷ []) && ends_mark (drop 3 line)

abbrev pub is_dots : List ℕ → Bool
is_dots line = starts_with nat_eq line (dot ∷ dot ∷ dot ∷ []) && ends_mark (drop 3 line)
