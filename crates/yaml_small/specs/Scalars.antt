-- Scalars where they stand: on one line, as keys, and as blocks (YAML 1.2.2, sections 7.3, 7.4.2 and 8.1).
use Rattle.std.specs.Prelude.{ℕ, ◌-◌, List, [], ◌∷◌, take, drop, length, Bool, true, false, not, nat_le, ◌==◌, ◌&&◌, ◌||◌, if◌then◌else◌, Option, Some, None, Result, Ok, Err}
use Rattle.warg_values.specs.Reading.{◌>>=◌}
use Rattle.yaml_scan.specs.Bytes.{tab, exclamation_mark, double_quote, ampersand, single_quote, asterisk, plus, dash, digit_zero, digit_nine, greater_than, question_mark, vertical_bar, is_gap}
use Rattle.yaml_scan.specs.Lines.{ends, is_comment_line, is_white_line, text_follows}
use Rattle.yaml_scan.specs.Plain.{begins_plain, plain_len}
use Rattle.yaml_scan.specs.QuotedScan.{Open, Bad, Found, single_at, double_quoted_at}
use Rattle.yaml_scan.specs.Block.{indent_of, block_lines, behind_block, all_clean, block_text}
use Rattle.yaml_small.specs.declared.event.Style.{Style}
use Rattle.yaml_small.specs.declared.event.Style.TheVariants as styles
use Rattle.yaml_small.specs.Trees.{Scalar}
use Rattle.yaml_small.specs.Places.{At, past, over, next_at, is_end, begins, at_dashes, at_dots, at_mark, is_colon}

-- Why no carried document goes on. Cut: the text ends here, and only more text could help.
pub data Fault : Type 0 where
  Form : Fault
  NotCarried : Fault
  TooDeep : Fault
  Cut : Fault

-- a scalar, and the place behind it
pub record ScalarToken : Type 0 where
  pub scalar : Scalar
  pub end : At

abbrev pub scalar_token : List ℕ → Style → At → ScalarToken
scalar_token text style end = record { scalar = record { text = text; style = style }; end = end }

-- a plain scalar may begin here: no document mark does
abbrev pub begins_at : Bool → At → Bool
begins_at flow a = not (at_mark a) && begins_plain flow a.line

-- A tab indents more than a comment.
abbrev pub is_tabbed : List ℕ → Bool
is_tabbed line = begins tab line && not (is_comment_line line)

-- Anchors, aliases, tags, `? ` and a tab as indentation are not carried.
abbrev pub is_not_carried : List ℕ → Bool
is_not_carried [] = false
is_not_carried (c ∷ cs) =
    c == ampersand || c == asterisk || c == exclamation_mark || is_tabbed (c ∷ cs) || (c == question_mark && is_gap cs)

-- why no node starts here
abbrev pub start_fault : At → Fault
start_fault a =
    if is_end a then Cut
    else if at_dashes a then NotCarried
    else if at_dots a then Form
    else if is_not_carried a.line then NotCarried
    else Form

unfoldable pub plain_at : Bool → At → Result ScalarToken Fault
plain_at flow a =
    if begins_at flow a then
    Ok (scalar_token (take (plain_len flow false a.line) a.line) styles.Plain (past (plain_len flow false a.line) a))
    else Err (start_fault a)

-- A quoted scalar that is open at its line's end would go on in the next line.
abbrev pub open_fault : List (List ℕ) → Fault
open_fault [] = Form
open_fault (line ∷ lines) = NotCarried

unfoldable pub quoted_at : Style → At → Found → Result ScalarToken Fault
quoted_at style a (Ok found) = Ok (scalar_token found.0 style (past (length a.line - length found.1) a))
quoted_at style a (Err Bad) = Err Form
quoted_at style a (Err Open) = Err (open_fault a.later)

-- a plain or quoted scalar, in a flow or not
unfoldable pub scalar_token_at : Bool → At → Result ScalarToken Fault
scalar_token_at flow a =
    if begins single_quote a.line then quoted_at styles.SingleQuoted a (single_at (drop 1 a.line))
    else if begins double_quote a.line then quoted_at styles.DoubleQuoted a (double_quoted_at (drop 1 a.line))
    else plain_at flow a

-- behind a scalar and white space, the colon that makes it a key of a block map
abbrev pub colon_behind : ScalarToken → Result ScalarToken Fault
colon_behind w =
    if is_colon (over w.end).line then Ok (record { scalar = w.scalar; end = past 1 (over w.end) }) else Err Form

-- a key of a block map, and the place behind its colon
unfoldable pub key_at : At → Result ScalarToken Fault
key_at a = scalar_token_at false a >>= colon_behind

abbrev pub is_scalar_token : Result ScalarToken Fault → Bool
is_scalar_token (Ok w) = true
is_scalar_token (Err fault) = false

abbrev pub is_key : At → Bool
is_key a = is_scalar_token (key_at a)

-- a block scalar's head
abbrev pub begins_block : List ℕ → Bool
begins_block line = begins vertical_bar line || begins greater_than line

-- an indentation indicator, or keeping line ends
abbrev pub is_indicator : List ℕ → Bool
is_indicator [] = false
is_indicator (c ∷ cs) = (nat_le digit_zero c && nat_le c digit_nine) || c == plus

abbrev pub folded_style : Bool → Style
folded_style true = styles.Folded
folded_style false = styles.Literal

-- the block's lines, of an indentation that they may lack
abbrev pub gathered : Bool → Bool → Option ℕ → List (List ℕ) → Result ScalarToken Fault
gathered folded strip None lines = Ok (scalar_token [] (folded_style folded) (next_at lines))
gathered folded strip (Some indent) lines =
    if all_clean (block_lines indent lines) then
    Ok (scalar_token (block_text folded strip indent lines) (folded_style folded) (next_at (behind_block indent lines)))
    else Err Form

-- behind a head's bar and dash nothing more stands on its line
abbrev pub headed : Bool → Bool → Option ℕ → List ℕ → List (List ℕ) → Result ScalarToken Fault
headed folded strip parent line lines =
    if ends line then gathered folded strip (indent_of parent lines) lines
    else Err (if is_indicator line then NotCarried else Form)

-- a block scalar under a parent's column, and the content behind its lines
unfoldable pub block_at : Option ℕ → At → Result ScalarToken Fault
block_at parent a =
    if begins dash (drop 1 a.line) then headed (begins greater_than a.line) true parent (drop 1 (drop 1 a.line)) a.later
    else headed (begins greater_than a.line) false parent (drop 1 a.line) a.later

-- A plain scalar goes on in the next line where that has text: white space and blank lines don't end it, a
-- comment does.
abbrev pub is_plain : Style → Bool
is_plain styles.Plain = true
is_plain styles.SingleQuoted = false
is_plain styles.DoubleQuoted = false
is_plain styles.Literal = false
is_plain styles.Folded = false

abbrev pub continues_below : Style → At → Bool
continues_below style a = is_plain style && (is_white_line a.line && text_follows a.later)
