-- The forms of YAML 1.2.2 that are not carried, each as it shows from where a parser stands.
use Rattle.std.specs.Prelude.{◌≡◌, ℕ, List, [], ◌∷◌, drop, Bool, true, false, ◌==◌, ◌&&◌, ◌⊎◌, if◌then◌else◌, Option, Some, Err}
use Rattle.yaml_scan.specs.Bytes.{exclamation_mark, double_quote, percent, ampersand, single_quote, asterisk, dash, colon, question_mark, is_gap, spaces, whites}
use Rattle.yaml_scan.specs.QuotedScan.{Open, single_at, double_quoted_at}
use Rattle.yaml_small.specs.declared.state.Mode.{Mode}
use Rattle.yaml_small.specs.declared.state.Mode.TheVariants.{Begin, Document, Root, Item, Key, Value, Open as Opened, AfterKey, Done, Trailing, Last, Ended}
use Rattle.yaml_small.specs.declared.state.Frame.{Frame}
use Rattle.yaml_small.specs.declared.state.Frame.TheVariants.{InSeq}
use Rattle.yaml_small.specs.Places.{At, past, over, next_at, flow_next, is_end, begins, at_dashes}
use Rattle.yaml_small.specs.Scalars.{is_tabbed, begins_block, is_indicator}

-- Where a parser looks: here, behind white space, behind a dash and white space, at the next content, at the next token
-- of a flow, and at the token behind a comma or a colon of a flow.
pub data Sight : Type 0 where
  here : Sight
  behind_white : Sight
  behind_dash : Sight
  next_content : Sight
  next_token : Sight
  token_behind : Sight

abbrev pub sighted : Sight → At → At
sighted here a = a
sighted behind_white a = over a
sighted behind_dash a = over (past 1 a)
sighted next_content a = next_at a.later
sighted next_token a = flow_next a
sighted token_behind a = flow_next (past 1 (flow_next a))

-- the question mark of an explicit key
abbrev pub is_question : List ℕ → Bool
is_question [] = false
is_question (c ∷ cs) = c == question_mark && is_gap cs

-- a quoted scalar that does not end on its line, and lines behind that
abbrev pub has_lines : List (List ℕ) → Bool
has_lines [] = false
has_lines (line ∷ lines) = true

abbrev pub GoesOn : At → Type 0
GoesOn a =
    (((begins single_quote a.line ≡ true) × (single_at (drop 1 a.line) ≡ Err Open))
    ⊎ ((begins double_quote a.line ≡ true) × (double_quoted_at (drop 1 a.line) ≡ Err Open)))
    × (has_lines a.later ≡ true)

-- behind a block scalar's bar and dash
abbrev pub behind_head : List ℕ → List ℕ
behind_head line = if begins dash (drop 1 line) then drop 1 (drop 1 line) else drop 1 line

-- behind a dash that stands here, or behind a mark already
abbrev pub behind_mark : Bool → At → At
behind_mark true a = past 1 a
behind_mark false a = a

-- A plain scalar was read, and the next line that is not blank has more than a comment: it would go on there.
abbrev pub goes_on : Mode → Bool
goes_on Begin = false
goes_on Document = false
goes_on (Root dashes) = false
goes_on (Item col) = false
goes_on Key = false
goes_on (Value col) = false
goes_on Opened = false
goes_on (AfterKey quoted continues) = continues
goes_on (Done continues) = continues
goes_on Trailing = false
goes_on Last = false
goes_on Ended = false

-- One of them stands where a parser looks: from what it looks for, the innermost open list or map, and its place.
pub data Uncarried (mode : Mode) (frame : Option Frame) (a : At) : Type 0 where
  -- [101] c-ns-anchor-property
  anchor : (v : Sight) → begins ampersand (sighted v a).line ≡ true → Uncarried mode frame a
  -- [104] c-ns-alias-node
  alias : (v : Sight) → begins asterisk (sighted v a).line ≡ true → Uncarried mode frame a
  -- [97] c-ns-tag-property
  tag : (v : Sight) → begins exclamation_mark (sighted v a).line ≡ true → Uncarried mode frame a
  -- [82] l-directive
  directive : mode ≡ Document → begins percent a.line ≡ true → Uncarried mode frame a
  -- [190] c-l-block-map-explicit-key
  explicit_key : (v : Sight) → is_question (sighted v a).line ≡ true → Uncarried mode frame a
  -- a tab as indentation (section 6.1)
  tab : (v : Sight) → is_tabbed (sighted v a).line ≡ true → Uncarried mode frame a
  -- a tab in the white space behind a mark, which would give content its column or part it from three dashes
  tab_behind : (dash : Bool) → (spaces (behind_mark dash a).line == whites (behind_mark dash a).line) ≡ false
      → Uncarried mode frame a
  -- [135] ns-plain-multi-line
  plain_lines : goes_on mode ≡ true → Uncarried mode frame a
  -- [125] nb-single-multi-line, [116] nb-double-multi-line
  quoted_lines : (v : Sight) → GoesOn (sighted v a) → Uncarried mode frame a
  -- [163] c-indentation-indicator, and + of [164] c-chomping-indicator
  block_head : (v : Sight) → begins_block (sighted v a).line ≡ true
      → is_indicator (behind_head (sighted v a).line) ≡ true → Uncarried mode frame a
  -- [150] ns-flow-pair
  key_in_list : (inner : Bool) → frame ≡ Some (InSeq inner) → begins colon (flow_next a).line ≡ true
      → Uncarried mode frame a
  -- a second document, behind three dashes or three dots ([211] l-yaml-stream)
  second_document : (v : Sight) → at_dashes (sighted v a) ≡ true → Uncarried mode frame a
  behind_dots : mode ≡ Last → is_end a ≡ false → Uncarried mode frame a
