-- One step of a parser: from where it stands, the next event, or why no carried document goes on.
use Rattle.std.specs.Prelude.{ℕ, drop, Bool, true, false, not, nat_lt, ◌==◌, ◌&&◌, ◌||◌, if◌then◌else◌, Option, Some, None, Result, Ok, Err}
use Rattle.warg_values.specs.Reading.{◌>>=◌}
use Rattle.yaml_scan.specs.Bytes.{percent, comma, colon, left_bracket, right_bracket, left_brace, right_brace, spaces, whites, begins_flow_mark}
use Rattle.yaml_scan.specs.Lines.{ends, is_comment_line}
use Rattle.yaml_small.specs.declared.event.Event.{Event}
use Rattle.yaml_small.specs.declared.event.Event.TheVariants.{StreamStart, StreamEnd, DocumentStart, DocumentEnd, SequenceStart, SequenceEnd, MappingStart, MappingEnd}
use Rattle.yaml_small.specs.declared.state.Mode.{Mode}
use Rattle.yaml_small.specs.declared.state.Mode.TheVariants.{Begin, Document, Root, Item, Key, Value, Open, AfterKey, Done, Trailing, Last, Ended}
use Rattle.yaml_small.specs.declared.state.Frame.{Frame}
use Rattle.yaml_small.specs.declared.state.Frame.TheVariants.{InList, InMap, InSeq, InPairs}
use Rattle.yaml_small.specs.declared.state.Change.{Change}
use Rattle.yaml_small.specs.declared.state.Change.TheVariants.{Keep, Push, Pop}
use Rattle.yaml_small.specs.Trees.{tilde, scalar_event}
use Rattle.yaml_small.specs.Places.{At, past, over, next_at, flow_next, is_end, begins, at_dashes, at_dots, is_within, is_dash, at_dash, list_ends, map_ends}
use Rattle.yaml_small.specs.Scalars.{Fault, Form, NotCarried, TooDeep, Cut, ScalarToken, scalar_token_at, key_at, is_key, block_at, begins_block, is_tabbed, continues_below}
use Rattle.yaml_small.specs.Grammar.{closes_value, is_flow_colon, is_quoted}

-- the event, where the next step begins and what it looks for there, and what becomes of the open lists and maps
pub record Transition : Type 0 where
  pub event : Event
  pub at : At
  pub mode : Mode
  pub change : Change

abbrev pub transition : Event → At → Mode → Change → Transition
transition event at mode change = record { event = event; at = at; mode = mode; change = change }

-- Lists and maps are at most 64 deep.
unfoldable pub opened : ℕ → Event → At → Mode → Frame → Result Transition Fault
opened depth event a mode frame = if nat_lt depth 64 then Ok (transition event a mode (Push frame)) else Err TooDeep

unfoldable pub list_start : ℕ → At → Result Transition Fault
list_start depth a = opened depth SequenceStart (past 1 a) (Item a.col) (InList a.col)

unfoldable pub map_start : ℕ → At → Result Transition Fault
map_start depth a = opened depth MappingStart a Key (InMap a.col)

-- Behind a node on one line: in a flow more stands on the line, else nothing does.
unfoldable pub settled : Bool → Bool → Event → Change → At → Transition
settled true continues event change a = transition event a (Done continues) change
settled false continues event change a =
    if ends a.line then transition event (next_at a.later) (Done continues) change
    else transition event (over a) Trailing change

abbrev pub scalar_token_transition : Bool → ScalarToken → Transition
scalar_token_transition flow w = settled flow (continues_below w.scalar.style w.end) (scalar_event w.scalar) Keep w.end

abbrev pub block_transition : ScalarToken → Transition
block_transition w = transition (scalar_event w.scalar) w.end (Done false) Keep

abbrev pub missing_transition : At → Transition
missing_transition a = transition (scalar_event tilde) a (Done false) Keep

-- a node on one line, or a block scalar
unfoldable pub inline_at : Bool → ℕ → Option ℕ → At → Result Transition Fault
inline_at flow depth parent a =
    if begins left_bracket a.line then opened depth SequenceStart (past 1 a) Open (InSeq flow)
    else if begins left_brace a.line then opened depth MappingStart (past 1 a) Open (InPairs flow)
    else if not flow && begins_block a.line then (block_at parent a >>= λ w. Ok (block_transition w))
    else (scalar_token_at flow a >>= λ w. Ok (scalar_token_transition flow w))

unfoldable pub node_at : ℕ → Option ℕ → At → Result Transition Fault
node_at depth parent a =
    if is_dash a.line then list_start depth a
    else if is_key a then map_start depth a
    else inline_at false depth parent a

unfoldable pub below : ℕ → Option ℕ → At → Result Transition Fault
below depth parent a = if is_within parent a then node_at depth parent a else Ok (missing_transition a)

-- behind a dash, white space with a tab gives no list or map its column
unfoldable pub tabbed : ℕ → ℕ → At → Result Transition Fault
tabbed depth col a = if is_dash a.line || is_key a then Err NotCarried else inline_at false depth (Some col) a

unfoldable pub item_at : ℕ → ℕ → At → Result Transition Fault
item_at depth col a =
    if ends a.line then below depth (Some col) (next_at a.later)
    else if spaces a.line == whites a.line then node_at depth (Some col) (over a)
    else tabbed depth col (over a)

unfoldable pub under : ℕ → ℕ → At → Result Transition Fault
under depth col a = if at_dash col a then list_start depth a else below depth (Some col) a

unfoldable pub value_at : ℕ → ℕ → At → Result Transition Fault
value_at depth col a =
    if ends a.line then under depth col (next_at a.later) else inline_at false depth (Some col) (over a)

-- behind three dashes, where spaces alone part content from them
unfoldable pub explicit_at : ℕ → At → Result Transition Fault
explicit_at depth a =
    if ends a.line then below depth None (next_at a.later)
    else if spaces a.line == whites a.line then inline_at false depth None (over a)
    else Err NotCarried

abbrev pub key_transition : ℕ → ScalarToken → Transition
key_transition col w = transition (scalar_event w.scalar) w.end (Value col) Keep

unfoldable pub key_step : At → Result Transition Fault
key_step a = key_at a >>= λ w. Ok (key_transition a.col w)

-- Within a flow: behind a bracket or a comma an entry, or the end.
abbrev pub closed : Event → Bool → At → Transition
closed event inner a = settled inner false event Pop (past 1 a)

unfoldable pub seq_entry : Bool → ℕ → At → Result Transition Fault
seq_entry inner depth a =
    if begins right_bracket a.line then Ok (closed SequenceEnd inner a) else inline_at true depth None a

abbrev pub flow_key : ScalarToken → Transition
flow_key w =
    transition (scalar_event w.scalar) w.end
    (AfterKey (is_quoted w.scalar) (continues_below w.scalar.style w.end)) Keep

unfoldable pub pairs_entry : Bool → At → Result Transition Fault
pairs_entry inner a =
    if begins right_brace a.line then Ok (closed MappingEnd inner a)
    else (scalar_token_at true a >>= λ w. Ok (flow_key w))

unfoldable pub open_at : ℕ → Option Frame → At → Result Transition Fault
open_at depth None a = Err Form
open_at depth (Some (InList col)) a = Err Form
open_at depth (Some (InMap col)) a = Err Form
open_at depth (Some (InSeq inner)) a = seq_entry inner depth (flow_next a)
open_at depth (Some (InPairs inner)) a = pairs_entry inner (flow_next a)

-- Why a flow doesn't go on: the text ends, a document mark stands here, or a plain scalar would go on.
abbrev pub flow_fault : Bool → At → Fault
flow_fault continues a =
    if is_end a then Cut
    else if at_dashes a then NotCarried
    else if at_dots a then Form
    else if continues && not (begins_flow_mark a.line) then NotCarried
    else Form

unfoldable pub flow_value : ℕ → At → Result Transition Fault
flow_value depth a =
    if closes_value (flow_next a).line then Ok (missing_transition a) else inline_at true depth None (flow_next a)

unfoldable pub after_key_at : ℕ → Bool → Bool → At → Result Transition Fault
after_key_at depth quoted continues a =
    if is_flow_colon quoted (flow_next a).line then flow_value depth (past 1 (flow_next a))
    else if closes_value (flow_next a).line then Ok (missing_transition a)
    else Err (flow_fault continues (flow_next a))

-- a key and its colon directly within a flow list
abbrev pub seq_fault : Bool → At → Fault
seq_fault continues a = if begins colon a.line then NotCarried else flow_fault continues a

unfoldable pub seq_done : Bool → ℕ → Bool → At → Result Transition Fault
seq_done inner depth continues a =
    if begins comma a.line then seq_entry inner depth (flow_next (past 1 a))
    else if begins right_bracket a.line then Ok (closed SequenceEnd inner a)
    else Err (seq_fault continues a)

unfoldable pub pairs_done : Bool → Bool → At → Result Transition Fault
pairs_done inner continues a =
    if begins comma a.line then pairs_entry inner (flow_next (past 1 a))
    else if begins right_brace a.line then Ok (closed MappingEnd inner a)
    else Err (flow_fault continues a)

-- Why a line doesn't belong here: a tab indents it, or a plain scalar would go on in it.
abbrev pub line_fault : Bool → At → Fault
line_fault continues a = if is_tabbed a.line || continues then NotCarried else Form

-- the end of a block list or map before other content
abbrev pub block_end : Event → At → Transition
block_end event a = transition event a (Done false) Pop

unfoldable pub list_done : ℕ → ℕ → Bool → At → Result Transition Fault
list_done depth col continues a =
    if list_ends col a then Ok (block_end SequenceEnd a)
    else if at_dash col a then item_at depth col (past 1 a)
    else Err (line_fault continues a)

unfoldable pub map_done : ℕ → Bool → At → Result Transition Fault
map_done col continues a =
    if map_ends col a then Ok (block_end MappingEnd a)
    else if a.col == col then key_step a
    else Err (line_fault continues a)

unfoldable pub dots_end : At → Result Transition Fault
dots_end a = if ends (drop 3 a.line) then Ok (transition DocumentEnd (next_at a.later) Last Keep) else Err Form

unfoldable pub root_done : Bool → At → Result Transition Fault
root_done continues a =
    if is_end a then Ok (transition DocumentEnd a Last Keep)
    else if at_dots a then dots_end a
    else Err (if at_dashes a then NotCarried else line_fault continues a)

unfoldable pub done_at : ℕ → Bool → Option Frame → At → Result Transition Fault
done_at depth continues None a = root_done continues a
done_at depth continues (Some (InList col)) a = list_done depth col continues a
done_at depth continues (Some (InMap col)) a = map_done col continues a
done_at depth continues (Some (InSeq inner)) a = seq_done inner depth continues (flow_next a)
done_at depth continues (Some (InPairs inner)) a = pairs_done inner continues (flow_next a)

-- A directive is not carried.
unfoldable pub document_at : At → Result Transition Fault
document_at a =
    if is_end a then Ok (transition StreamEnd a Ended Keep)
    else if at_dashes a then Ok (transition DocumentStart (past 3 a) (Root true) Keep)
    else if begins percent a.line then Err NotCarried
    else Ok (transition DocumentStart a (Root false) Keep)

-- Behind the document's end mark another one may not stand, nor a comment with a control character, and other content
-- is a second document.
unfoldable pub last_at : At → Result Transition Fault
last_at a =
    if is_end a then Ok (transition StreamEnd a Ended Keep)
    else Err (if at_dots a || is_comment_line a.line then Form else NotCarried)

-- what is looked for, the innermost open list or map, how many are open, and the place
unfoldable pub step_at : Mode → Option Frame → ℕ → At → Result Transition Fault
step_at Begin frame depth a = Ok (transition StreamStart a Document Keep)
step_at Document frame depth a = document_at a
step_at (Root true) frame depth a = explicit_at depth a
step_at (Root false) frame depth a = node_at depth None a
step_at (Item col) frame depth a = item_at depth col a
step_at Key frame depth a = key_step a
step_at (Value col) frame depth a = value_at depth col a
step_at Open frame depth a = open_at depth frame a
step_at (AfterKey quoted continues) frame depth a = after_key_at depth quoted continues a
step_at (Done continues) frame depth a = done_at depth continues frame a
step_at Trailing frame depth a = Err Form
step_at Last frame depth a = last_at a
step_at Ended frame depth a = Ok (transition StreamEnd a Ended Keep)
