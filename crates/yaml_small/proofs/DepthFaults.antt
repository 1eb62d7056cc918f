-- A list or map is too deep only where 64 are open, and it would begin were none open.
use Rattle.std.proofs.Common.{◌≡◌, ℕ, ◌≤◌, List, [], ◌∷◌, length, drop, Bool, true, false, not, cond, eqb, ◌&&◌, ◌||◌, ltb, Option, Some, None, Result, Ok, Err, refl, sym, ap, ◌∙◌, arith}
use Rattle.std.proofs.lemmas.Bool.{ltb-false}
use Rattle.warg_values.specs.Reading.{◌>>=◌}
use Rattle.yaml_scan.specs.Bytes.{spaces, whites, begins_flow_mark}
use Rattle.yaml_scan.specs.Lines.{ends, is_comment_line}
use Rattle.yaml_scan.specs.QuotedScan.{Open, Bad, Found, single_at, double_quoted_at}
use Rattle.yaml_scan.specs.Block.{block_lines, all_clean, indent_of}
use Rattle.yaml_small.specs.declared.event.Event.{Event}
use Rattle.yaml_small.specs.declared.event.Event.TheVariants.{SequenceStart, MappingStart}
use Rattle.yaml_small.specs.declared.event.Style.{Style}
use Rattle.yaml_small.specs.declared.event.Style.TheVariants as styles
use Rattle.yaml_small.specs.declared.state.Mode.{Mode}
use Rattle.yaml_small.specs.declared.state.Mode.TheVariants.{Begin, Document, Root, Item, Key, Value, AfterKey, Done, Trailing, Last, Ended}
use Rattle.yaml_small.specs.declared.state.Mode.TheVariants as modes
use Rattle.yaml_small.specs.declared.state.Frame.{Frame}
use Rattle.yaml_small.specs.declared.state.Frame.TheVariants.{InList, InMap, InSeq, InPairs}
use Rattle.yaml_small.specs.declared.state.Change.TheVariants.{Push}
use Rattle.yaml_small.specs.Places.{At, over, next_at, flow_next, is_end, begins, at_dashes, at_dots, is_within, is_dash, at_dash, is_colon}
use Rattle.yaml_small.specs.Scalars.{Fault, Form, NotCarried, TooDeep, Cut, ScalarToken, begins_at, is_not_carried, is_tabbed, start_fault, plain_at, open_fault, quoted_at, scalar_token_at, colon_behind, key_at, is_key, begins_block, is_indicator, gathered, headed, block_at}
use Rattle.yaml_small.specs.Step.{Transition, transition, opened, list_start, map_start, scalar_token_transition, block_transition, inline_at, node_at, below, tabbed, item_at, under, value_at, explicit_at, key_transition, key_step, seq_entry, flow_key, pairs_entry, open_at, flow_fault, flow_value, after_key_at, seq_fault, seq_done, pairs_done, line_fault, list_done, map_done, dots_end, root_done, done_at, document_at, last_at, step_at}
use Rattle.yaml_small.specs.Stream.{State, top_of, start, Runs, next, moved, begins_collection, WouldBegin}
use Rattle.yaml_small.specs.DepthLaws.{always_within}

abbrev is_deep : Fault → Bool
is_deep Form = false
is_deep NotCarried = false
is_deep TooDeep = true
is_deep Cut = false

-- other faults
fault_either : (b : Bool) (f g : Fault) → is_deep f ≡ false → is_deep g ≡ false → is_deep (cond b f g) ≡ false
fault_either true f g p q = p
fault_either false f g p q = q

start_shallow : (a : At) → is_deep (start_fault a) ≡ false
start_shallow a =
    fault_either (is_end a) _ _ refl (fault_either (at_dashes a) _ _ refl (fault_either (at_dots a) _ _ refl (fault_either (is_not_carried a.line) _ _ refl refl)))

flow_shallow : (g : Bool) (a : At) → is_deep (flow_fault g a) ≡ false
flow_shallow g a =
    fault_either (is_end a) _ _ refl (fault_either (at_dashes a) _ _ refl (fault_either (at_dots a) _ _ refl (fault_either (g && not (begins_flow_mark a.line)) _ _ refl refl)))

seq_shallow : (g : Bool) (a : At) → is_deep (seq_fault g a) ≡ false
seq_shallow g a = fault_either (begins 58 a.line) _ _ refl (flow_shallow g a)

line_shallow : (g : Bool) (a : At) → is_deep (line_fault g a) ≡ false
line_shallow g a = fault_either (is_tabbed a.line || g) _ _ refl refl

open_shallow : (ls : List (List ℕ)) → is_deep (open_fault ls) ≡ false
open_shallow [] = refl
open_shallow (l ∷ ls) = refl

-- reading a scalar is never too deep
abbrev shallow : Result ScalarToken Fault → Bool
shallow (Ok w) = true
shallow (Err f) = not (is_deep f)

shallow_either : (b : Bool) (x y : Result ScalarToken Fault) → shallow x ≡ true → shallow y ≡ true → shallow (cond b x y) ≡ true
shallow_either true x y p q = p
shallow_either false x y p q = q

shallow_fault : (f : Fault) → is_deep f ≡ false → shallow (Err f) ≡ true
shallow_fault f e = ap not e

shallow_then : (r : Result ScalarToken Fault) (g : ScalarToken → Result ScalarToken Fault) → shallow r ≡ true → ((w : ScalarToken) → shallow (g w) ≡ true) → shallow (r >>= g) ≡ true
shallow_then (Ok w) g p q = q w
shallow_then (Err f) g p q = p

quoted_shallow : (style : Style) (a : At) (found : Found) → shallow (quoted_at style a found) ≡ true
unfolding quoted_at
quoted_shallow style a (Ok p) = refl
quoted_shallow style a (Err Bad) = refl
quoted_shallow style a (Err Open) = shallow_fault (open_fault a.later) (open_shallow a.later)

token_shallow : (flow : Bool) (a : At) → shallow (scalar_token_at flow a) ≡ true
unfolding scalar_token_at plain_at
token_shallow flow a =
    shallow_either (begins 39 a.line) _ _ (quoted_shallow styles.SingleQuoted a (single_at (drop 1 a.line)))
    (shallow_either (begins 34 a.line) _ _ (quoted_shallow styles.DoubleQuoted a (double_quoted_at (drop 1 a.line)))
    (shallow_either (begins_at flow a) _ _ refl (shallow_fault (start_fault a) (start_shallow a))))

key_shallow : (a : At) → shallow (key_at a) ≡ true
unfolding key_at
key_shallow a = shallow_then (scalar_token_at false a) colon_behind (token_shallow false a) (λ w. shallow_either (is_colon (over w.end).line) _ _ refl refl)

gathered_shallow : (folded strip : Bool) (o : Option ℕ) (ls : List (List ℕ)) → shallow (gathered folded strip o ls) ≡ true
gathered_shallow folded strip None ls = refl
gathered_shallow folded strip (Some n) ls = shallow_either (all_clean (block_lines n ls)) _ _ refl refl

headed_shallow : (folded strip : Bool) (parent : Option ℕ) (l : List ℕ) (ls : List (List ℕ)) → shallow (headed folded strip parent l ls) ≡ true
headed_shallow folded strip parent l ls =
    shallow_either (ends l) _ _ (gathered_shallow folded strip (indent_of parent ls) ls)
    (shallow_fault (cond (is_indicator l) NotCarried Form) (fault_either (is_indicator l) _ _ refl refl))

block_shallow : (parent : Option ℕ) (a : At) → shallow (block_at parent a) ≡ true
unfolding block_at
block_shallow parent a = shallow_either (begins 45 (drop 1 a.line)) _ _ (headed_shallow (begins 62 a.line) true parent (drop 1 (drop 1 a.line)) a.later)
    (headed_shallow (begins 62 a.line) false parent (drop 1 a.line) a.later)

-- what begins a list or map
record Begun (o : Result Transition Fault) : Type 0 where
  step : Transition
  is : o ≡ Ok step
  begins : begins_collection step.event ≡ true

abbrev depth_of : Result Transition Fault → Bool
depth_of (Ok g) = false
depth_of (Err f) = is_deep f

depth_same : (x y : Result Transition Fault) → x ≡ y → depth_of x ≡ depth_of y
depth_same x y e = ap depth_of e

false_true : false ≡ true → ⊥
false_true e = cc

not_so : (b : Bool) → not b ≡ true → b ≡ false
not_so true e = absurd cc
not_so false e = refl

-- a step with this many open, beside the same step where none is
record Deep (k : List Frame) (r o : Result Transition Fault) : Type 0 where
  full : r ≡ Err TooDeep → 64 ≤ length k
  begun : r ≡ Err TooDeep → Begun o

module _ (k : List Frame) where
  either : (b : Bool) (x y u v : Result Transition Fault) → Deep k x u → Deep k y v → Deep k (cond b x y) (cond b u v)
  either true x y u v p q = p
  either false x y u v p q = q

  event : (g : Transition) (o : Result Transition Fault) → Deep k (Ok g) o
  event g o = record { full = λ e. absurd cc; begun = λ e. absurd cc }

  fault : (f : Fault) (o : Result Transition Fault) → is_deep f ≡ false → Deep k (Err f) o
  fault f o safe = record { full = λ e. absurd (false_true (sym safe ∙ depth_same (Err f) (Err TooDeep) e)); begun = λ e. absurd (false_true (sym safe ∙ depth_same (Err f) (Err TooDeep) e)) }

  -- the same beside any step
  split : (b : Bool) (x y o : Result Transition Fault) → Deep k x o → Deep k y o → Deep k (cond b x y) o
  split true x y o p q = p
  split false x y o p q = q

  read : (r : Result ScalarToken Fault) (f : ScalarToken → Transition) (o : Result Transition Fault) → shallow r ≡ true → Deep k (r >>= λ w. Ok (f w)) o
  read (Ok w) f o p = event (f w) o
  read (Err x) f o p = fault x o (not_so (is_deep x) p)

  limited : (b : Bool) (g : Transition) → ltb (length k) 64 ≡ b → begins_collection g.event ≡ true → Deep k (cond b (Ok g) (Err TooDeep)) (Ok g)
  limited true g is starts = event g (Ok g)
  limited false g is starts = record { full = λ _. omega (arith, ltb-false (length k) 64 is); begun = λ _. record { step = g; is = refl; begins = starts } }

  opens : (e : Event) (a : At) (m : Mode) (f : Frame) → begins_collection e ≡ true → Deep k (opened (length k) e a m f) (opened 0 e a m f)
  unfolding opened
  opens e a m f starts = limited (ltb (length k) 64) (transition e a m (Push f)) refl starts

  inline : (fl : Bool) (parent : Option ℕ) (a : At) → Deep k (inline_at fl (length k) parent a) (inline_at fl 0 parent a)
  unfolding inline_at
  inline fl parent a =
      either (begins 91 a.line) _ _ _ _ (opens SequenceStart _ _ _ refl) (either (begins 123 a.line) _ _ _ _ (opens MappingStart _ _ _ refl)
      (either (not fl && begins_block a.line) _ _ _ _ (read (block_at parent a) block_transition _ (block_shallow parent a)) (read (scalar_token_at fl a) (scalar_token_transition fl) _ (token_shallow fl a))))

  list : (a : At) → Deep k (list_start (length k) a) (list_start 0 a)
  unfolding list_start
  list a = opens SequenceStart _ _ _ refl

  map : (a : At) → Deep k (map_start (length k) a) (map_start 0 a)
  unfolding map_start
  map a = opens MappingStart _ _ _ refl

  node : (parent : Option ℕ) (a : At) → Deep k (node_at (length k) parent a) (node_at 0 parent a)
  unfolding node_at
  node parent a = either (is_dash a.line) _ _ _ _ (list a) (either (is_key a) _ _ _ _ (map a) (inline false parent a))

  lower : (parent : Option ℕ) (a : At) → Deep k (below (length k) parent a) (below 0 parent a)
  unfolding below
  lower parent a = either (is_within parent a) _ _ _ _ (node parent a) (event _ _)

  item : (col : ℕ) (a : At) → Deep k (item_at (length k) col a) (item_at 0 col a)
  unfolding item_at tabbed
  item col a =
      either (ends a.line) _ _ _ _ (lower _ _) (either (eqb (spaces a.line) (whites a.line)) _ _ _ _ (node _ _) (either (is_dash (over a).line || is_key (over a)) _ _ _ _ (fault NotCarried _ refl) (inline _ _ _)))

  value : (col : ℕ) (a : At) → Deep k (value_at (length k) col a) (value_at 0 col a)
  unfolding value_at under
  value col a = either (ends a.line) _ _ _ _ (either (at_dash col (next_at a.later)) _ _ _ _ (list _) (lower _ _)) (inline _ _ _)

  explicit : (a : At) → Deep k (explicit_at (length k) a) (explicit_at 0 a)
  unfolding explicit_at
  explicit a = either (ends a.line) _ _ _ _ (lower _ _) (either (eqb (spaces a.line) (whites a.line)) _ _ _ _ (inline _ _ _) (fault NotCarried _ refl))

  key : (a : At) (o : Result Transition Fault) → Deep k (key_step a) o
  unfolding key_step
  key a o = read (key_at a) (key_transition a.col) o (key_shallow a)

  seq : (fl : Bool) (a : At) → Deep k (seq_entry fl (length k) a) (seq_entry fl 0 a)
  unfolding seq_entry
  seq fl a = either (begins 93 a.line) _ _ _ _ (event _ _) (inline _ _ _)

  pairs : (fl : Bool) (a : At) (o : Result Transition Fault) → Deep k (pairs_entry fl a) o
  unfolding pairs_entry
  pairs fl a o = split (begins 125 a.line) _ _ o (event _ o) (read (scalar_token_at true a) flow_key o (token_shallow true a))

  opening : (f : Option Frame) (a : At) → Deep k (open_at (length k) f a) (open_at 0 f a)
  unfolding open_at
  opening None a = fault Form _ refl
  opening (Some (InList col)) a = fault Form _ refl
  opening (Some (InMap col)) a = fault Form _ refl
  opening (Some (InSeq fl)) a = seq _ _
  opening (Some (InPairs fl)) a = pairs _ _ _

  after_key : (q g : Bool) (a : At) → Deep k (after_key_at (length k) q g a) (after_key_at 0 q g a)
  unfolding after_key_at flow_value
  after_key q g a = either _ _ _ _ _ (either _ _ _ _ _ (event _ _) (inline _ _ _)) (either _ _ _ _ _ (event _ _) (fault _ _ (flow_shallow g (flow_next a))))

  root : (g : Bool) (a : At) (o : Result Transition Fault) → Deep k (root_done g a) o
  unfolding root_done dots_end
  root g a o =
      split (is_end a) _ _ o (event _ o) (split (at_dots a) _ _ o (split (ends (drop 3 a.line)) _ _ o (event _ o) (fault Form o refl))
      (fault _ o (fault_either (at_dashes a) _ _ refl (line_shallow g a))))

  done : (g : Bool) (f : Option Frame) (a : At) → Deep k (done_at (length k) g f a) (done_at 0 g f a)
  unfolding done_at list_done map_done seq_done pairs_done
  done g None a = root g a _
  done g (Some (InList col)) a = either _ _ _ _ _ (event _ _) (either _ _ _ _ _ (item _ _) (fault _ _ (line_shallow g a)))
  done g (Some (InMap col)) a = either _ _ _ _ _ (event _ _) (either _ _ _ _ _ (key _ _) (fault _ _ (line_shallow g a)))
  done g (Some (InSeq fl)) a = either _ _ _ _ _ (seq _ _) (either _ _ _ _ _ (event _ _) (fault _ _ (seq_shallow g (flow_next a))))
  done g (Some (InPairs fl)) a = either _ _ _ _ _ (pairs _ _ _) (either _ _ _ _ _ (event _ _) (fault _ _ (flow_shallow g (flow_next a))))

  document : (a : At) (o : Result Transition Fault) → Deep k (document_at a) o
  unfolding document_at
  document a o =
      split (is_end a) _ _ o (event _ o) (split (at_dashes a) _ _ o (event _ o) (split (begins 37 a.line) _ _ o (fault NotCarried o refl) (event _ o)))

  last : (a : At) (o : Result Transition Fault) → Deep k (last_at a) o
  unfolding last_at
  last a o = split (is_end a) _ _ o (event _ o) (fault _ o (fault_either (at_dots a || is_comment_line a.line) _ _ refl refl))

  deep : (m : Mode) (f : Option Frame) (a : At) → Deep k (step_at m f (length k) a) (step_at m f 0 a)
  unfolding step_at
  deep Begin f a = event _ _
  deep Document f a = document a _
  deep (Root true) f a = explicit a
  deep (Root false) f a = node None a
  deep (Item col) f a = item col a
  deep Key f a = key a _
  deep (Value col) f a = value col a
  deep modes.Open f a = opening f a
  deep (AfterKey q g) f a = after_key q g a
  deep (Done g) f a = done g f a
  deep Trailing f a = fault Form _ refl
  deep Last f a = last a _
  deep Ended f a = event _ _

-- a state's step is too deep where its transition is
step_deep : (s : State) → next s ≡ Err TooDeep → step_at s.mode (top_of s.frames) (length s.frames) s.at ≡ Err TooDeep
unfolding next
step_deep s e = from (step_at s.mode (top_of s.frames) (length s.frames) s.at) e
  where
    fault_is : Result (Event × State) Fault → Result Transition Fault
    fault_is (Ok p) = Err Form
    fault_is (Err f) = Err f

    from : (r : Result Transition Fault) → moved s.frames r ≡ Err TooDeep → r ≡ Err TooDeep
    from (Ok g) e = absurd cc
    from (Err f) e = ap fault_is e

pub deep_only_here : (text : List ℕ) (events : List Event) (s : State) → Runs (start text) events s → next s ≡ Err TooDeep → (length s.frames ≡ 64) × WouldBegin s
deep_only_here text events s runs e =
    let le : length s.frames ≤ 64 = always_within text events s runs in
    let d = deep s.frames s.mode (top_of s.frames) s.at in
    let h = step_deep s e in
    let ge : 64 ≤ length s.frames = d.full h in
    let b = d.begun h in
    (omega (arith, le, ge), (b.step, b.is, b.begins))
