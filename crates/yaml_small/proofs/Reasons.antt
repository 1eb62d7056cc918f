-- Where no carried document goes on since the form is not carried, one of the listed forms stands.
use Rattle.std.proofs.Common.{◌≡◌, ℕ, List, [], ◌∷◌, drop, Bool, true, false, not, cond, ◌&&◌, ◌||◌, eqb, ltb, Option, Some, None, Result, Ok, Err, refl, ap, ◌∙◌, inl, inr}
use Rattle.warg_values.specs.Reading.{◌>>=◌}
use Rattle.yaml_scan.specs.Bytes.{is_gap, spaces, whites, begins_flow_mark}
use Rattle.yaml_scan.specs.Lines.{ends, is_comment_line}
use Rattle.yaml_scan.specs.QuotedScan.{Found, Open, Bad, single_at, double_quoted_at}
use Rattle.yaml_scan.specs.Block.{indent_of, block_lines, all_clean}
use Rattle.yaml_small.specs.declared.event.Event.{Event}
use Rattle.yaml_small.specs.declared.event.Event.TheVariants.{StreamEnd, DocumentStart}
use Rattle.yaml_small.specs.declared.state.Change.TheVariants.{Keep}
use Rattle.yaml_small.specs.declared.event.Style.{Style}
use Rattle.yaml_small.specs.declared.event.Style.TheVariants as styles
use Rattle.yaml_small.specs.declared.state.Mode.{Mode}
use Rattle.yaml_small.specs.declared.state.Mode.TheVariants.{Begin, Document, Root, Item, Key, Value, Open as Opened, AfterKey, Done, Trailing, Last, Ended}
use Rattle.yaml_small.specs.declared.state.Frame.{Frame}
use Rattle.yaml_small.specs.declared.state.Frame.TheVariants.{InList, InMap, InSeq, InPairs}
use Rattle.yaml_small.specs.Places.{At, past, over, next_at, flow_next, is_end, begins, at_dashes, at_dots, is_within, is_dash, is_colon, at_dash, list_ends, map_ends}
use Rattle.yaml_small.specs.Scalars.{Fault, Form, NotCarried, TooDeep, Cut, ScalarToken, begins_at, is_not_carried, is_tabbed, start_fault, plain_at, open_fault, quoted_at, scalar_token_at, colon_behind, key_at, is_key, begins_block, is_indicator, gathered, headed, block_at}
use Rattle.yaml_small.specs.Grammar.{closes_value, is_flow_colon}
use Rattle.yaml_small.specs.Step.{Transition, transition, opened, list_start, map_start, scalar_token_transition, block_transition, inline_at, node_at, below, tabbed, item_at, under, value_at, explicit_at, key_step, seq_entry, flow_key, pairs_entry, open_at, flow_fault, flow_value, after_key_at, seq_fault, seq_done, pairs_done, line_fault, list_done, map_done, dots_end, root_done, done_at, document_at, last_at, step_at}
use Rattle.yaml_small.specs.Stream.{State, top_of, moved, next}
use Rattle.yaml_small.specs.Uncarried.{Sight, here, behind_white, behind_dash, next_content, next_token, token_behind, sighted, is_question, has_lines, GoesOn, behind_head, goes_on, Uncarried, anchor, alias, tag, directive, explicit_key, tab, tab_behind, plain_lines, quoted_lines, block_head, key_in_list, second_document, behind_dots}

-- a fault alone
fault_split : {P : Type 0} (b : Bool) (x y : Fault) → (b ≡ true → x ≡ NotCarried → P) → (b ≡ false → y ≡ NotCarried → P) → cond b x y ≡ NotCarried → P
fault_split true x y p q e = p refl e
fault_split false x y p q e = q refl e

form_no : {P : Type 0} → Form ≡ NotCarried → P
form_no e = absurd cc

cut_no : {P : Type 0} → Cut ≡ NotCarried → P
cut_no e = absurd cc

one_of : {P : Type 0} (a b c d e : Bool) → (a ≡ true → P) → (b ≡ true → P) → (c ≡ true → P) → (d ≡ true → P) → (e ≡ true → P) → a || b || c || d || e ≡ true → P
one_of true b c d e p q r s t is = p refl
one_of false true c d e p q r s t is = q refl
one_of false false true d e p q r s t is = r refl
one_of false false false true e p q r s t is = s refl
one_of false false false false true p q r s t is = t refl
one_of false false false false false p q r s t is = absurd cc

either_of : {P : Type 0} (a b : Bool) → (a ≡ true → P) → (b ≡ true → P) → a || b ≡ true → P
either_of true b p q is = p refl
either_of false true p q is = q refl
either_of false false p q is = absurd cc

abbrev token_err : Fault → Result ScalarToken Fault
token_err f = Err f

abbrev step_err : Fault → Result Transition Fault
step_err f = Err f

abbrev next_err : Fault → Result (Event × State) Fault
next_err f = Err f

fault_is : (f : Fault) → token_err f ≡ token_err NotCarried → f ≡ NotCarried
fault_is f e = ap (λ (r : Result ScalarToken Fault). elim r as (λ (x : Result ScalarToken Fault). Fault) [ Ok w ↦ f | Err g ↦ g ]) e

step_fault : (f : Fault) → step_err f ≡ step_err NotCarried → f ≡ NotCarried
step_fault f e = ap (λ (r : Result Transition Fault). elim r as (λ (x : Result Transition Fault). Fault) [ Ok w ↦ f | Err g ↦ g ]) e

first_true : (a b : Bool) → a && b ≡ true → a ≡ true
first_true true b e = refl
first_true false b e = absurd cc

module _ (m : Mode) (frame : Option Frame) (a : At) where
  -- why a step, or a scan of a scalar, is refused in this way
  record Why (r : Result Transition Fault) : Type 0 where
    why : r ≡ Err NotCarried → Uncarried m frame a

  record WhyToken (r : Result ScalarToken Fault) : Type 0 where
    why_token : r ≡ Err NotCarried → Uncarried m frame a

  event : (g : Transition) → Why (Ok g)
  event g = record { why = λ e. absurd cc }

  either : (b : Bool) (x y : Result Transition Fault) → Why x → Why y → Why (cond b x y)
  either true x y p q = p
  either false x y p q = q

  -- with what the test says
  split : (b : Bool) (x y : Result Transition Fault) → (b ≡ true → Why x) → (b ≡ false → Why y) → Why (cond b x y)
  split true x y p q = p refl
  split false x y p q = q refl

  fault : (f : Fault) → (f ≡ NotCarried → Uncarried m frame a) → Why (Err f)
  fault f p = record { why = λ e. p (step_fault f e) }

  token_fault : (f : Fault) → (f ≡ NotCarried → Uncarried m frame a) → WhyToken (Err f)
  token_fault f p = record { why_token = λ e. p (fault_is f e) }

  token_either : (b : Bool) (x y : Result ScalarToken Fault) → (b ≡ true → WhyToken x) → (b ≡ false → WhyToken y) → WhyToken (cond b x y)
  token_either true x y p q = p refl
  token_either false x y p q = q refl

  token_there : (w : ScalarToken) → WhyToken (Ok w)
  token_there w = record { why_token = λ e. absurd cc }

  read : (r : Result ScalarToken Fault) (f : ScalarToken → Transition) → WhyToken r → Why (r >>= λ w. Ok (f w))
  read (Ok w) f p = event (f w)
  read (Err x) f p = record { why = λ e. p.why_token (ap (λ (y : Fault). Err y) (step_fault x e)) }

  starts : (v : Sight) (line : List ℕ) → (sighted v a).line ≡ line → is_not_carried line ≡ true → Uncarried m frame a
  starts v [] is e = absurd cc
  starts v (c ∷ cs) is e =
      one_of (eqb c 38) (eqb c 42) (eqb c 33) (is_tabbed (c ∷ cs)) (eqb c 63 && is_gap cs)
      (λ e. anchor v (ap (begins 38) is ∙ e)) (λ e. alias v (ap (begins 42) is ∙ e)) (λ e. tag v (ap (begins 33) is ∙ e))
      (λ e. tab v (ap is_tabbed is ∙ e)) (λ e. explicit_key v (ap is_question is ∙ e)) e

  started : (v : Sight) → start_fault (sighted v a) ≡ NotCarried → Uncarried m frame a
  started v e =
      let b = sighted v a in
      fault_split (is_end b) Cut _ (λ _ e. cut_no e)
      (λ _ e. fault_split (at_dashes b) NotCarried _ (λ is _. second_document v is)
      (λ _ e. fault_split (at_dots b) Form _ (λ _ e. form_no e)
      (λ _ e. fault_split (is_not_carried b.line) NotCarried Form (λ is _. starts v b.line refl is) (λ _ e. form_no e) e) e) e) e

  quoted : (v : Sight) (style : Style) (found : Found) → (found ≡ Err Open → has_lines (sighted v a).later ≡ true → GoesOn (sighted v a)) → WhyToken (quoted_at style (sighted v a) found)
  unfolding quoted_at
  quoted v style (Ok p) cut = token_there _
  quoted v style (Err Bad) cut = token_fault Form (λ e. form_no e)
  quoted v style (Err Open) cut = token_fault (open_fault (sighted v a).later) (λ e. quoted_lines v (cut refl (more (sighted v a).later e)))
    where
      more : (ls : List (List ℕ)) → open_fault ls ≡ NotCarried → has_lines ls ≡ true
      more [] e = form_no e
      more (l ∷ ls) e = refl

  token : (flow : Bool) (v : Sight) → WhyToken (scalar_token_at flow (sighted v a))
  unfolding scalar_token_at plain_at
  token flow v =
      let b = sighted v a in
      token_either (begins 39 b.line) _ _ (λ begin. quoted v styles.SingleQuoted (single_at (drop 1 b.line)) (λ cut more. (inl (begin, cut), more)))
      (λ _. token_either (begins 34 b.line) _ _ (λ begin. quoted v styles.DoubleQuoted (double_quoted_at (drop 1 b.line)) (λ cut more. (inr (begin, cut), more)))
      (λ _. token_either (begins_at flow b) _ _ (λ _. token_there _) (λ _. token_fault (start_fault b) (started v))))

  key : (v : Sight) → WhyToken (key_at (sighted v a))
  unfolding key_at
  key v = from (scalar_token_at false (sighted v a)) (token false v)
    where
      from : (r : Result ScalarToken Fault) → WhyToken r → WhyToken (r >>= colon_behind)
      from (Ok w) p = token_either (is_colon (over w.end).line) _ _ (λ _. token_there _) (λ _. token_fault Form (λ e. form_no e))
      from (Err f) p = p

  gather : (folded strip : Bool) (o : Option ℕ) (ls : List (List ℕ)) → WhyToken (gathered folded strip o ls)
  gather folded strip None ls = token_there _
  gather folded strip (Some n) ls = token_either (all_clean (block_lines n ls)) _ _ (λ _. token_there _) (λ _. token_fault Form (λ e. form_no e))

  head : (v : Sight) (folded strip : Bool) (parent : Option ℕ) (l : List ℕ) (ls : List (List ℕ)) → begins_block (sighted v a).line ≡ true → behind_head (sighted v a).line ≡ l → WhyToken (headed folded strip parent l ls)
  head v folded strip parent l ls begin is =
      token_either (ends l) _ _ (λ _. gather folded strip (indent_of parent ls) ls)
      (λ _. token_fault (cond (is_indicator l) NotCarried Form) (fault_split (is_indicator l) NotCarried Form (λ e _. block_head v begin (ap is_indicator is ∙ e)) (λ _ e. form_no e)))

  block : (v : Sight) (parent : Option ℕ) → begins_block (sighted v a).line ≡ true → WhyToken (block_at parent (sighted v a))
  unfolding block_at
  block v parent begin =
      let b = sighted v a in
      token_either (begins 45 (drop 1 b.line)) _ _ (λ dash. head v (begins 62 b.line) true parent (drop 1 (drop 1 b.line)) b.later begin (chosen (begins 45 (drop 1 b.line)) dash))
      (λ none. head v (begins 62 b.line) false parent (drop 1 b.line) b.later begin (passed (begins 45 (drop 1 b.line)) none))
    where
      chosen : (d : Bool) → d ≡ true → cond d (drop 1 (drop 1 (sighted v a).line)) (drop 1 (sighted v a).line) ≡ drop 1 (drop 1 (sighted v a).line)
      chosen d e = rw e refl

      passed : (d : Bool) → d ≡ false → cond d (drop 1 (drop 1 (sighted v a).line)) (drop 1 (sighted v a).line) ≡ drop 1 (sighted v a).line
      passed d e = rw e refl

  opens : (d : ℕ) (e : Event) (b : At) (n : Mode) (f : Frame) → Why (opened d e b n f)
  unfolding opened
  opens d e b n f = either (ltb d 64) _ _ (event _) (fault TooDeep (λ e. absurd cc))

  inline : (flow : Bool) (d : ℕ) (parent : Option ℕ) (v : Sight) → Why (inline_at flow d parent (sighted v a))
  unfolding inline_at
  inline flow d parent v =
      let b = sighted v a in
      either (begins 91 b.line) _ _ (opens _ _ _ _ _)
      (either (begins 123 b.line) _ _ (opens _ _ _ _ _)
      (split (not flow && begins_block b.line) _ _ (λ is. read (block_at parent b) block_transition (block v parent (second (not flow) (begins_block b.line) is)))
      (λ _. read (scalar_token_at flow b) (scalar_token_transition flow) (token flow v))))
    where
      second : (x y : Bool) → x && y ≡ true → y ≡ true
      second true y e = e
      second false y e = absurd cc

  list : (d : ℕ) (b : At) → Why (list_start d b)
  unfolding list_start
  list d b = opens _ _ _ _ _

  map : (d : ℕ) (b : At) → Why (map_start d b)
  unfolding map_start
  map d b = opens _ _ _ _ _

  node : (d : ℕ) (parent : Option ℕ) (v : Sight) → Why (node_at d parent (sighted v a))
  unfolding node_at
  node d parent v = either (is_dash (sighted v a).line) _ _ (list _ _) (either (is_key (sighted v a)) _ _ (map _ _) (inline false d parent v))

  lower : (d : ℕ) (parent : Option ℕ) (v : Sight) → Why (below d parent (sighted v a))
  unfolding below
  lower d parent v = either (is_within parent (sighted v a)) _ _ (node d parent v) (event _)

  item : (d col : ℕ) → Why (item_at d col a)
  unfolding item_at tabbed
  item d col =
      either (ends a.line) _ _ (lower d (Some col) next_content)
      (split (eqb (spaces a.line) (whites a.line)) (node_at d (Some col) (over a)) (tabbed d col (over a)) (λ _. node d (Some col) behind_white)
      (λ mixed. either (is_dash (over a).line || is_key (over a)) _ _ (fault NotCarried (λ _. tab_behind false mixed)) (inline false d (Some col) behind_white)))

  -- behind a dash that stands here
  dashed : (d col : ℕ) → Why (item_at d col (past 1 a))
  unfolding item_at tabbed
  dashed d col =
      either (ends (past 1 a).line) _ _ (lower d (Some col) next_content)
      (split (eqb (spaces (past 1 a).line) (whites (past 1 a).line)) (node_at d (Some col) (over (past 1 a))) (tabbed d col (over (past 1 a))) (λ _. node d (Some col) behind_dash)
      (λ mixed. either (is_dash (over (past 1 a)).line || is_key (over (past 1 a))) _ _ (fault NotCarried (λ _. tab_behind true mixed)) (inline false d (Some col) behind_dash)))

  value : (d col : ℕ) → Why (value_at d col a)
  unfolding value_at under
  value d col = either (ends a.line) _ _ (either (at_dash col (next_at a.later)) _ _ (list _ _) (lower d (Some col) next_content)) (inline false d (Some col) behind_white)

  explicit : (d : ℕ) → Why (explicit_at d a)
  unfolding explicit_at
  explicit d =
      either (ends a.line) _ _ (lower d None next_content)
      (split (eqb (spaces a.line) (whites a.line)) (inline_at false d None (over a)) (Err NotCarried) (λ _. inline false d None behind_white) (λ mixed. fault NotCarried (λ _. tab_behind false mixed)))

  keyed : Why (key_step a)
  unfolding key_step
  keyed = read (key_at a) _ (key here)

  seq : (inner : Bool) (d : ℕ) (v : Sight) → Why (seq_entry inner d (sighted v a))
  unfolding seq_entry
  seq inner d v = either (begins 93 (sighted v a).line) _ _ (event _) (inline true d None v)

  pairs : (inner : Bool) (v : Sight) → Why (pairs_entry inner (sighted v a))
  unfolding pairs_entry
  pairs inner v = either (begins 125 (sighted v a).line) _ _ (event _) (read (scalar_token_at true (sighted v a)) flow_key (token true v))

  flowing : (continues : Bool) → (continues ≡ true → goes_on m ≡ true) → flow_fault continues (flow_next a) ≡ NotCarried → Uncarried m frame a
  flowing continues on e =
      let b = flow_next a in
      fault_split (is_end b) Cut _ (λ _ e. cut_no e)
      (λ _ e. fault_split (at_dashes b) NotCarried _ (λ is _. second_document next_token is)
      (λ _ e. fault_split (at_dots b) Form _ (λ _ e. form_no e)
      (λ _ e. fault_split (continues && not (begins_flow_mark b.line)) NotCarried Form (λ is _. plain_lines (on (first_true continues (not (begins_flow_mark b.line)) is))) (λ _ e. form_no e) e) e) e) e

  flow_values : (d : ℕ) → Why (flow_value d (past 1 (flow_next a)))
  unfolding flow_value
  flow_values d = either (closes_value (flow_next (past 1 (flow_next a))).line) _ _ (event _) (inline true d None token_behind)

  after_key : (d : ℕ) (q continues : Bool) → (continues ≡ true → goes_on m ≡ true) → Why (after_key_at d q continues a)
  unfolding after_key_at
  after_key d q continues on = either (is_flow_colon q (flow_next a).line) _ _ (flow_values d) (either (closes_value (flow_next a).line) _ _ (event _) (fault (flow_fault continues (flow_next a)) (flowing continues on)))

  seqs_done : (inner : Bool) (d : ℕ) (continues : Bool) → frame ≡ Some (InSeq inner) → (continues ≡ true → goes_on m ≡ true) → Why (seq_done inner d continues (flow_next a))
  unfolding seq_done
  seqs_done inner d continues within on =
      either (begins 44 (flow_next a).line) _ _ (seq inner d token_behind)
      (either (begins 93 (flow_next a).line) _ _ (event _)
      (fault (seq_fault continues (flow_next a)) (fault_split (begins 58 (flow_next a).line) NotCarried _ (λ is _. key_in_list inner within is) (λ _ e. flowing continues on e))))

  pairs_end : (inner continues : Bool) → (continues ≡ true → goes_on m ≡ true) → Why (pairs_done inner continues (flow_next a))
  unfolding pairs_done
  pairs_end inner continues on =
      either (begins 44 (flow_next a).line) _ _ (pairs inner token_behind) (either (begins 125 (flow_next a).line) _ _ (event _) (fault (flow_fault continues (flow_next a)) (flowing continues on)))

  lined : (continues : Bool) → (continues ≡ true → goes_on m ≡ true) → line_fault continues a ≡ NotCarried → Uncarried m frame a
  lined continues on = fault_split (is_tabbed a.line || continues) NotCarried Form (λ is _. either_of (is_tabbed a.line) continues (λ e. tab here e) (λ e. plain_lines (on e)) is) (λ _ e. form_no e)

  list_end : (d col : ℕ) (continues : Bool) → (continues ≡ true → goes_on m ≡ true) → Why (list_done d col continues a)
  unfolding list_done
  list_end d col continues on = either (list_ends col a) _ _ (event _) (either (at_dash col a) _ _ (dashed d col) (fault (line_fault continues a) (lined continues on)))

  map_end : (col : ℕ) (continues : Bool) → (continues ≡ true → goes_on m ≡ true) → Why (map_done col continues a)
  unfolding map_done
  map_end col continues on = either (map_ends col a) _ _ (event _) (either (eqb a.col col) _ _ keyed (fault (line_fault continues a) (lined continues on)))

  root_end : (continues : Bool) → (continues ≡ true → goes_on m ≡ true) → Why (root_done continues a)
  unfolding root_done dots_end
  root_end continues on =
      either (is_end a) _ _ (event _)
      (either (at_dots a) _ _ (either (ends (drop 3 a.line)) _ _ (event _) (fault Form (λ e. form_no e)))
      (fault (cond (at_dashes a) NotCarried (line_fault continues a)) (fault_split (at_dashes a) NotCarried _ (λ is _. second_document here is) (λ _ e. lined continues on e))))

  documents : m ≡ Document → Why (document_at a)
  unfolding document_at
  documents at = either (is_end a) _ _ (event _) (either (at_dashes a) _ _ (event _) (split (begins 37 a.line) (Err NotCarried) (Ok (transition DocumentStart a (Root false) Keep)) (λ is. fault NotCarried (λ _. directive at is)) (λ _. event _)))

  ending : m ≡ Last → Why (last_at a)
  unfolding last_at
  ending at =
      split (is_end a) (Ok (transition StreamEnd a Ended Keep)) (Err (cond (at_dots a || is_comment_line a.line) Form NotCarried)) (λ _. event _)
      (λ some. fault (cond (at_dots a || is_comment_line a.line) Form NotCarried) (λ _. behind_dots at some))

-- each step
open_why : (frame : Option Frame) (d : ℕ) (a : At) → Why Opened frame a (open_at d frame a)
unfolding open_at
open_why None d a = fault Opened None a Form (λ e. form_no e)
open_why (Some (InList col)) d a = fault Opened (Some (InList col)) a Form (λ e. form_no e)
open_why (Some (InMap col)) d a = fault Opened (Some (InMap col)) a Form (λ e. form_no e)
open_why (Some (InSeq inner)) d a = seq Opened (Some (InSeq inner)) a inner d next_token
open_why (Some (InPairs inner)) d a = pairs Opened (Some (InPairs inner)) a inner next_token

done_why : (frame : Option Frame) (continues : Bool) (d : ℕ) (a : At) → Why (Done continues) frame a (done_at d continues frame a)
unfolding done_at
done_why None continues d a = root_end (Done continues) None a continues (λ e. e)
done_why (Some (InList col)) continues d a = list_end (Done continues) (Some (InList col)) a d col continues (λ e. e)
done_why (Some (InMap col)) continues d a = map_end (Done continues) (Some (InMap col)) a col continues (λ e. e)
done_why (Some (InSeq inner)) continues d a = seqs_done (Done continues) (Some (InSeq inner)) a inner d continues refl (λ e. e)
done_why (Some (InPairs inner)) continues d a = pairs_end (Done continues) (Some (InPairs inner)) a inner continues (λ e. e)

step_why : (m : Mode) (frame : Option Frame) (d : ℕ) (a : At) → Why m frame a (step_at m frame d a)
unfolding step_at
step_why Begin frame d a = event Begin frame a _
step_why Document frame d a = documents Document frame a refl
step_why (Root true) frame d a = explicit (Root true) frame a d
step_why (Root false) frame d a = node (Root false) frame a d None here
step_why (Item col) frame d a = item (Item col) frame a d col
step_why Key frame d a = keyed Key frame a
step_why (Value col) frame d a = value (Value col) frame a d col
step_why Opened frame d a = open_why frame d a
step_why (AfterKey q continues) frame d a = after_key (AfterKey q continues) frame a d q continues (λ e. e)
step_why (Done continues) frame d a = done_why frame continues d a
step_why Trailing frame d a = fault Trailing frame a Form (λ e. form_no e)
step_why Last frame d a = ending Last frame a refl
step_why Ended frame d a = event Ended frame a _

pub uncarried : (s : State) → next s ≡ Err NotCarried → Uncarried s.mode (top_of s.frames) s.at
unfolding next
uncarried s e = from _ (step_why s.mode (top_of s.frames) _ s.at) e
  where
    unmoved : (f : Fault) → next_err f ≡ next_err NotCarried → f ≡ NotCarried
    unmoved f e = ap (λ (r : Result (Event × State) Fault). elim r as (λ (x : Result (Event × State) Fault). Fault) [ Ok w ↦ f | Err g ↦ g ]) e

    from : (r : Result Transition Fault) → Why s.mode (top_of s.frames) s.at r → moved s.frames r ≡ Err NotCarried → Uncarried s.mode (top_of s.frames) s.at
    from (Ok g) p e = absurd cc
    from (Err f) p e = p.why (ap (λ (x : Fault). Err x) (unmoved f e))
