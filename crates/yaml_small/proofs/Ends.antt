-- Each step before the stream's end leaves less to tell, so each text is emitted to the end or refused.
use Rattle.std.proofs.Common.{◌≡◌, ℕ, zero, suc, ◌+◌, ◌-◌, ◌*◌, ◌<◌, ◌≤◌, ◌⊎◌, List, [], ◌∷◌, drop, take, length, Bool, true, false, not, cond, ◌&&◌, ◌||◌, eqb, ltb, Option, Some, None, Result, Ok, Err, refl, sym, ap, ◌∙◌, subst, inl, inr, arith, length-drop, is_some}
use Rattle.warg_values.specs.Reading.{◌>>=◌}
use Rattle.yaml_scan.specs.Bytes.{spaces, whites}
use Rattle.yaml_scan.specs.Lines.{is_passed, ends}
use Rattle.yaml_scan.specs.QuotedScan.{Found, Open as IsOpen, Bad}
use Rattle.yaml_scan.specs.Block.{indent_of, is_inside, block_lines, behind_block, all_clean}
use Rattle.yaml_small.specs.declared.event.Event.{Event}
use Rattle.yaml_small.specs.declared.event.Event.TheVariants.{StreamStart, StreamEnd, DocumentStart, DocumentEnd, SequenceStart, SequenceEnd, MappingStart, MappingEnd}
use Rattle.yaml_small.specs.declared.event.Style.{Style}
use Rattle.yaml_small.specs.declared.state.Mode.{Mode}
use Rattle.yaml_small.specs.declared.state.Mode.TheVariants.{Begin, Document, Root, Item, Key, Value, Open, AfterKey, Done, Trailing, Last, Ended}
use Rattle.yaml_small.specs.declared.state.Frame.{Frame}
use Rattle.yaml_small.specs.declared.state.Frame.TheVariants.{InList, InMap, InSeq, InPairs}
use Rattle.yaml_small.specs.declared.state.Change.{Change}
use Rattle.yaml_small.specs.declared.state.Change.TheVariants.{Keep, Push, Pop}
use Rattle.yaml_small.specs.Trees.{scalar_event}
use Rattle.yaml_small.specs.Places.{At, past, over, next_at, flow_next, is_end, begins, at_dashes, at_dots, is_within, is_dash, is_colon, at_dash, list_ends, map_ends}
use Rattle.yaml_small.specs.Scalars.{Fault, Form, NotCarried, TooDeep, ScalarToken, begins_at, start_fault, plain_at, quoted_at, scalar_token_at, colon_behind, key_at, is_key, gathered, is_indicator, headed, block_at, begins_block, continues_below}
use Rattle.yaml_small.specs.Grammar.{closes_value, is_flow_colon}
use Rattle.yaml_small.specs.Step.{Transition, transition, opened, list_start, map_start, settled, scalar_token_transition, block_transition, missing_transition, inline_at, node_at, below, tabbed, item_at, under, value_at, explicit_at, key_transition, key_step, seq_entry, flow_key, pairs_entry, open_at, flow_fault, flow_value, after_key_at, seq_fault, seq_done, pairs_done, line_fault, list_done, map_done, dots_end, root_done, done_at, document_at, last_at, step_at}
use Rattle.yaml_small.specs.Stream.{State, top_of, changed, behind, moved, start, next, Runs}
use Rattle.yaml_small.specs.RunLaws.{step_of, length_pushed, pair_is}
use Rattle.yaml_small.specs.FoundLaws.{transition_is}

-- how much text is left
abbrev size : List (List ℕ) → ℕ
size [] = 0
size (line ∷ lines) = suc (length line + size lines)

abbrev left : At → ℕ
left a = length a.line + size a.later

-- how much each mode leaves to tell beside the text
abbrev rank : Mode → ℕ
rank Begin = 7
rank Document = 6
rank (Root b) = 5
rank (Item col) = 5
rank Key = 2
rank (Value col) = 5
rank Open = 4
rank (AfterKey q g) = 3
rank (Done g) = 2
rank Trailing = 0
rank Last = 1
rank Ended = 0

abbrev load : Change → ℕ
load Keep = 2
load (Push f) = 4
load Pop = 0

abbrev weight : Transition → ℕ
weight g = 8 * left g.at + load g.change + rank g.mode

past-left : (n : ℕ) (a : At) → left (past n a) ≤ left a
past-left n a = omega (arith, length-drop n a.line)

over-left : (a : At) → left (over a) ≤ left a
over-left a = past-left (whites a.line) a

drops : (n : ℕ) (line : List ℕ) → length (drop n line) ≤ length line
drops n line = omega (arith, length-drop n line)

next-left : (lines : List (List ℕ)) → left (next_at lines) ≤ size lines
unfolding next_at
next-left [] = omega arith
next-left (line ∷ lines) = either (is_passed line) (next-left lines)
  where
    either : (b : Bool) → left (next_at lines) ≤ size lines → left (cond b (next_at lines) (record { col = spaces line; line = drop (spaces line) line; later = lines })) ≤ suc (length line + size lines)
    either true le = omega (arith, le)
    either false le = omega (arith, drops (spaces line) line)

below-left : (a : At) → left (next_at a.later) ≤ left a
below-left a = omega (arith, next-left a.later)

flow-left : (a : At) → left (flow_next a) ≤ left a
unfolding flow_next
flow-left a = either (ends a.line)
  where
    either : (b : Bool) → left (over (cond b (next_at a.later) a)) ≤ left a
    either true = omega (arith, over-left (next_at a.later), below-left a)
    either false = over-left a

-- a line that begins with a byte, or with a mark, has that much more
begun-left : (c : ℕ) (a : At) → begins c a.line ≡ true → left (past 1 a) < left a
begun-left c a e = some a.line e
  where
    some : (line : List ℕ) → begins c line ≡ true → length (drop 1 line) + size a.later < length line + size a.later
    some [] e = absurd cc
    some (d ∷ ds) e = omega arith

dash-left : (a : At) → is_dash a.line ≡ true → left (past 1 a) < left a
dash-left a e = some a.line e
  where
    some : (line : List ℕ) → is_dash line ≡ true → length (drop 1 line) + size a.later < length line + size a.later
    some [] e = absurd cc
    some (d ∷ ds) e = omega arith

colon-left : (a : At) → is_colon a.line ≡ true → left (past 1 a) < left a
colon-left a e = some a.line e
  where
    some : (line : List ℕ) → is_colon line ≡ true → length (drop 1 line) + size a.later < length line + size a.later
    some [] e = absurd cc
    some (d ∷ ds) e = omega arith

-- where a scalar ends no more is left
record Ends (limit : ℕ) (r : Result ScalarToken Fault) : Type 0 where
  within : (w : ScalarToken) → r ≡ Ok w → left w.end ≤ limit

read_scalar_token : ScalarToken → Result ScalarToken Fault
read_scalar_token w = Ok w

scalar_token_is : (v w : ScalarToken) → read_scalar_token v ≡ read_scalar_token w → v ≡ w
unfolding read_scalar_token
scalar_token_is v w e = cc

ends_ok : (limit : ℕ) (w : ScalarToken) → left w.end ≤ limit → Ends limit (Ok w)
unfolding read_scalar_token
ends_ok limit w le = record { within = λ v e. subst (λ (x : ScalarToken). left x.end ≤ limit) (scalar_token_is w v e) le }

ends_err : (limit : ℕ) (f : Fault) → Ends limit (Err f)
ends_err limit f = record { within = λ w e. absurd cc }

ends_either : (limit : ℕ) (b : Bool) (x y : Result ScalarToken Fault) → Ends limit x → Ends limit y → Ends limit (cond b x y)
ends_either limit true x y p q = p
ends_either limit false x y p q = q

quoted-ends : (style : Style) (a : At) (found : Found) → Ends (left a) (quoted_at style a found)
unfolding quoted_at
quoted-ends style a (Ok found) = ends_ok (left a) _ (past-left (length a.line - length found.1) a)
quoted-ends style a (Err IsOpen) = ends_err (left a) _
quoted-ends style a (Err Bad) = ends_err (left a) _

scalar_token-ends : (fl : Bool) (a : At) → Ends (left a) (scalar_token_at fl a)
unfolding scalar_token_at plain_at
scalar_token-ends fl a =
    ends_either (left a) (begins 39 a.line) _ _ (quoted-ends _ a _) (ends_either (left a) (begins 34 a.line) _ _ (quoted-ends _ a _)
    (ends_either (left a) (begins_at fl a) _ _ (ends_ok (left a) _ (past-left _ a)) (ends_err (left a) (start_fault a))))

behind-left : (indent : ℕ) (lines : List (List ℕ)) → size (behind_block indent lines) ≤ size lines
behind-left indent [] = omega arith
behind-left indent (line ∷ lines) = either (is_inside indent line) (behind-left indent lines)
  where
    either : (b : Bool) → size (behind_block indent lines) ≤ size lines → size (cond b (behind_block indent lines) (line ∷ lines)) ≤ suc (length line + size lines)
    either true le = omega (arith, le)
    either false le = omega arith

gathered-ends : (folded strip : Bool) (indent : Option ℕ) (lines : List (List ℕ)) → Ends (size lines) (gathered folded strip indent lines)
gathered-ends folded strip None lines = ends_ok (size lines) _ (next-left lines)
gathered-ends folded strip (Some indent) lines =
    let le : left (next_at (behind_block indent lines)) ≤ size lines = omega (arith, next-left (behind_block indent lines), behind-left indent lines) in
    ends_either (size lines) (all_clean (block_lines indent lines)) _ _ (ends_ok (size lines) _ le) (ends_err (size lines) Form)

more_room : (m n : ℕ) (r : Result ScalarToken Fault) → m ≤ n → Ends m r → Ends n r
more_room m n r le e = record { within = λ w is. omega (arith, e.within w is) }

headed-ends : (folded strip : Bool) (parent : Option ℕ) (line : List ℕ) (lines : List (List ℕ)) → Ends (size lines) (headed folded strip parent line lines)
headed-ends folded strip parent line lines =
    ends_either (size lines) (ends line) _ _ (gathered-ends folded strip (indent_of parent lines) lines) (ends_err (size lines) (cond (is_indicator line) NotCarried Form))

block-ends : (parent : Option ℕ) (a : At) → Ends (left a) (block_at parent a)
unfolding block_at
block-ends parent a =
    more_room (size a.later) (left a) _ (omega arith)
    (ends_either (size a.later) (begins 45 (drop 1 a.line)) _ _
    (headed-ends (begins 62 a.line) true parent (drop 1 (drop 1 a.line)) a.later) (headed-ends (begins 62 a.line) false parent (drop 1 a.line) a.later))

-- a key's colon leaves less
record KeyEnds (limit : ℕ) (r : Result ScalarToken Fault) : Type 0 where
  less : (w : ScalarToken) → r ≡ Ok w → left w.end < limit

colon-ends : (limit : ℕ) (w : ScalarToken) → left w.end ≤ limit → KeyEnds limit (colon_behind w)
unfolding read_scalar_token
colon-ends limit w le = either (is_colon (over w.end).line) refl
  where
    there : ScalarToken
    there = record { scalar = w.scalar; end = past 1 (over w.end) }

    either : (b : Bool) → is_colon (over w.end).line ≡ b → KeyEnds limit (cond b (Ok there) (Err Form))
    either true e = record {
      less = λ v is.
          let near : left there.end < limit = omega (arith, colon-left (over w.end) e, over-left w.end, le) in
          subst (λ (x : ScalarToken). left x.end < limit) (scalar_token_is there v is) near;
    }
    either false e = record { less = λ v is. absurd cc }

key-ends : (a : At) → KeyEnds (left a) (key_at a)
unfolding key_at
key-ends a = from (scalar_token_at false a) (scalar_token-ends false a)
  where
    from : (r : Result ScalarToken Fault) → Ends (left a) r → KeyEnds (left a) (r >>= colon_behind)
    from (Ok w) e = colon-ends (left a) w (e.within w refl)
    from (Err f) e = record { less = λ w is. absurd cc }

-- a step leaves less than this, and pops only where something is open
record Falls (limit : ℕ) (popping : Bool) (r : Result Transition Fault) : Type 0 where
  less : (g : Transition) → r ≡ Ok g → weight g < limit
  pops : (g : Transition) → r ≡ Ok g → popping ≡ false → g.change ≡ Pop → ⊥

f_transition : (limit : ℕ) (p : Bool) (g : Transition) → weight g < limit → (p ≡ false → g.change ≡ Pop → ⊥) → Falls limit p (Ok g)
f_transition limit p g lt keeps = record {
  less = λ h e. subst (λ (x : Transition). weight x < limit) (transition_is g h e) lt;
  pops = λ h e none pop. keeps none (ap (λ (x : Transition). x.change) (transition_is g h e) ∙ pop);
}

f_err : (limit : ℕ) (p : Bool) (f : Fault) → Falls limit p (Err f)
f_err limit p f = record { less = λ g e. absurd cc; pops = λ g e none pop. absurd cc }

f_either : (limit : ℕ) (p b : Bool) (x y : Result Transition Fault) → (b ≡ true → Falls limit p x) → (b ≡ false → Falls limit p y) → Falls limit p (cond b x y)
f_either limit p true x y here there = here refl
f_either limit p false x y here there = there refl

f_more : (m n : ℕ) (p : Bool) (r : Result Transition Fault) → m ≤ n → Falls m p r → Falls n p r
f_more m n p r le f = record { less = λ g e. omega (arith, f.less g e); pops = f.pops }

f_any : (limit : ℕ) (p : Bool) (r : Result Transition Fault) → Falls limit false r → Falls limit p r
f_any limit p r f = record { less = f.less; pops = λ g e none. f.pops g e refl }

kept : {P : Type 0} (b : Bool) → b ≡ false → Keep ≡ Pop → P
kept b none pop = absurd cc

pushed : {P : Type 0} (b : Bool) (f : Frame) → b ≡ false → Push f ≡ Pop → P
pushed b f none pop = absurd cc

allowed : {P : Type 0} (c : Change) → true ≡ false → c ≡ Pop → P
allowed c none pop = absurd cc

opens : (limit : ℕ) (p : Bool) (d : ℕ) (e : Event) (a : At) (m : Mode) (f : Frame) → 8 * left a + 4 + rank m < limit → Falls limit p (opened d e a m f)
unfolding opened
opens limit p d e a m f lt = f_either limit p (ltb d 64) _ _ (λ _. f_transition limit p (transition e a m (Push f)) lt (pushed p f)) (λ _. f_err limit p TooDeep)

settled-weight : (fl g : Bool) (e : Event) (c : Change) (a : At) → weight (settled fl g e c a) ≤ 8 * left a + load c + 2
unfolding settled
settled-weight true g e c a = omega arith
settled-weight false g e c a = either (ends a.line)
  where
    either : (b : Bool) → weight (cond b (transition e (next_at a.later) (Done g) c) (transition e (over a) Trailing c)) ≤ 8 * left a + load c + 2
    either true = omega (arith, below-left a)
    either false = omega (arith, over-left a)

settled-change : (fl g : Bool) (e : Event) (c : Change) (a : At) → (settled fl g e c a).change ≡ c
unfolding settled
settled-change true g e c a = refl
settled-change false g e c a = either (ends a.line)
  where
    either : (b : Bool) → (cond b (transition e (next_at a.later) (Done g) c) (transition e (over a) Trailing c)).change ≡ c
    either true = refl
    either false = refl

settles : (limit : ℕ) (p fl g : Bool) (e : Event) (a : At) → 8 * left a + 4 < limit → Falls limit p (Ok (settled fl g e Keep a))
settles limit p fl g e a lt =
    f_transition limit p (settled fl g e Keep a) (omega (arith, settled-weight fl g e Keep a)) (λ none pop. kept p none (sym (settled-change fl g e Keep a) ∙ pop))

closes : (limit : ℕ) (fl : Bool) (e : Event) (a : At) → 8 * left a + 2 < limit → Falls limit true (Ok (settled fl false e Pop a))
closes limit fl e a lt = f_transition limit true (settled fl false e Pop a) (omega (arith, settled-weight fl false e Pop a)) (λ none pop. allowed Pop none refl)

scalar_token_falls : (limit : ℕ) (p : Bool) (m : ℕ) (r : Result ScalarToken Fault) (f : ScalarToken → Transition) → Ends m r → ((w : ScalarToken) → left w.end ≤ m → Falls limit p (Ok (f w))) → Falls limit p (r >>= λ w. Ok (f w))
scalar_token_falls limit p m (Ok w) f e each = each w (e.within w refl)
scalar_token_falls limit p m (Err x) f e each = f_err limit p x

inline : (limit : ℕ) (p fl : Bool) (d : ℕ) (parent : Option ℕ) (a : At) → 8 * left a + 4 < limit → Falls limit p (inline_at fl d parent a)
unfolding inline_at
inline limit p fl d parent a lt =
    f_either limit p (begins 91 a.line) _ _ (λ e. opens limit p d SequenceStart (past 1 a) Open (InSeq fl) (omega (arith, begun-left 91 a e)))
    (λ _. f_either limit p (begins 123 a.line) _ _ (λ e. opens limit p d MappingStart (past 1 a) Open (InPairs fl) (omega (arith, begun-left 123 a e)))
    (λ _. f_either limit p (not fl && begins_block a.line) _ _
    (λ _. scalar_token_falls limit p (left a) (block_at parent a) block_transition (block-ends parent a) (λ w le. f_transition limit p (block_transition w) (omega (arith, le)) (kept p)))
    (λ _. scalar_token_falls limit p (left a) (scalar_token_at fl a) (scalar_token_transition fl) (scalar_token-ends fl a)
    (λ w le. settles limit p fl (continues_below w.scalar.style w.end) (scalar_event w.scalar) w.end (omega (arith, le))))))

list : (limit : ℕ) (p : Bool) (d : ℕ) (a : At) → is_dash a.line ≡ true → 8 * left a + 4 < limit → Falls limit p (list_start d a)
unfolding list_start
list limit p d a e lt = opens limit p d SequenceStart (past 1 a) (Item a.col) (InList a.col) (omega (arith, dash-left a e))

node : (limit : ℕ) (p : Bool) (d : ℕ) (parent : Option ℕ) (a : At) → 8 * left a + 6 < limit → Falls limit p (node_at d parent a)
unfolding node_at map_start
node limit p d parent a lt =
    f_either limit p (is_dash a.line) _ _ (λ e. list limit p d a e (omega arith))
    (λ _. f_either limit p (is_key a) _ _ (λ _. opens limit p d MappingStart a Key (InMap a.col) (omega arith)) (λ _. inline limit p false d parent a (omega arith)))

misses : (limit : ℕ) (p : Bool) (a : At) → 8 * left a + 4 < limit → Falls limit p (Ok (missing_transition a))
misses limit p a lt = f_transition limit p (missing_transition a) (omega arith) (kept p)

lower : (limit : ℕ) (p : Bool) (d : ℕ) (parent : Option ℕ) (a : At) → 8 * left a + 6 < limit → Falls limit p (below d parent a)
unfolding below
lower limit p d parent a lt = f_either limit p (is_within parent a) _ _ (λ _. node limit p d parent a lt) (λ _. misses limit p a (omega arith))

item : (limit : ℕ) (p : Bool) (d col : ℕ) (a : At) → 8 * left a + 6 < limit → Falls limit p (item_at d col a)
unfolding item_at tabbed
item limit p d col a lt =
    f_either limit p (ends a.line) _ _ (λ _. lower limit p d (Some col) (next_at a.later) (omega (arith, below-left a)))
    (λ _. f_either limit p (eqb (spaces a.line) (whites a.line)) _ _ (λ _. node limit p d (Some col) (over a) (omega (arith, over-left a)))
    (λ _. f_either limit p (is_dash (over a).line || is_key (over a)) _ _ (λ _. f_err limit p NotCarried) (λ _. inline limit p false d (Some col) (over a) (omega (arith, over-left a)))))

and_right : (a b : Bool) → a && b ≡ true → b ≡ true
and_right true b e = e
and_right false b e = absurd cc

value : (limit : ℕ) (p : Bool) (d col : ℕ) (a : At) → 8 * left a + 6 < limit → Falls limit p (value_at d col a)
unfolding value_at under
value limit p d col a lt =
    let b = next_at a.later in
    let le : left b ≤ left a = below-left a in
    f_either limit p (ends a.line) _ _
    (λ _. f_either limit p (at_dash col b) _ _ (λ e. list limit p d b (and_right (eqb b.col col) (is_dash b.line) e) (omega (arith, le))) (λ _. lower limit p d (Some col) b (omega (arith, le))))
    (λ _. inline limit p false d (Some col) (over a) (omega (arith, over-left a)))

explicit : (limit : ℕ) (p : Bool) (d : ℕ) (a : At) → 8 * left a + 6 < limit → Falls limit p (explicit_at d a)
unfolding explicit_at
explicit limit p d a lt =
    f_either limit p (ends a.line) _ _ (λ _. lower limit p d None (next_at a.later) (omega (arith, below-left a)))
    (λ _. f_either limit p (eqb (spaces a.line) (whites a.line)) _ _ (λ _. inline limit p false d None (over a) (omega (arith, over-left a))) (λ _. f_err limit p NotCarried))

key : (limit : ℕ) (p : Bool) (a : At) → 8 * left a < limit → Falls limit p (key_step a)
unfolding key_step
key limit p a lt = from (key_at a) (key-ends a)
  where
    from : (r : Result ScalarToken Fault) → KeyEnds (left a) r → Falls limit p (r >>= λ w. Ok (key_transition a.col w))
    from (Ok w) e = f_transition limit p (key_transition a.col w) (omega (arith, e.less w refl)) (kept p)
    from (Err f) e = f_err limit p f

seq : (limit : ℕ) (fl : Bool) (d : ℕ) (a : At) → 8 * left a + 4 < limit → Falls limit true (seq_entry fl d a)
unfolding seq_entry
seq limit fl d a lt =
    f_either limit true (begins 93 a.line) _ _ (λ e. closes limit fl SequenceEnd (past 1 a) (omega (arith, begun-left 93 a e))) (λ _. inline limit true true d None a lt)

pairs : (limit : ℕ) (fl : Bool) (a : At) → 8 * left a + 5 < limit → Falls limit true (pairs_entry fl a)
unfolding pairs_entry
pairs limit fl a lt =
    f_either limit true (begins 125 a.line) _ _ (λ e. closes limit fl MappingEnd (past 1 a) (omega (arith, begun-left 125 a e)))
    (λ _. scalar_token_falls limit true (left a) (scalar_token_at true a) flow_key (scalar_token-ends true a) (λ w le. f_transition limit true (flow_key w) (omega (arith, le)) (kept true)))

opening : (limit d : ℕ) (f : Option Frame) (a : At) → 8 * left a + 5 < limit → Falls limit (is_some f) (open_at d f a)
unfolding open_at
opening limit d None a lt = f_err limit false Form
opening limit d (Some (InList col)) a lt = f_err limit true Form
opening limit d (Some (InMap col)) a lt = f_err limit true Form
opening limit d (Some (InSeq fl)) a lt = seq limit fl d (flow_next a) (omega (arith, flow-left a))
opening limit d (Some (InPairs fl)) a lt = pairs limit fl (flow_next a) (omega (arith, flow-left a))

flow_colon_begins : (q : Bool) (line : List ℕ) → is_flow_colon q line ≡ true → begins 58 line ≡ true
flow_colon_begins q line e = and_left (begins 58 line) _ e
  where
    and_left : (a b : Bool) → a && b ≡ true → a ≡ true
    and_left true b e = refl
    and_left false b e = absurd cc

after_key : (limit : ℕ) (p : Bool) (d : ℕ) (q g : Bool) (a : At) → 8 * left a + 4 < limit → Falls limit p (after_key_at d q g a)
unfolding after_key_at flow_value
after_key limit p d q g a lt =
    let c = flow_next a in
    let le : left c ≤ left a = flow-left a in
    f_either limit p (is_flow_colon q c.line) _ _
    (λ e. let less : left (past 1 c) < left c = begun-left 58 c (flow_colon_begins q c.line e) in
    f_either limit p (closes_value (flow_next (past 1 c)).line) _ _ (λ _. misses limit p (past 1 c) (omega (arith, less, le)))
    (λ _. inline limit p true d None (flow_next (past 1 c)) (omega (arith, less, le, flow-left (past 1 c)))))
    (λ _. f_either limit p (closes_value c.line) _ _ (λ _. misses limit p a lt) (λ _. f_err limit p (flow_fault g c)))

seq_behind : (limit : ℕ) (fl : Bool) (d : ℕ) (g : Bool) (a : At) → 8 * left a < limit → Falls limit true (seq_done fl d g a)
unfolding seq_done
seq_behind limit fl d g a lt =
    f_either limit true (begins 44 a.line) _ _ (λ e. seq limit fl d (flow_next (past 1 a)) (omega (arith, flow-left (past 1 a), begun-left 44 a e)))
    (λ _. f_either limit true (begins 93 a.line) _ _ (λ e. closes limit fl SequenceEnd (past 1 a) (omega (arith, begun-left 93 a e))) (λ _. f_err limit true (seq_fault g a)))

pairs_behind : (limit : ℕ) (fl g : Bool) (a : At) → 8 * left a < limit → Falls limit true (pairs_done fl g a)
unfolding pairs_done
pairs_behind limit fl g a lt =
    f_either limit true (begins 44 a.line) _ _ (λ e. pairs limit fl (flow_next (past 1 a)) (omega (arith, flow-left (past 1 a), begun-left 44 a e)))
    (λ _. f_either limit true (begins 125 a.line) _ _ (λ e. closes limit fl MappingEnd (past 1 a) (omega (arith, begun-left 125 a e))) (λ _. f_err limit true (flow_fault g a)))

root : (limit : ℕ) (g : Bool) (a : At) → 8 * left a + 3 < limit → Falls limit false (root_done g a)
unfolding root_done dots_end
root limit g a lt =
    f_either limit false (is_end a) _ _ (λ _. f_transition limit false (transition DocumentEnd a Last Keep) (omega arith) (kept false))
    (λ _. f_either limit false (at_dots a) _ _
    (λ _. f_either limit false (ends (drop 3 a.line)) _ _ (λ _. f_transition limit false (transition DocumentEnd (next_at a.later) Last Keep) (omega (arith, below-left a)) (kept false)) (λ _. f_err limit false Form))
    (λ _. f_err limit false _))

behind_node : (limit d : ℕ) (g : Bool) (f : Option Frame) (a : At) → 8 * left a + 3 < limit → Falls limit (is_some f) (done_at d g f a)
unfolding done_at list_done map_done
behind_node limit d g None a lt = root limit g a lt
behind_node limit d g (Some (InList col)) a lt =
    f_either limit true (list_ends col a) _ _ (λ _. f_transition limit true (transition SequenceEnd a (Done false) Pop) (omega arith) (allowed Pop))
    (λ _. f_either limit true (at_dash col a) _ _ (λ e. item limit true d col (past 1 a) (omega (arith, dash-left a (and_right (eqb a.col col) (is_dash a.line) e)))) (λ _. f_err limit true (line_fault g a)))
behind_node limit d g (Some (InMap col)) a lt =
    f_either limit true (map_ends col a) _ _ (λ _. f_transition limit true (transition MappingEnd a (Done false) Pop) (omega arith) (allowed Pop))
    (λ _. f_either limit true (eqb a.col col) _ _ (λ _. key limit true a (omega arith)) (λ _. f_err limit true (line_fault g a)))
behind_node limit d g (Some (InSeq fl)) a lt = seq_behind limit fl d g (flow_next a) (omega (arith, flow-left a))
behind_node limit d g (Some (InPairs fl)) a lt = pairs_behind limit fl g (flow_next a) (omega (arith, flow-left a))

document : (limit : ℕ) (p : Bool) (a : At) → 8 * left a + 7 < limit → Falls limit p (document_at a)
unfolding document_at
document limit p a lt =
    f_either limit p (is_end a) _ _ (λ _. f_transition limit p (transition StreamEnd a Ended Keep) (omega arith) (kept p))
    (λ _. f_either limit p (at_dashes a) _ _ (λ _. f_transition limit p (transition DocumentStart (past 3 a) (Root true) Keep) (omega (arith, past-left 3 a)) (kept p))
    (λ _. f_either limit p (begins 37 a.line) _ _ (λ _. f_err limit p NotCarried) (λ _. f_transition limit p (transition DocumentStart a (Root false) Keep) (omega arith) (kept p))))

last : (limit : ℕ) (p : Bool) (a : At) → 8 * left a + 2 < limit → Falls limit p (last_at a)
unfolding last_at
last limit p a lt = f_either limit p (is_end a) _ _ (λ _. f_transition limit p (transition StreamEnd a Ended Keep) (omega arith) (kept p)) (λ _. f_err limit p _)

step_falls : (m : Mode) (f : Option Frame) (d : ℕ) (a : At) → (m ≡ Ended → ⊥) → Falls (8 * left a + 2 + rank m) (is_some f) (step_at m f d a)
unfolding step_at
step_falls Begin f d a on = f_transition _ (is_some f) (transition StreamStart a Document Keep) (omega arith) (kept (is_some f))
step_falls Document f d a on = document _ (is_some f) a (omega arith)
step_falls (Root true) f d a on = explicit _ (is_some f) d a (omega arith)
step_falls (Root false) f d a on = node _ (is_some f) d None a (omega arith)
step_falls (Item col) f d a on = item _ (is_some f) d col a (omega arith)
step_falls Key f d a on = key _ (is_some f) a (omega arith)
step_falls (Value col) f d a on = value _ (is_some f) d col a (omega arith)
step_falls Open f d a on = opening _ d f a (omega arith)
step_falls (AfterKey q g) f d a on = after_key _ (is_some f) d q g a (omega arith)
step_falls (Done g) f d a on = behind_node _ d g f a (omega arith)
step_falls Trailing f d a on = f_err _ (is_some f) Form
step_falls Last f d a on = last _ (is_some f) a (omega arith)
step_falls Ended f d a on = absurd (on refl)

-- what a state leaves to tell
abbrev total : State → ℕ
total s = 8 * left s.at + 2 * length s.frames + rank s.mode

popped_length : (f : Frame) (k : List Frame) → length (take (suc (length k) - 1) (f ∷ k)) ≡ length k
popped_length f k =
    let n : suc (length k) - 1 ≡ length k = omega arith in
    ap (λ (m : ℕ). length (take m (f ∷ k))) n ∙ front f k
  where
    front : (f : Frame) (k : List Frame) → length (take (length k) (f ∷ k)) ≡ length k
    front f [] = refl
    front f (x ∷ k) = ap (λ (m : ℕ). suc m) (front x k)

shorter : (k : List Frame) (g : Transition) (limit : ℕ) → (is_some (top_of k) ≡ false → g.change ≡ Pop → ⊥) → weight g < limit + 2 → total (behind k g) < limit + 2 * length k
shorter k g limit pops lt = from k g.change refl pops
  where
    from : (k : List Frame) (c : Change) → g.change ≡ c → (is_some (top_of k) ≡ false → g.change ≡ Pop → ⊥) → total (behind k g) < limit + 2 * length k
    from k Keep e pops = omega (arith, lt, ap load e, ap (λ (c : Change). length (changed c k)) e)
    from k (Push f) e pops = omega (arith, lt, ap load e, ap (λ (c : Change). length (changed c k)) e, length_pushed k f)
    from [] Pop e pops = absurd (pops refl e)
    from (f ∷ k) Pop e pops = omega (arith, lt, ap load e, ap (λ (c : Change). length (changed c (f ∷ k))) e, popped_length f k)

next-less : (s m : State) (e : Event) → (s.mode ≡ Ended → ⊥) → next s ≡ Ok (e, m) → total m < total s
unfolding next
next-less s m e on is = from (step_of s) (step_falls s.mode (top_of s.frames) (length s.frames) s.at on) is
  where
    from : (r : Result Transition Fault) → Falls (8 * left s.at + 2 + rank s.mode) (is_some (top_of s.frames)) r → moved s.frames r ≡ Ok (e, m) → total m < total s
    from (Ok g) f is =
        let same = pair_is (g.event, behind s.frames g) (e, m) is in
        let lt : weight g < 8 * left s.at + rank s.mode + 2 = omega (arith, f.less g refl) in
        let near = shorter s.frames g (8 * left s.at + rank s.mode) (f.pops g refl) lt in
        subst (λ (x : State). total x < total s) (ap (λ (p : Event × State). p.1) same) (omega (arith, near))
    from (Err x) f is = absurd cc

ended_or : (m : Mode) → (m ≡ Ended) ⊎ (m ≡ Ended → ⊥)
ended_or Begin = inr (λ e. absurd cc)
ended_or Document = inr (λ e. absurd cc)
ended_or (Root b) = inr (λ e. absurd cc)
ended_or (Item col) = inr (λ e. absurd cc)
ended_or Key = inr (λ e. absurd cc)
ended_or (Value col) = inr (λ e. absurd cc)
ended_or Open = inr (λ e. absurd cc)
ended_or (AfterKey q g) = inr (λ e. absurd cc)
ended_or (Done g) = inr (λ e. absurd cc)
ended_or Trailing = inr (λ e. absurd cc)
ended_or Last = inr (λ e. absurd cc)
ended_or Ended = inl refl

-- how a run comes out
pub record Outcome (s : State) : Type 0 where
  pub events : List Event
  pub state : State
  pub runs : Runs s events state
  pub ending : (state.mode ≡ Ended) ⊎ ((fault : Fault) × (next state ≡ Err fault))

stepped : (n : ℕ) (s : State) → total s < suc n → (s.mode ≡ Ended → ⊥) → ((t : State) → total t < n → Outcome t) → (r : Result (Event × State) Fault) → next s ≡ r → Outcome s
stepped n s lt on rest (Err fault) is = record { events = []; state = s; runs = refl; ending = inr (fault, is) }
stepped n s lt on rest (Ok emitted) is =
    let o = rest emitted.1 (omega (arith, next-less s emitted.1 emitted.0 on is)) in
    record { events = emitted.0 ∷ o.events; state = o.state; runs = (emitted.1, is, o.runs); ending = o.ending }

outcome : (n : ℕ) (s : State) → total s < n → Outcome s
outcome zero s lt = absurd (omega arith)
outcome (suc n) s lt =
    elim (ended_or s.mode) [
      | inl end ↦ record { events = []; state = s; runs = refl; ending = inl end }
      | inr on ↦ stepped n s lt on (outcome n) (next s) refl
    ]

pub text_outcome : (text : List ℕ) → Outcome (start text)
text_outcome text = outcome (suc (total (start text))) (start text) (omega arith)
