-- At most 64 lists and maps are open.
use Rattle.std.proofs.Common.{◌≡◌, ℕ, ◌-◌, ◌≤◌, List, [], ◌∷◌, ◌++◌, length, drop, Bool, true, false, not, ◌||◌, cond, ◌&&◌, ltb, Option, Some, None, Result, Ok, Err, refl, sym, subst, arith, length-take}
use Rattle.std.proofs.lemmas.Bool.{ltb-true}
use Rattle.warg_values.specs.Reading.{◌>>=◌}
use Rattle.yaml_scan.specs.Lines.{ends, is_comment_line}
use Rattle.yaml_small.specs.declared.event.Event.{Event}
use Rattle.yaml_small.specs.declared.event.Event.TheVariants.{StreamStart, StreamEnd, DocumentStart, DocumentEnd, SequenceStart, SequenceEnd, MappingStart, MappingEnd}
use Rattle.yaml_small.specs.declared.state.Mode.{Mode}
use Rattle.yaml_small.specs.declared.state.Mode.TheVariants.{Begin, Document, Root, Item, Key, Value, Open, AfterKey, Done, Trailing, Last, Ended}
use Rattle.yaml_small.specs.declared.state.Frame.{Frame}
use Rattle.yaml_small.specs.declared.state.Frame.TheVariants.{InList, InMap, InSeq, InPairs}
use Rattle.yaml_small.specs.Trees.{scalar_event}
use Rattle.yaml_small.specs.Places.{At, past, over, next_at, flow_next, begins, is_end, at_dashes, at_dots}
use Rattle.yaml_small.specs.Scalars.{Fault, Form, NotCarried, ScalarToken, scalar_token_at, block_at, key_at, begins_block, continues_below}
use Rattle.yaml_small.specs.Step.{Transition, transition, opened, list_start, map_start, settled, missing_transition, scalar_token_transition, block_transition, block_end, inline_at, node_at, below, tabbed, item_at, under, value_at, explicit_at, key_step, seq_entry, pairs_entry, open_at, flow_value, after_key_at, seq_done, pairs_done, list_done, map_done, line_fault, dots_end, root_done, done_at, document_at, last_at, step_at}
use Rattle.yaml_small.specs.Stream.{State, top_of, changed, behind, start, Runs}
use Rattle.yaml_small.specs.FoundLaws.{transition_is}
use Rattle.yaml_small.specs.RunLaws.{from_of, length_pushed}

-- what settles changes no more of what is open
pub settled_change : (k : List Frame) (flow g : Bool) (e : Event) (h : Transition) (a : At) → changed (settled flow g e h.change a).change k ≡ changed h.change k
unfolding settled
settled_change k true g e h a = refl
settled_change k false g e h a = from (ends a.line)
  where
    from : (b : Bool) → changed (cond b (transition e (next_at a.later) (Done g) h.change) (transition e (over a) Trailing h.change)).change k ≡ changed h.change k
    from true = refl
    from false = refl

-- behind a step there is room
record Room (k : List Frame) (r : Result Transition Fault) : Type 0 where
  within : (g : Transition) → r ≡ Ok g → length (changed g.change k) ≤ 64

popped-within : (k : List Frame) (e : Event) (a : At) → length k ≤ 64 → length (changed (block_end e a).change k) ≤ 64
popped-within k e a le = omega (arith, length-take (length k - 1) k)

module _ (k : List Frame) (le : length k ≤ 64) where
  either : (b : Bool) (x y : Result Transition Fault) → Room k x → Room k y → Room k (cond b x y)
  either true x y p q = p
  either false x y p q = q

  fault : (f : Fault) → Room k (Err f)
  fault f = record { within = λ g e. absurd cc }

  event : (g : Transition) → length (changed g.change k) ≤ 64 → Room k (Ok g)
  event g room = record { within = λ h e. subst (λ (x : Transition). length (changed x.change k) ≤ 64) (transition_is g h e) room }

  keeps : (e : Event) (a : At) (m : Mode) → Room k (Ok (transition e a m (missing_transition a).change))
  keeps e a m = event (transition e a m (missing_transition a).change) le

  read : (r : Result ScalarToken Fault) (f : ScalarToken → Transition) → ((w : ScalarToken) → length (changed (f w).change k) ≤ 64) → Room k (r >>= λ w. Ok (f w))
  read (Ok w) f room = event (f w) (room w)
  read (Err x) f room = fault x

  settles : (fl g : Bool) (e : Event) (h : Transition) (a : At) → length (changed h.change k) ≤ 64 → Room k (Ok (settled fl g e h.change a))
  settles fl g e h a room = event (settled fl g e h.change a) (subst (λ (x : List Frame). length x ≤ 64) (sym (settled_change k fl g e h a)) room)

  decided : (b : Bool) (x y : Result Transition Fault) → (b ≡ true → Room k x) → Room k y → Room k (cond b x y)
  decided true x y p q = p refl
  decided false x y p q = q

  pushed : (f : Frame) → ltb (length k) 64 ≡ true → length (k ++ (f ∷ [])) ≤ 64
  pushed f is = omega (arith, ltb-true (length k) 64 is, length_pushed k f)

  opens : (e : Event) (a : At) (m : Mode) (f : Frame) → Room k (opened (length k) e a m f)
  unfolding opened
  opens e a m f = decided (ltb (length k) 64) _ _ (λ is. event _ (pushed f is)) (fault _)

  settled-within : (fl g : Bool) (e : Event) (h : Transition) (a : At) → length (changed h.change k) ≤ 64 → length (changed (settled fl g e h.change a).change k) ≤ 64
  settled-within fl g e h a room = subst (λ (x : List Frame). length x ≤ 64) (sym (settled_change k fl g e h a)) room

  inline : (fl : Bool) (parent : Option ℕ) (a : At) → Room k (inline_at fl (length k) parent a)
  unfolding inline_at
  inline fl parent a =
      either (begins 91 a.line) _ _ (opens SequenceStart (past 1 a) Open (InSeq fl)) (either (begins 123 a.line) _ _ (opens MappingStart (past 1 a) Open (InPairs fl))
      (either (not fl && begins_block a.line) _ _ (read (block_at parent a) block_transition (λ w. le))
      (read (scalar_token_at fl a) (scalar_token_transition fl) (λ w. settled-within fl (continues_below w.scalar.style w.end) (scalar_event w.scalar) (missing_transition a) w.end le))))

  list : (a : At) → Room k (list_start (length k) a)
  unfolding list_start
  list a = opens _ _ _ _

  map : (a : At) → Room k (map_start (length k) a)
  unfolding map_start
  map a = opens _ _ _ _

  node : (parent : Option ℕ) (a : At) → Room k (node_at (length k) parent a)
  unfolding node_at
  node parent a = either _ _ _ (list a) (either _ _ _ (map a) (inline false parent a))

  lower : (parent : Option ℕ) (a : At) → Room k (below (length k) parent a)
  unfolding below
  lower parent a = either _ _ _ (node parent a) (event (missing_transition a) le)

  item : (col : ℕ) (a : At) → Room k (item_at (length k) col a)
  unfolding item_at tabbed
  item col a = either _ _ _ (lower _ _) (either _ _ _ (node _ _) (either _ _ _ (fault _) (inline _ _ _)))

  value : (col : ℕ) (a : At) → Room k (value_at (length k) col a)
  unfolding value_at under
  value col a = either _ _ _ (either _ _ _ (list _) (lower _ _)) (inline _ _ _)

  explicit : (a : At) → Room k (explicit_at (length k) a)
  unfolding explicit_at
  explicit a = either _ _ _ (lower _ _) (either _ _ _ (inline _ _ _) (fault _))

  key : (a : At) → Room k (key_step a)
  unfolding key_step
  key a = read (key_at a) _ (λ w. le)

  seq : (fl : Bool) (a : At) → Room k (seq_entry fl (length k) a)
  unfolding seq_entry
  seq fl a = either _ _ _ (settles _ _ _ (block_end SequenceEnd a) _ (popped-within k SequenceEnd a le)) (inline _ _ _)

  pairs : (fl : Bool) (a : At) → Room k (pairs_entry fl a)
  unfolding pairs_entry
  pairs fl a = either _ _ _ (settles _ _ _ (block_end MappingEnd a) _ (popped-within k MappingEnd a le)) (read (scalar_token_at true a) _ (λ w. le))

  opening : (f : Option Frame) (a : At) → Room k (open_at (length k) f a)
  unfolding open_at
  opening None a = fault _
  opening (Some (InList col)) a = fault _
  opening (Some (InMap col)) a = fault _
  opening (Some (InSeq fl)) a = seq _ _
  opening (Some (InPairs fl)) a = pairs _ _

  after_key : (q g : Bool) (a : At) → Room k (after_key_at (length k) q g a)
  unfolding after_key_at flow_value
  after_key q g a = either _ _ _ (either _ _ _ (event (missing_transition (past 1 (flow_next a))) le) (inline _ _ _)) (either _ _ _ (event (missing_transition a) le) (fault _))

  root : (g : Bool) (a : At) → Room k (root_done g a)
  unfolding root_done dots_end
  root g a =
      either (is_end a) _ _ (keeps DocumentEnd a Last)
      (either (at_dots a) _ _ (either (ends (drop 3 a.line)) _ _ (keeps DocumentEnd (next_at a.later) Last) (fault Form)) (fault (cond (at_dashes a) NotCarried (line_fault g a))))

  done : (g : Bool) (f : Option Frame) (a : At) → Room k (done_at (length k) g f a)
  unfolding done_at list_done map_done seq_done pairs_done
  done g None a = root g a
  done g (Some (InList col)) a = either _ _ _ (event (block_end SequenceEnd a) (popped-within k SequenceEnd a le)) (either _ _ _ (item _ _) (fault _))
  done g (Some (InMap col)) a = either _ _ _ (event (block_end MappingEnd a) (popped-within k MappingEnd a le)) (either _ _ _ (key _) (fault _))
  done g (Some (InSeq fl)) a = either _ _ _ (seq _ _) (either _ _ _ (settles _ _ _ (block_end SequenceEnd a) _ (popped-within k SequenceEnd a le)) (fault _))
  done g (Some (InPairs fl)) a = either _ _ _ (pairs _ _) (either _ _ _ (settles _ _ _ (block_end MappingEnd a) _ (popped-within k MappingEnd a le)) (fault _))

  document : (a : At) → Room k (document_at a)
  unfolding document_at
  document a =
      either (is_end a) _ _ (keeps StreamEnd a Ended)
      (either (at_dashes a) _ _ (keeps DocumentStart (past 3 a) (Root true)) (either (begins 37 a.line) _ _ (fault NotCarried) (keeps DocumentStart a (Root false))))

  last : (a : At) → Room k (last_at a)
  unfolding last_at
  last a = either (is_end a) _ _ (keeps StreamEnd a Ended) (fault (cond (at_dots a || is_comment_line a.line) Form NotCarried))

  room : (m : Mode) (f : Option Frame) (a : At) → Room k (step_at m f (length k) a)
  unfolding step_at
  room Begin f a = keeps StreamStart a Document
  room Document f a = document a
  room (Root true) f a = explicit a
  room (Root false) f a = node None a
  room (Item col) f a = item col a
  room Key f a = key a
  room (Value col) f a = value col a
  room Open f a = opening f a
  room (AfterKey q g) f a = after_key q g a
  room (Done g) f a = done g f a
  room Trailing f a = fault _
  room Last f a = last a
  room Ended f a = keeps StreamEnd a Ended

within : (s : State) (es : List Event) (z : State) → length s.frames ≤ 64 → Runs s es z → length z.frames ≤ 64
within s [] z le runs = subst (λ (x : State). length x.frames ≤ 64) runs le
within s (e ∷ es) z le runs =
    let h = from_of s e es z runs in
    within (behind s.frames h.0) es z ((room s.frames le s.mode (top_of s.frames) s.at).within h.0 h.1) h.3

pub always_within : (text : List ℕ) (es : List Event) (s : State) → Runs (start text) es s → length s.frames ≤ 64
always_within text es s runs = within (start text) es s (omega arith) runs
