-- The stream's end is emitted by a step that ends the stream, and by no other.
use Rattle.std.proofs.Common.{◌≡◌, ℕ, List, drop, length, Bool, true, false, cond, Option, Some, None, Result, Ok, Err, refl, sym, ap, ◌∙◌}
use Rattle.yaml_scan.specs.Lines.{ends}
use Rattle.warg_values.specs.Reading.{◌>>=◌}
use Rattle.yaml_small.specs.declared.event.Event.{Event}
use Rattle.yaml_small.specs.declared.event.Event.TheVariants.{StreamEnd, DocumentStart, DocumentEnd, SequenceStart, MappingStart}
use Rattle.yaml_small.specs.declared.state.Mode.{Mode}
use Rattle.yaml_small.specs.declared.state.Mode.TheVariants.{Begin, Document, Root, Item, Key, Value, Open, AfterKey, Done, Trailing, Last, Ended}
use Rattle.yaml_small.specs.declared.state.Frame.{Frame}
use Rattle.yaml_small.specs.declared.state.Frame.TheVariants.{InList, InMap, InSeq, InPairs}
use Rattle.yaml_small.specs.declared.state.Change.{Change}
use Rattle.yaml_small.specs.declared.state.Change.TheVariants.{Keep}
use Rattle.yaml_small.specs.Places.{At, past, next_at, is_end, at_dashes, at_dots}
use Rattle.yaml_small.specs.Scalars.{Fault, Form, NotCarried, ScalarToken, scalar_token_at, block_at, key_at}
use Rattle.yaml_small.specs.Step.{Transition, transition, opened, list_start, map_start, settled, inline_at, node_at, below, tabbed, item_at, under, value_at, explicit_at, key_step, seq_entry, pairs_entry, open_at, flow_value, after_key_at, seq_done, pairs_done, list_done, map_done, dots_end, root_done, line_fault, done_at, document_at, last_at, step_at}
use Rattle.yaml_small.specs.Stream.{State, top_of, behind, moved, next}
use Rattle.yaml_small.specs.RunLaws.{pair_is, settled_event, step_of}
use Rattle.yaml_small.specs.FoundLaws.{transition_is}

pub record Live (r : Result Transition Fault) : Type 0 where
  pub ends : (g : Transition) → r ≡ Ok g → g.event ≡ StreamEnd → g.mode ≡ Ended

either : (b : Bool) (x y : Result Transition Fault) → Live x → Live y → Live (cond b x y)
either true x y p q = p
either false x y p q = q

fault : (f : Fault) → Live (Err f)
fault f = record { ends = λ g e h. absurd cc }

event : (g : Transition) → (g.event ≡ StreamEnd → ⊥) → Live (Ok g)
event g other = record { ends = λ h e end. absurd (other (ap (λ (x : Transition). x.event) (transition_is g h e) ∙ end)) }

over : (a : At) (c : Change) → Live (Ok (transition StreamEnd a Ended c))
over a c = record { ends = λ h e end. sym (ap (λ (x : Transition). x.mode) (transition_is (transition StreamEnd a Ended c) h e)) }

read : (r : Result ScalarToken Fault) (f : ScalarToken → Transition) → ((w : ScalarToken) → (f w).event ≡ StreamEnd → ⊥) → Live (r >>= λ w. Ok (f w))
read (Ok w) f other = event (f w) (other w)
read (Err x) f other = fault x

settles : (fl g : Bool) (e : Event) (c : Change) (a : At) → (e ≡ StreamEnd → ⊥) → Live (Ok (settled fl g e c a))
settles fl g e c a other = event (settled fl g e c a) (λ end. other (sym (settled_event fl g e c a) ∙ end))

opens : (d : ℕ) (e : Event) (a : At) (m : Mode) (f : Frame) → (e ≡ StreamEnd → ⊥) → Live (opened d e a m f)
unfolding opened
opens d e a m f other = either _ _ _ (event _ other) (fault _)

inline : (fl : Bool) (d : ℕ) (parent : Option ℕ) (a : At) → Live (inline_at fl d parent a)
unfolding inline_at
inline fl d parent a =
    either _ _ _ (opens d SequenceStart _ _ _ (λ e. absurd cc)) (either _ _ _ (opens d MappingStart _ _ _ (λ e. absurd cc))
    (either _ _ _ (read (block_at parent a) _ (λ w e. absurd cc))
    (read (scalar_token_at fl a) _ (λ w end. let e = sym (settled_event _ _ _ _ _) ∙ end in absurd cc))))

list : (d : ℕ) (a : At) → Live (list_start d a)
unfolding list_start
list d a = opens _ _ _ _ _ (λ e. absurd cc)

map : (d : ℕ) (a : At) → Live (map_start d a)
unfolding map_start
map d a = opens _ _ _ _ _ (λ e. absurd cc)

node : (d : ℕ) (parent : Option ℕ) (a : At) → Live (node_at d parent a)
unfolding node_at
node d parent a = either _ _ _ (list d a) (either _ _ _ (map d a) (inline false d parent a))

lower : (d : ℕ) (parent : Option ℕ) (a : At) → Live (below d parent a)
unfolding below
lower d parent a = either _ _ _ (node d parent a) (event _ (λ e. absurd cc))

item : (d col : ℕ) (a : At) → Live (item_at d col a)
unfolding item_at tabbed
item d col a = either _ _ _ (lower _ _ _) (either _ _ _ (node _ _ _) (either _ _ _ (fault _) (inline _ _ _ _)))

value : (d col : ℕ) (a : At) → Live (value_at d col a)
unfolding value_at under
value d col a = either _ _ _ (either _ _ _ (list _ _) (lower _ _ _)) (inline _ _ _ _)

explicit : (d : ℕ) (a : At) → Live (explicit_at d a)
unfolding explicit_at
explicit d a = either _ _ _ (lower _ _ _) (either _ _ _ (inline _ _ _ _) (fault _))

key : (a : At) → Live (key_step a)
unfolding key_step
key a = read (key_at a) _ (λ w e. absurd cc)

seq : (fl : Bool) (d : ℕ) (a : At) → Live (seq_entry fl d a)
unfolding seq_entry
seq fl d a = either _ _ _ (settles _ _ _ _ _ (λ e. absurd cc)) (inline _ _ _ _)

pairs : (fl : Bool) (a : At) → Live (pairs_entry fl a)
unfolding pairs_entry
pairs fl a = either _ _ _ (settles _ _ _ _ _ (λ e. absurd cc)) (read (scalar_token_at true a) _ (λ w e. absurd cc))

open_seq : (d : ℕ) (f : Option Frame) (a : At) → Live (open_at d f a)
unfolding open_at
open_seq d None a = fault _
open_seq d (Some (InList col)) a = fault _
open_seq d (Some (InMap col)) a = fault _
open_seq d (Some (InSeq fl)) a = seq _ _ _
open_seq d (Some (InPairs fl)) a = pairs _ _

after_key : (d : ℕ) (q g : Bool) (a : At) → Live (after_key_at d q g a)
unfolding after_key_at flow_value
after_key d q g a =
    either _ _ _ (either _ _ _ (event _ (λ e. absurd cc)) (inline _ _ _ _)) (either _ _ _ (event _ (λ e. absurd cc)) (fault _))

root : (g : Bool) (a : At) → Live (root_done g a)
unfolding root_done dots_end
root g a =
    either (is_end a) _ _ (event (transition DocumentEnd a Last Keep) (λ e. absurd cc))
    (either (at_dots a) _ _
    (either (ends (drop 3 a.line)) _ _ (event (transition DocumentEnd (next_at a.later) Last Keep) (λ e. absurd cc)) (fault Form))
    (fault (cond (at_dashes a) NotCarried (line_fault g a))))

done : (d : ℕ) (g : Bool) (f : Option Frame) (a : At) → Live (done_at d g f a)
unfolding done_at list_done map_done seq_done pairs_done
done d g None a = root g a
done d g (Some (InList col)) a = either _ _ _ (event _ (λ e. absurd cc)) (either _ _ _ (item _ _ _) (fault _))
done d g (Some (InMap col)) a = either _ _ _ (event _ (λ e. absurd cc)) (either _ _ _ (key _) (fault _))
done d g (Some (InSeq fl)) a = either _ _ _ (seq _ _ _) (either _ _ _ (settles _ _ _ _ _ (λ e. absurd cc)) (fault _))
done d g (Some (InPairs fl)) a = either _ _ _ (pairs _ _) (either _ _ _ (settles _ _ _ _ _ (λ e. absurd cc)) (fault _))

document : (a : At) → Live (document_at a)
unfolding document_at
document a =
    either _ _ _ (over _ _) (either _ _ _ (event (transition DocumentStart (past 3 a) (Root true) Keep) (λ e. absurd cc))
    (either _ _ _ (fault _) (event (transition DocumentStart a (Root false) Keep) (λ e. absurd cc))))

last : (a : At) → Live (last_at a)
unfolding last_at
last a = either _ _ _ (over _ _) (fault _)

live : (m : Mode) (f : Option Frame) (d : ℕ) (a : At) → Live (step_at m f d a)
unfolding step_at
live Begin f d a = event _ (λ e. absurd cc)
live Document f d a = document a
live (Root true) f d a = explicit d a
live (Root false) f d a = node d None a
live (Item col) f d a = item d col a
live Key f d a = key a
live (Value col) f d a = value d col a
live Open f d a = open_seq d f a
live (AfterKey q g) f d a = after_key d q g a
live (Done g) f d a = done d g f a
live Trailing f d a = fault _
live Last f d a = last a
live Ended f d a = over _ _

pub stream_end : (s m : State) → next s ≡ Ok (StreamEnd, m) → m.mode ≡ Ended
unfolding next
stream_end s m e = from s.frames (step_of s) (live s.mode (top_of s.frames) (length s.frames) s.at) e
  where
    from : (k : List Frame) (r : Result Transition Fault) → Live r → moved k r ≡ Ok (StreamEnd, m) → m.mode ≡ Ended
    from k (Ok g) l e =
        let one = pair_is (g.event, behind k g) (StreamEnd, m) e in
        sym (ap (λ (x : Event × State). x.1.mode) one) ∙ l.ends g refl (ap (λ (x : Event × State). x.0) one)
    from k (Err f) l e = absurd cc
