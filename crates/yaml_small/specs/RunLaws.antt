-- Runs by single steps.
use Rattle.std.proofs.Common.{◌≡◌, ℕ, suc, ◌-◌, List, [], ◌∷◌, ◌++◌, length, take, Bool, true, false, cond, Option, Some, Result, Ok, Err, refl, sym, ap, ◌∙◌, subst, arith, slice_get}
use Rattle.yaml_small.specs.declared.event.Event.{Event}
use Rattle.yaml_small.specs.declared.state.Mode.{Mode}
use Rattle.yaml_small.specs.declared.state.Mode.TheVariants.{Done, Trailing}
use Rattle.yaml_small.specs.declared.state.Frame.{Frame}
use Rattle.yaml_small.specs.declared.state.Change.{Change}
use Rattle.yaml_small.specs.declared.state.Change.TheVariants.{Keep, Pop}
use Rattle.yaml_scan.specs.Lines.{ends}
use Rattle.yaml_small.specs.Places.{At, over, next_at}
use Rattle.yaml_small.specs.Scalars.{Fault}
use Rattle.yaml_small.specs.Step.{Transition, transition, settled, step_at}
use Rattle.yaml_small.specs.Stream.{State, top_of, changed, behind, moved, next, Runs}

-- a step's answer emits the first of these events, and the rest leads on
abbrev pub From : List Frame → Result Transition Fault → List Event → State → Type 0
From k r [] z = ⊥
From k r (e ∷ es) z = (g : Transition) × (r ≡ Ok g) × (e ≡ g.event) × Runs (behind k g) es z

abbrev pub step_of : State → Result Transition Fault
step_of s = step_at s.mode (top_of s.frames) (length s.frames) s.at

pub runs_of : (s : State) (es : List Event) (z : State) → From s.frames (step_of s) es z → Runs s es z
unfolding next
runs_of s [] z h = absurd h
runs_of s (e ∷ es) z (g, r, event, rest) = (behind s.frames g, rw (r, event) refl, rest)

abbrev pub moved_on : Event × State → Result (Event × State) Fault
moved_on p = Ok p

pub pair_is : (p q : Event × State) → moved_on p ≡ moved_on q → p ≡ q
pair_is p q e = cc

pub from_of : (s : State) (e : Event) (es : List Event) (z : State) → Runs s (e ∷ es) z → From s.frames (step_of s) (e ∷ es) z
unfolding next
from_of s e es z (m, here, rest) = stepped s.frames (step_of s) here
  where
    stepped : (k : List Frame) (r : Result Transition Fault) → moved k r ≡ Ok (e, m) → From k r (e ∷ es) z
    stepped k (Ok g) h =
        let same = pair_is (g.event, behind k g) (e, m) h in
        (g, refl, sym (ap (λ (p : Event × State). p.0) same), subst (λ (x : State). Runs x es z) (sym (ap (λ (p : Event × State). p.1) same)) rest)
    stepped k (Err fault) h = absurd cc

-- the open lists and maps, with one more
pub length_pushed : (k : List Frame) (f : Frame) → length (k ++ (f ∷ [])) ≡ suc (length k)
length_pushed [] f = refl
length_pushed (x ∷ k) f = ap (λ (n : ℕ). suc n) (length_pushed k f)

get_pushed : (k : List Frame) (f : Frame) → slice_get (k ++ (f ∷ [])) (length k) ≡ Some f
get_pushed [] f = refl
get_pushed (x ∷ k) f = get_pushed k f

pub top_pushed : (k : List Frame) (f : Frame) → top_of (k ++ (f ∷ [])) ≡ Some f
top_pushed k f =
    let last : length (k ++ (f ∷ [])) - 1 ≡ length k = omega (arith, length_pushed k f) in
    ap (slice_get (k ++ (f ∷ []))) last ∙ get_pushed k f

take_pushed : (k : List Frame) (f : Frame) → take (length k) (k ++ (f ∷ [])) ≡ k
take_pushed [] f = refl
take_pushed (x ∷ k) f = ap (λ (l : List Frame). x ∷ l) (take_pushed k f)

pub popped : (k : List Frame) (f : Frame) → changed Pop (k ++ (f ∷ [])) ≡ k
popped k f =
    let last : length (k ++ (f ∷ [])) - 1 ≡ length k = omega (arith, length_pushed k f) in
    ap (λ (n : ℕ). take n (k ++ (f ∷ []))) last ∙ take_pushed k f

-- a state, by its parts
abbrev pub state : Mode → List Frame → At → State
state mode k a = record { mode = mode; frames = k; at = a }

abbrev pub done : Bool → At → List Frame → State
done g a k = state (Done g) k a

-- the state behind a node on one line, in a flow or not
abbrev pub landed : Bool → Bool → At → List Frame → State
landed true g a k = done g a k
landed false g a k = cond (ends a.line) (done g (next_at a.later) k) (state Trailing k (over a))

either_landed : (b : Bool) (g : Bool) (e : Event) (c : Change) (a : At) (k : List Frame)
    → behind k (cond b (transition e (next_at a.later) (Done g) c) (transition e (over a) Trailing c)) ≡ cond b (done g (next_at a.later) (changed c k)) (state Trailing (changed c k) (over a))
either_landed true g e c a k = refl
either_landed false g e c a k = refl

pub settled_lands : (fl g : Bool) (e : Event) (c : Change) (a : At) (k : List Frame) → behind k (settled fl g e c a) ≡ landed fl g a (changed c k)
unfolding settled
settled_lands true g e c a k = refl
settled_lands false g e c a k = either_landed (ends a.line) g e c a k

either_event : (b : Bool) (x y : Transition) (e : Event) → x.event ≡ e → y.event ≡ e → (cond b x y).event ≡ e
either_event true x y e p q = p
either_event false x y e p q = q

pub settled_event : (fl g : Bool) (e : Event) (c : Change) (a : At) → (settled fl g e c a).event ≡ e
unfolding settled
settled_event true g e c a = refl
settled_event false g e c a = either_event (ends a.line) (transition e (next_at a.later) (Done g) c) (transition e (over a) Trailing c) e refl refl

-- a state with one more open list or map, by its step
pub runs_in : (mode : Mode) (k : List Frame) (f : Frame) (a : At) (es : List Event) (z : State) → From (k ++ (f ∷ [])) (step_at mode (Some f) (suc (length k)) a) es z → Runs (state mode (k ++ (f ∷ [])) a) es z
runs_in mode k f a es z h =
    runs_of (state mode (k ++ (f ∷ [])) a) es z
    (subst (λ (o : Option Frame). From (k ++ (f ∷ [])) (step_at mode o (length (k ++ (f ∷ []))) a) es z) (sym (top_pushed k f))
    (subst (λ (n : ℕ). From (k ++ (f ∷ [])) (step_at mode (Some f) n a) es z) (sym (length_pushed k f)) h))

pub from_in : (mode : Mode) (k : List Frame) (f : Frame) (a : At) (e : Event) (es : List Event) (z : State) → Runs (state mode (k ++ (f ∷ [])) a) (e ∷ es) z → From (k ++ (f ∷ [])) (step_at mode (Some f) (suc (length k)) a) (e ∷ es) z
from_in mode k f a e es z h =
    subst (λ (n : ℕ). From (k ++ (f ∷ [])) (step_at mode (Some f) n a) (e ∷ es) z) (length_pushed k f)
    (subst (λ (o : Option Frame). From (k ++ (f ∷ [])) (step_at mode o (length (k ++ (f ∷ []))) a) (e ∷ es) z) (top_pushed k f)
    (from_of (state mode (k ++ (f ∷ [])) a) e es z h))

-- a step that goes on without a change, one that closes and one that settles
pub settles : (k : List Frame) (r : Result Transition Fault) (fl g : Bool) (e : Event) (a : At) (es : List Event) (z : State) → r ≡ Ok (settled fl g e Keep a) → Runs (landed fl g a k) es z → From k r (e ∷ es) z
settles k r fl g e a es z h rest =
    (settled fl g e Keep a, h, sym (settled_event fl g e Keep a), subst (λ (s : State). Runs s es z) (sym (settled_lands fl g e Keep a k)) rest)

pub closes : (k : List Frame) (f : Frame) (r : Result Transition Fault) (fl : Bool) (e : Event) (a : At) (es : List Event) (z : State) → r ≡ Ok (settled fl false e Pop a) → Runs (landed fl false a k) es z → From (k ++ (f ∷ [])) r (e ∷ es) z
closes k f r fl e a es z h rest = (
  settled fl false e Pop a,
  h,
  sym (settled_event fl false e Pop a),
  subst (λ (s : State). Runs s es z) (sym (settled_lands fl false e Pop a (k ++ (f ∷ [])) ∙ ap (landed fl false a) (popped k f))) rest,
)
