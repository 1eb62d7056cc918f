-- What a run to the stream's end began with, step by step.
use Rattle.std.proofs.Common.{◌≡◌, ℕ, suc, ◌<◌, List, [], ◌∷◌, ◌++◌, length, Bool, true, false, cond, ltb, Some, Result, Ok, Err, refl, sym, ap, ◌∙◌, subst}
use Rattle.std.proofs.lemmas.Bool.{ltb-true}
use Rattle.warg_values.specs.Reading.{◌>>=◌}
use Rattle.yaml_small.specs.declared.event.Event.{Event}
use Rattle.yaml_small.specs.declared.state.Mode.{Mode}
use Rattle.yaml_small.specs.declared.state.Mode.TheVariants.{Ended}
use Rattle.yaml_small.specs.declared.state.Frame.{Frame}
use Rattle.yaml_small.specs.declared.state.Change.{Change}
use Rattle.yaml_small.specs.declared.state.Change.TheVariants.{Push}
use Rattle.yaml_small.specs.Places.{At}
use Rattle.yaml_small.specs.Scalars.{Fault, TooDeep}
use Rattle.yaml_small.specs.Step.{Transition, transition, opened, settled, step_at}
use Rattle.yaml_small.specs.Stream.{State, changed, behind, Runs}
use Rattle.yaml_small.specs.RunLaws.{From, step_of, from_of, from_in, state, landed, settled_lands, settled_event}

-- a test on the way
pub choose : {P : Type 0} (k : List Frame) (b : Bool) (x y : Result Transition Fault) (es : List Event) (z : State) → From k (cond b x y) es z
    → (b ≡ true → From k x es z → P) → (b ≡ false → From k y es z → P) → P
choose k true x y es z h here there = here refl h
choose k false x y es z h here there = there refl h

-- a fault emits nothing
pub refused : {P : Type 0} (k : List Frame) (fault : Fault) (es : List Event) (z : State) → From k (Err fault) es z → P
refused k fault [] z h = absurd h
refused k fault (e ∷ es) z (g, is, event, rest) = absurd cc

abbrev pub gone : Transition → Result Transition Fault
gone g = Ok g

pub transition_is : (g h : Transition) → gone g ≡ gone h → g ≡ h
transition_is g h e = cc

-- the events behind a step
pub record Went (k : List Frame) (g : Transition) (es : List Event) (z : State) : Type 0 where
  pub tail : List Event
  pub emitted_is : es ≡ g.event ∷ tail
  pub runs : Runs (behind k g) tail z

pub went : (k : List Frame) (g : Transition) (es : List Event) (z : State) → From k (Ok g) es z → Went k g es z
went k g [] z h = absurd h
went k g (e ∷ es) z (h, is, event, rest) =
    let same = transition_is g h is in
    record {
      tail = es;
      emitted_is = ap (λ (x : Event). x ∷ es) (event ∙ sym (ap (λ (x : Transition). x.event) same));
      runs = subst (λ (x : Transition). Runs (behind k x) es z) (sym same) rest;
    }

-- the same behind a node on one line
pub record Landed (k : List Frame) (fl g : Bool) (e : Event) (a : At) (es : List Event) (z : State) : Type 0 where
  pub tail : List Event
  pub emitted_is : es ≡ e ∷ tail
  pub runs : Runs (landed fl g a k) tail z

pub landed_at : (k : List Frame) (fl g : Bool) (e : Event) (c : Change) (a : At) (es : List Event) (z : State) → From k (Ok (settled fl g e c a)) es z → Landed (changed c k) fl g e a es z
landed_at k fl g e c a es z h =
    let w = went k (settled fl g e c a) es z h in
    record {
      tail = w.tail;
      emitted_is = w.emitted_is ∙ ap (λ (x : Event). x ∷ w.tail) (settled_event fl g e c a);
      runs = subst (λ (x : State). Runs x w.tail z) (settled_lands fl g e c a k) w.runs;
    }

-- the same behind the start of a list or map
pub record Opened (k : List Frame) (d : ℕ) (e : Event) (a : At) (mode : Mode) (f : Frame) (es : List Event) (z : State) : Type 0 where
  pub room : d < 64
  pub tail : List Event
  pub emitted_is : es ≡ e ∷ tail
  pub runs : Runs (state mode (k ++ (f ∷ [])) a) tail z

pub opened_at : (k : List Frame) (d : ℕ) (e : Event) (a : At) (mode : Mode) (f : Frame) (es : List Event) (z : State) → From k (opened d e a mode f) es z → Opened k d e a mode f es z
unfolding opened
opened_at k d e a mode f es z h =
    choose k (ltb d 64) (Ok (transition e a mode (Push f))) (Err TooDeep) es z h
    (λ room h. let w = went k (transition e a mode (Push f)) es z h in record { room = ltb-true d 64 room; tail = w.tail; emitted_is = w.emitted_is; runs = w.runs })
    (λ _ h. refused k TooDeep es z h)

-- what was read, and then a step
pub record Bound {A : Type 0} (r : Result A Fault) (f : A → Transition) (k : List Frame) (es : List Event) (z : State) : Type 0 where
  pub value : A
  pub is : r ≡ Ok value
  pub continues : From k (Ok (f value)) es z

pub bound : {A : Type 0} (r : Result A Fault) (f : A → Transition) (k : List Frame) (es : List Event) (z : State) → From k (r >>= λ x. Ok (f x)) es z → Bound r f k es z
bound (Ok x) f k es z h = record { value = x; is = refl; continues = h }
bound (Err fault) f k es z h = refused k fault es z h

-- before the stream's end a run goes on
pub continues_in : (mode : Mode) (k : List Frame) (f : Frame) (a : At) (es : List Event) (z : State) → (mode ≡ Ended → ⊥) → z.mode ≡ Ended → Runs (state mode (k ++ (f ∷ [])) a) es z
    → From (k ++ (f ∷ [])) (step_at mode (Some f) (suc (length k)) a) es z
continues_in mode k f a [] z not_yet fin runs = absurd (not_yet (ap (λ (s : State). s.mode) runs ∙ fin))
continues_in mode k f a (e ∷ es) z not_yet fin runs = from_in mode k f a e es z runs

pub continues_below_from : (s : State) (es : List Event) (z : State) → (s.mode ≡ Ended → ⊥) → z.mode ≡ Ended → Runs s es z → From s.frames (step_of s) es z
continues_below_from s [] z not_yet fin runs = absurd (not_yet (ap (λ (x : State). x.mode) runs ∙ fin))
continues_below_from s (e ∷ es) z not_yet fin runs = from_of s e es z runs
