-- What a read takes and what it gets, step by step.
use Rattle.std.proofs.Common.{◌≡◌, ℕ, zero, suc, ◌-◌, ◌<◌, ◌≤◌, Bool, true, false, cond, eqb, Result, Ok, Err, refl, sym, ap, subst, arith}
use Rattle.warg_values.specs.Reading.{◌>>=◌}
use Rattle.warg_values.specs.ReadingLaws.{ok_is}
use Rattle.yaml_small.specs.declared.event.Event.{Event}
use Rattle.yaml_small.specs.Scalars.{Fault}
use Rattle.yaml_small.specs.Stream.{State, next}
use Rattle.yaml_read.specs.Source.{Source, TooManyEvents, pull, pulled, front, event_alone, Refused, refused}
use Rattle.yaml_read.specs.Emitted.{Gets}

-- what was taken is what the parser emits
pub pull_is : (s : Source) (e : Event) (m : Source) → pull s ≡ Ok (e, m) → next s.state ≡ Ok (e, m.state)
unfolding pull
pull_is s e m h = counted (eqb s.left 0) h
  where
    stood : Event × Source → Result (Event × State) Fault
    stood p = Ok (p.0, p.1.state)

    emitted : (r : Result (Event × State) Fault) → pulled s r ≡ Ok (e, m) → r ≡ Ok (e, m.state)
    emitted (Ok p) h = ap (λ (q : Event × Source). stood q) (ok_is {F = Refused} (p.0, record { state = p.1; left = s.left - 1 }) (e, m) h)
    emitted (Err fault) h = absurd cc

    counted : (b : Bool) → cond b (refused s TooManyEvents) (pulled s (next s.state)) ≡ Ok (e, m) → next s.state ≡ Ok (e, m.state)
    counted true h = absurd cc
    counted false h = emitted (next s.state) h

-- what the parser emits is taken, or counted no further
pub pulls : {X : Type 0} (left : ℕ) (s : Source) (e : Event) (z : State) (x : X) (w : State) (f : Event × Source → Result (X × Source) Refused) → next s.state ≡ Ok (e, z)
    → ((m : Source) → m.state ≡ z → m.left < s.left → Gets left x w (f (e, m))) → Gets left x w (pull s >>= f)
unfolding pull
pulls {X} left s e z x w f h go =
    rw h (counted (eqb s.left 0) refl)
  where
    below : (n : ℕ) → eqb n 0 ≡ false → n - 1 < n
    below zero is = absurd cc
    below (suc n) is = omega arith

    counted : (b : Bool) → eqb s.left 0 ≡ b → Gets left x w (cond b (refused s TooManyEvents) (Ok (e, record { state = z; left = s.left - 1 })) >>= f)
    counted true is = refl
    counted false is = go (record { state = z; left = s.left - 1 }) refl (below s.left is)

-- the next event stands there, or is counted no further
pub fronts : {X : Type 0} (left : ℕ) (s : Source) (e : Event) (z : State) (x : X) (w : State) (f : Event → Result (X × Source) Refused) → next s.state ≡ Ok (e, z)
    → Gets left x w (f e) → Gets left x w (front s >>= f)
unfolding pull front
fronts {X} left s e z x w f h go =
    rw h (counted (eqb s.left 0))
  where
    counted : (b : Bool) → Gets left x w (event_alone (cond b (refused s TooManyEvents) (Ok (e, record { state = z; left = s.left - 1 }))) >>= f)
    counted true = refl
    counted false = go

-- what stood there is what is taken
pub front_is : (s : Source) (e : Event) → front s ≡ Ok e → (m : Source) × (pull s ≡ Ok (e, m))
unfolding front
front_is s e h = alone (pull s) h
  where
    alone : (r : Result (Event × Source) Refused) → event_alone r ≡ Ok e → (m : Source) × (r ≡ Ok (e, m))
    alone (Ok p) h = (p.1, ap (λ (v : Event). Ok (v, p.1)) (ok_is {F = Refused} p.0 e h))
    alone (Err refusal) h = absurd cc

-- a read that got its value is gone on with
pub gets_then : {X Y : Type 0} (left more : ℕ) (x : X) (z : State) (y : Y) (w : State) (r : Result (X × Source) Refused) (f : X × Source → Result (Y × Source) Refused) → Gets left x z r
    → ((m : Source) → m.state ≡ z → m.left < left → Gets more y w (f (x, m))) → Gets more y w (r >>= f)
gets_then {X} {Y} left more x z y w (Ok p) f h go = subst (λ (v : X). Gets more y w (f (v, p.1))) (sym h.0) (go p.1 h.1 h.2)
gets_then left more x z y w (Err refusal) f h go = h

pub gets_more : {X : Type 0} (left more : ℕ) (x : X) (z : State) (r : Result (X × Source) Refused) → left ≤ more → Gets left x z r → Gets more x z r
gets_more left more x z (Ok p) le h = let lt : p.1.left < left = h.2 in (h.0, h.1, omega arith)
gets_more left more x z (Err refusal) le h = h
