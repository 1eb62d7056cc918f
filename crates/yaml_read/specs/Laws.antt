-- Reads of scalars, against the nodes that are emitted.
use Rattle.std.proofs.Common.{◌≡◌, ℕ, List, [], ◌∷◌, Bool, true, false, cond, Option, Some, None, Result, Ok, Err, refl, ap, ◌∙◌, subst}
use Rattle.warg_values.specs.ReadingLaws.{bind_ok, ok_is}
use Rattle.yaml_small.specs.declared.event.Event.{Event}
use Rattle.yaml_small.specs.declared.event.Event.TheVariants as events
use Rattle.yaml_small.specs.declared.event.Style.{Style}
use Rattle.yaml_small.specs.declared.event.Style.TheVariants as styles
use Rattle.yaml_small.specs.Trees.{Tree, Leaf, Seq, Map}
use Rattle.yaml_small.specs.Scalars.{is_plain}
use Rattle.yaml_small.specs.Stream.{State, next, Runs}
use Rattle.yaml_read.specs.Source.{Source, Refusal, WrongScalar, pull, taken, Refused, found_at}
use Rattle.yaml_read.specs.Scalar.{plain_text, any_text, plain_at, any_at, plain_as, is_null, unit, unit_at}
use Rattle.yaml_read.specs.Emitted.{Emits, Found, Gets, Reads}
use Rattle.yaml_read.specs.Nodes.{value_of, any_node, plain_node, unit_node}
use Rattle.yaml_read.specs.TakingLaws.{pull_is, pulls, gets_then}

-- only a plain scalar has a plain text
is_plain_event : {P : Type 0} (e : Event) (text : List ℕ) → plain_text e ≡ Ok text → (e ≡ events.Scalar text styles.Plain → P) → P
is_plain_event (events.Scalar t styles.Plain) text h go = go (ap (λ (x : List ℕ). events.Scalar x styles.Plain) (ok_is {F = Refusal} t text h))
is_plain_event (events.Scalar t styles.SingleQuoted) text h go = absurd cc
is_plain_event (events.Scalar t styles.DoubleQuoted) text h go = absurd cc
is_plain_event (events.Scalar t styles.Literal) text h go = absurd cc
is_plain_event (events.Scalar t styles.Folded) text h go = absurd cc
is_plain_event events.StreamStart text h go = absurd cc
is_plain_event events.StreamEnd text h go = absurd cc
is_plain_event events.DocumentStart text h go = absurd cc
is_plain_event events.DocumentEnd text h go = absurd cc
is_plain_event events.SequenceStart text h go = absurd cc
is_plain_event events.SequenceEnd text h go = absurd cc
is_plain_event events.MappingStart text h go = absurd cc
is_plain_event events.MappingEnd text h go = absurd cc

is_any_event : {P : Type 0} (e : Event) (text : List ℕ) → any_text e ≡ Ok text → ((style : Style) → e ≡ events.Scalar text style → P) → P
is_any_event (events.Scalar t style) text h go = go style (ap (λ (x : List ℕ). events.Scalar x style) (ok_is {F = Refusal} t text h))
is_any_event events.StreamStart text h go = absurd cc
is_any_event events.StreamEnd text h go = absurd cc
is_any_event events.DocumentStart text h go = absurd cc
is_any_event events.DocumentEnd text h go = absurd cc
is_any_event events.SequenceStart text h go = absurd cc
is_any_event events.SequenceEnd text h go = absurd cc
is_any_event events.MappingStart text h go = absurd cc
is_any_event events.MappingEnd text h go = absurd cc

-- what was found at a place was found
pub found_is : {X : Type 0} (s : Source) (r : Result X Refusal) (x : X) → found_at s r ≡ Ok x → r ≡ Ok x
found_is {X} s (Ok y) x h = ap (λ (v : X). Ok v) (ok_is {F = Refused} y x h)
found_is s (Err refusal) x h = absurd cc

-- an event that was taken for a value
pub taken_is : {X : Type 0} (f : Event → Result X Refusal) (s : Source) (x : X) (m : Source) → taken f s ≡ Ok (x, m)
    → (e : Event) × (next s.state ≡ Ok (e, m.state)) × (f e ≡ Ok x)
unfolding taken
taken_is {X} f s x m h =
    let a = bind_ok (pull s) _ _ h in
    let b = bind_ok (found_at a.0.1 (f a.0.0)) _ _ a.2 in
    let same = ok_is {F = Refused} (b.0, a.0.1) (x, m) b.2 in
    (a.0.0, subst (λ (z : Source). next s.state ≡ Ok (a.0.0, z.state)) (ap (λ (p : X × Source). p.1) same) (pull_is s a.0.0 a.0.1 a.1), found_is a.0.1 (f a.0.0) b.0 b.1 ∙ ap (λ (p : X × Source). Ok p.0) same)

pub taken_gets : {X : Type 0} (f : Event → Result X Refusal) (s : Source) (e : Event) (z : State) (x : X) → next s.state ≡ Ok (e, z) → f e ≡ Ok x → Gets s.left x z (taken f s)
unfolding taken
taken_gets {X} f s e z x h is = pulls s.left s e z x z _ h (λ m at less. rw is (refl, at, less))

pub some_is : {A : Type 0} (x y : A) → Some x ≡ Some y → x ≡ y
some_is x y h = cc

-- a value was read
pub value_gets : {X P : Type 0} {x : X} (r : Result X Refusal) → value_of r ≡ Some x → (r ≡ Ok x → P) → P
value_gets {X} {P} {x} (Ok y) h go = go (cc)
value_gets (Err refusal) h go = absurd cc

-- a plain scalar's text, and what it is taken for
plain_sound : {X : Type 0} (f : List ℕ → Result X Refusal) (s : Source) (x : X) (m : Source) → plain_as f s ≡ Ok (x, m) → Found (plain_node f) s x m
unfolding plain_at
plain_sound {X} f s x m h =
    let a = bind_ok (plain_at s) _ _ h in
    let b = bind_ok (found_at a.0.1 (f a.0.0)) _ _ a.2 in
    let same = ok_is {F = Refused} (b.0, a.0.1) (x, m) b.2 in
    let e = taken_is plain_text s a.0.0 a.0.1 a.1 in
    is_plain_event e.0 a.0.0 e.2 (λ is. record {
      node = Some (Leaf (record { text = a.0.0; style = styles.Plain }));
      emitted = (m.state, (subst (λ (z : Source). next s.state ≡ Ok (e.0, z.state)) (ap (λ (p : X × Source). p.1) same) e.1 ∙ ap (λ (v : Event). Ok (v, m.state)) is), refl);
      read = ap value_of (found_is a.0.1 (f a.0.0) b.0 b.1) ∙ ap (λ (p : X × Source). Some p.0) same;
    })

plain_styled : {X : Type 0} (f : List ℕ → Result X Refusal) (s : Source) (text : List ℕ) (z : State) (x : X) (style : Style) → next s.state ≡ Ok (events.Scalar text style, z)
    → cond (is_plain style) (value_of (f text)) None ≡ Some x → Gets s.left x z (plain_as f s)
unfolding plain_at
plain_styled f s text z x styles.Plain here is =
    gets_then s.left s.left text z x z (plain_at s) _ (taken_gets plain_text s (events.Scalar text styles.Plain) z text here refl)
    (λ m at less. value_gets (f text) is (λ e. rw e (refl, at, less)))
plain_styled f s text z x styles.SingleQuoted here is = absurd cc
plain_styled f s text z x styles.DoubleQuoted here is = absurd cc
plain_styled f s text z x styles.Literal here is = absurd cc
plain_styled f s text z x styles.Folded here is = absurd cc

-- the run of one event
pub one_event : (s : State) (e : Event) (z : State) → Runs s (e ∷ []) z → next s ≡ Ok (e, z)
one_event s e z emitted = emitted.1 ∙ ap (λ (m : State). Ok (e, m)) emitted.2

plain_complete : {X : Type 0} (f : List ℕ → Result X Refusal) (s : Source) (node : Option Tree) (z : State) (x : X) → Emits s.state node z → plain_node f node ≡ Some x → Gets s.left x z (plain_as f s)
plain_complete f s None z x emitted h = absurd cc
plain_complete f s (Some (Seq ts)) z x emitted h = absurd cc
plain_complete f s (Some (Map ps)) z x emitted h = absurd cc
plain_complete f s (Some (Leaf sc)) z x emitted h = plain_styled f s sc.text z x sc.style (one_event s.state (events.Scalar sc.text sc.style) z emitted) h

pub plain_reads : {X : Type 0} (f : List ℕ → Result X Refusal) → Reads (plain_node f) (plain_as f)
plain_reads f = record { sound = plain_sound f; complete = plain_complete f }

any_found : (s : Source) (x : List ℕ) (m : Source) → any_at s ≡ Ok (x, m) → Found (any_node Ok) s x m
unfolding any_at
any_found s x m h =
    let e = taken_is any_text s x m h in
    is_any_event e.0 x e.2 (λ style is. record {
      node = Some (Leaf (record { text = x; style = style }));
      emitted = (m.state, e.1 ∙ ap (λ (v : Event). Ok (v, m.state)) is, refl);
      read = refl;
    })

any_gets : (s : Source) (node : Option Tree) (z : State) (x : List ℕ) → Emits s.state node z → any_node Ok node ≡ Some x → Gets s.left x z (any_at s)
unfolding any_at
any_gets s None z x emitted h = absurd cc
any_gets s (Some (Seq ts)) z x emitted h = absurd cc
any_gets s (Some (Map ps)) z x emitted h = absurd cc
any_gets s (Some (Leaf sc)) z x emitted h =
    taken_gets any_text s (events.Scalar sc.text sc.style) z x (one_event s.state (events.Scalar sc.text sc.style) z emitted) (ap Ok (some_is sc.text x h))

-- a scalar of any style is its text
pub any_reads : Reads (any_node Ok) any_at
any_reads = record { sound = any_found; complete = any_gets }

is_unit_event : {P : Type 0} (e : Event) (x : Unit {0}) → unit e ≡ Ok x → ((text : List ℕ) (style : Style) → e ≡ events.Scalar text style → is_null text ≡ true → P) → (e ≡ events.StreamEnd → P) → P
is_unit_event {P} (events.Scalar text style) x h go end = tested (is_null text) refl h
  where
    tested : (b : Bool) → is_null text ≡ b → cond b (Ok tt) (Err (WrongScalar text)) ≡ Ok x → P
    tested true is h = go text style refl is
    tested false is h = absurd cc
is_unit_event events.StreamEnd x h go end = end refl
is_unit_event e x h go end = absurd cc

unit_found : (s : Source) (x : Unit {0}) (m : Source) → unit_at s ≡ Ok (x, m) → Found unit_node s x m
unit_found s x m h =
    let e = taken_is unit s x m h in
    is_unit_event e.0 x e.2
    (λ text style is null. record {
      node = Some (Leaf (record { text = text; style = style }));
      emitted = (m.state, e.1 ∙ ap (λ (v : Event). Ok (v, m.state)) is, refl);
      read = ap (λ (b : Bool). cond b (Some tt) None) null;
    })
    (λ is. record { node = None; emitted = e.1 ∙ ap (λ (v : Event). Ok (v, m.state)) is; read = refl })

unit_gets : (s : Source) (node : Option Tree) (z : State) (x : Unit {0}) → Emits s.state node z → unit_node node ≡ Some x → Gets s.left x z (unit_at s)
unit_gets s None z x emitted h = taken_gets unit s events.StreamEnd z x emitted refl
unit_gets s (Some (Seq ts)) z x emitted h = absurd cc
unit_gets s (Some (Map ps)) z x emitted h = absurd cc
unit_gets s (Some (Leaf sc)) z x emitted h = tested (is_null sc.text) refl h
  where
    tested : (b : Bool) → is_null sc.text ≡ b → cond b (Some tt) None ≡ Some x → Gets s.left x z (unit_at s)
    tested true is h =
        taken_gets unit s (events.Scalar sc.text sc.style) z x (one_event s.state (events.Scalar sc.text sc.style) z emitted) (ap (λ (b : Bool). cond b (Ok tt) (Err (WrongScalar sc.text))) is)
    tested false is h = absurd cc

pub unit_reads : Reads unit_node unit_at
unit_reads = record { sound = unit_found; complete = unit_gets }
