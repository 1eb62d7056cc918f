-- Each read is refused where the node says so, or counts its events no further.
use Rattle.std.proofs.Common.{◌≡◌, ℕ, zero, suc, ◌+◌, ◌<◌, nat_lt, List, [], ◌∷◌, Bool, true, false, cond, eqb, ◌⊎◌, inl, inr, Option, Some, None, Result, Ok, Err, refl, sym, ap, ◌∙◌, subst}
use Rattle.std.proofs.lemmas.Bool.{lt-ltb}
use Rattle.warg_values.specs.Reading.{◌>>=◌}
use Rattle.warg_values.specs.ReadingLaws.{ok_is}
use Rattle.yaml_small.specs.declared.event.Event.{Event}
use Rattle.yaml_small.specs.declared.event.Event.TheVariants as events
use Rattle.yaml_small.specs.declared.event.Style.{Style}
use Rattle.yaml_small.specs.declared.event.Style.TheVariants as styles
use Rattle.yaml_small.specs.Trees.{Scalar, Tree, Leaf, Seq, Map, Trees, none, more, Pairs, no_pairs, pair, scalar_event, emitted, each_emitted, pairs_emitted}
use Rattle.yaml_small.specs.Scalars.{is_plain}
use Rattle.yaml_small.specs.Stream.{State, next, Runs}
use Rattle.yaml_read.specs.declared.bracket.Bracket.{Bracket}
use Rattle.yaml_read.specs.declared.bracket.Bracket.TheVariants as brackets
use Rattle.yaml_read.specs.Source.{Source, Refusal, Refused, WrongEvent, UnknownField, TooManyEvents, pull, pulled, front, event_alone, taken, refused, found_at}
use Rattle.yaml_read.specs.Scalar.{any_text, plain_text, any_at, plain_at, plain_as}
use Rattle.yaml_read.specs.Collections.{is_bracket, wanted, bracket_at, ended, end_at, is_stream_end, progressed, item_at, items_at, seq_at, entry_at, entries_at, map_at, is_nothing, opted, option_at, mapped_at, checked_at, refused_at}
use Rattle.yaml_read.specs.Nodes.{any_node}
use Rattle.yaml_read.specs.Emitted.{Emits, Reads}
use Rattle.yaml_read.specs.TakingLaws.{pull_is, front_is}
use Rattle.yaml_read.specs.Laws.{taken_is, any_reads}
use Rattle.yaml_read.specs.JoinLaws.{emitted_cut, begins_of}
use Rattle.yaml_read.specs.CollectionLaws.{emitted_once, bracket_is, item_found, true_false, false_true}
use Rattle.yaml_causes.specs.Causes.{OrUncounted, first_event, RefusesAny, RefusesPlain, RefusesItems, RefusesList, RefusesEntries, RefusesMap, RefusesOption, RefusesTest, IsUnknown, RefusesIf}
use Rattle.yaml_causes.specs.TreeLaws.{emits_first, node_once, read_is}

-- A read of a node that is refused is refused as told.
pub record Tells {X : Type 0} (Refuses : Option Tree → Refusal → Type 0) (read : Source → Result (X × Source) Refused) : Type 0 where
  pub told : (s : Source) (node : Option Tree) (z : State) (r : Refused) → Emits s.state node z → read s ≡ Err r → OrUncounted (Refuses node) r.refusal

abbrev failed : {A B : Type 0} → B → Result A B
failed x = Err x

err_is : {A B : Type 0} (x y : B) → failed {A = A} x ≡ failed y → x ≡ y
err_is x y h = cc

-- a chain that is refused is refused at its first step or behind it
pub record Behind {A B : Type 0} (r : Result A Refused) (f : A → Result B Refused) (e : Refused) : Type 0 where
  pub value : A
  pub is : r ≡ Ok value
  pub then : f value ≡ Err e

pub steps : {A B P : Type 0} (r : Result A Refused) (f : A → Result B Refused) (e : Refused) → (r >>= f) ≡ Err e → (r ≡ Err e → P) → (Behind r f e → P) → P
steps {A} {B} (Ok x) f e h here there = there (record { value = x; is = refl; then = h })
steps {A} {B} (Err x) f e h here there = here (ap (λ (v : Refused). Err v) (err_is {A = B} x e h))

-- An event that stands there is taken, unless too many were.
uncounted : (s : Source) (r : Refused) → refused {X = Event × Source} s TooManyEvents ≡ Err r → r.refusal ≡ TooManyEvents
uncounted s r h = ap (λ (v : Refused). v.refusal) (sym (err_is {A = Event × Source} (record { refusal = TooManyEvents; leaves = s }) r h))

pub pull_told : (s : Source) (e : Event) (z : State) (r : Refused) → next s.state ≡ Ok (e, z) → pull s ≡ Err r → r.refusal ≡ TooManyEvents
unfolding pull
pull_told s e z r here h = counted (eqb s.left 0) (sym (ap (λ v. cond (eqb s.left 0) (refused s TooManyEvents) (pulled s v)) here) ∙ h)
  where
    counted : (b : Bool) → cond b (refused s TooManyEvents) (pulled s (Ok (e, z))) ≡ Err r → r.refusal ≡ TooManyEvents
    counted true h = uncounted s r h
    counted false h = absurd cc

pub front_told : (s : Source) (e : Event) (z : State) (r : Refused) → next s.state ≡ Ok (e, z) → front s ≡ Err r → r.refusal ≡ TooManyEvents
unfolding front
front_told s e z r here h = pull_told s e z r here (alone (pull s) h)
  where
    alone : (p : Result (Event × Source) Refused) → event_alone p ≡ Err r → p ≡ Err r
    alone (Ok p) h = absurd cc
    alone (Err x) h = ap (λ (v : Refused). Err v) (err_is {A = Event} x r h)

-- the event that stands there is the front, and what is taken
pub front_event : (s : Source) (e : Event) (z : State) (d : Event) → next s.state ≡ Ok (e, z) → front s ≡ Ok d → d ≡ e
front_event s e z d here h =
    let t = front_is s d h in
    emitted_once s.state e d z t.0.state here (pull_is s d t.0 t.1) (λ is at. sym is)

pub pull_event : (s : Source) (e : Event) (z : State) (t : Event × Source) → next s.state ≡ Ok (e, z) → pull s ≡ Ok t → (t.0 ≡ e) × (t.1.state ≡ z)
pull_event s e z t here h = emitted_once s.state e t.0 z t.1.state here (pull_is s t.0 t.1 h) (λ is at. (sym is, sym at))

found_told : {X : Type 0} (s : Source) (f : Result X Refusal) (r : Refused) → found_at s f ≡ Err r → f ≡ Err r.refusal
found_told {X} s (Ok x) r h = absurd cc
found_told {X} s (Err refusal) r h = ap (λ (v : Refused). Err v.refusal) (err_is {A = X} (record { refusal = refusal; leaves = s }) r h)

taken_told : {X : Type 0} (f : Event → Result X Refusal) (s : Source) (e : Event) (z : State) (r : Refused) → next s.state ≡ Ok (e, z) → taken f s ≡ Err r → (r.refusal ≡ TooManyEvents) ⊎ (f e ≡ Err r.refusal)
unfolding taken
taken_told {X} f s e z r here h =
    steps (pull s) _ r h
    (λ no. inl (pull_told s e z r here no))
    (λ b. steps (found_at b.value.1 (f b.value.0)) _ r b.then
    (λ no. inr (sym (ap f (pull_event s e z b.value here b.is).0) ∙ found_told b.value.1 (f b.value.0) r no))
    (λ c. absurd (never c.then)))
  where
    never : {A : Type 0} {x : A} → Ok x ≡ Err r → ⊥
    never h = cc

abbrev wanted_when : Bool → Event → Result (Unit {0}) Refusal
wanted_when v e = cond v (Ok tt) (Err (WrongEvent e))

bracket_told : (b : Bracket) (s : Source) (e : Event) (z : State) (r : Refused) → next s.state ≡ Ok (e, z) → bracket_at b s ≡ Err r
    → (r.refusal ≡ TooManyEvents) ⊎ ((is_bracket b e ≡ false) × (r.refusal ≡ WrongEvent e))
unfolding bracket_at
bracket_told b s e z r here h = from (taken_told (wanted b) s e z r here h)
  where
    by : (v : Bool) → is_bracket b e ≡ v → wanted_when v e ≡ Err r.refusal → (is_bracket b e ≡ false) × (r.refusal ≡ WrongEvent e)
    by true is h = absurd cc
    by false is h = (is, sym (err_is {A = Unit {0}} (WrongEvent e) r.refusal h))

    from : (r.refusal ≡ TooManyEvents) ⊎ (wanted b e ≡ Err r.refusal) → (r.refusal ≡ TooManyEvents) ⊎ ((is_bracket b e ≡ false) × (r.refusal ≡ WrongEvent e))
    from (inl many) = inl many
    from (inr h) = inr (by (is_bracket b e) refl h)

-- a bracket that was taken was there
bracket_was : (b : Bracket) (s : Source) (e : Event) (z : State) (x : Unit {0}) (m : Source) → next s.state ≡ Ok (e, z) → bracket_at b s ≡ Ok (x, m) → (is_bracket b e ≡ true) × (m.state ≡ z)
bracket_was b s e z x m here h =
    let t = bracket_is b s x m h in
    emitted_once s.state e t.0 z m.state here t.1 (λ is at. (ap (is_bracket b) is ∙ t.2, sym at))

-- the end of a list or map, or what stands there
end_told : (b : Bracket) (s : Source) (e : Event) (z : State) (r : Refused) → next s.state ≡ Ok (e, z) → end_at b s ≡ Err r → r.refusal ≡ TooManyEvents
unfolding end_at
end_told b s e z r here h =
    steps (front s) _ r h (λ no. front_told s e z r here no) (λ c. by (is_bracket b c.value) c.then)
  where
    by : (v : Bool) → ended v s ≡ Err r → r.refusal ≡ TooManyEvents
    by true h = steps (pull s) _ r h (λ no. pull_told s e z r here no) (λ c. absurd (never c.then))
      where
        never : {A : Type 0} {x : A} → Ok x ≡ Err r → ⊥
        never h = cc
    by false h = absurd cc

abbrev taken_end : Event × Source → Result (Bool × Source) Refused
taken_end p = Ok (true, p.1)

record End (b : Bracket) (s : Source) (e : Event) (v : Bool) (m : Source) : Type 0 where
  is : is_bracket b e ≡ v
  stays : v ≡ false → m ≡ s

end_was : (b : Bracket) (s : Source) (e : Event) (z : State) (v : Bool) (m : Source) → next s.state ≡ Ok (e, z) → end_at b s ≡ Ok (v, m) → End b s e v m
unfolding end_at
end_was b s e z v m here h = from (front s) refl h
  where
    by : (w : Bool) → is_bracket b e ≡ w → ended w s ≡ Ok (v, m) → End b s e v m
    by true is h = pulled_end (pull s) h
      where
        pulled_end : (p : Result (Event × Source) Refused) → (p >>= taken_end) ≡ Ok (v, m) → End b s e v m
        pulled_end (Ok p) h =
            let same = ap (λ (t : Bool × Source). t.0) (ok_is {F = Refused} (true, p.1) (v, m) h) in
            record { is = is ∙ same; stays = λ no. absurd (true_false (same ∙ no)) }
        pulled_end (Err x) h = absurd cc
    by false is h =
        let same = ok_is {F = Refused} (false, s) (v, m) h in
        record { is = is ∙ ap (λ (t : Bool × Source). t.0) same; stays = λ no. sym (ap (λ (t : Bool × Source). t.1) same) }

    from : (p : Result Event Refused) → front s ≡ p → (p >>= λ event. ended (is_bracket b event) s) ≡ Ok (v, m) → End b s e v m
    from (Ok d) is h = by (is_bracket b e) refl (sym (ap (λ x. ended (is_bracket b x) s) (front_event s e z d here is)) ∙ h)
    from (Err x) is h = absurd cc

pub no_ok : {P A : Type 0} {x : A} (r : Refused) → Ok x ≡ Err r → P
no_ok r h = absurd cc

-- a scalar of any style
pub any_told : (s : Source) (node : Option Tree) (z : State) (r : Refused) → Emits s.state node z → any_at s ≡ Err r → OrUncounted (RefusesAny node) r.refusal
unfolding any_at
any_told s node z r run h =
    let f = emits_first s.state node z run in by node (taken_told any_text s (first_event node) f.0 r f.1 h)
  where
    by : (n : Option Tree) → (r.refusal ≡ TooManyEvents) ⊎ (any_text (first_event n) ≡ Err r.refusal) → OrUncounted (RefusesAny n) r.refusal
    by n (inl many) = inl many
    by None (inr h) = inr (sym (err_is {A = List ℕ} (WrongEvent events.StreamEnd) r.refusal h))
    by (Some (Leaf a)) (inr h) = absurd cc
    by (Some (Seq ts)) (inr h) = inr (sym (err_is {A = List ℕ} (WrongEvent events.SequenceStart) r.refusal h))
    by (Some (Map ps)) (inr h) = inr (sym (err_is {A = List ℕ} (WrongEvent events.MappingStart) r.refusal h))

pub any_tells : Tells RefusesAny any_at
any_tells = record { told = any_told }

-- a plain scalar
plain_told : {X : Type 0} (f : List ℕ → Result X Refusal) (s : Source) (node : Option Tree) (z : State) (r : Refused) → Emits s.state node z → plain_as f s ≡ Err r → OrUncounted (RefusesPlain f node) r.refusal
unfolding plain_at
plain_told {X} f s node z r run h =
    let e = emits_first s.state node z run in
    steps (plain_at s) _ r h
    (λ no. first node (taken_told plain_text s (first_event node) e.0 r e.1 no))
    (λ b. steps (found_at b.value.1 (f b.value.0)) _ r b.then
    (λ no.
    let t = taken_is plain_text s b.value.0 b.value.1 b.is in
    emitted_once s.state (first_event node) t.0 e.0 b.value.1.state e.1 t.1 (λ is at.
    inr (second node b.value.0 (ap plain_text is ∙ t.2) (found_told b.value.1 (f b.value.0) r no))))
    (λ c. no_ok r c.then))
  where
    other : {P : Type 0} (text : List ℕ) (style : Style) → plain_text (events.Scalar text style) ≡ Err r.refusal → (is_plain style ≡ false → r.refusal ≡ WrongEvent (events.Scalar text style) → P) → P
    other text styles.Plain h go = absurd cc
    other text styles.SingleQuoted h go = go refl (sym (err_is {A = List ℕ} (WrongEvent (events.Scalar text styles.SingleQuoted)) r.refusal h))
    other text styles.DoubleQuoted h go = go refl (sym (err_is {A = List ℕ} (WrongEvent (events.Scalar text styles.DoubleQuoted)) r.refusal h))
    other text styles.Literal h go = go refl (sym (err_is {A = List ℕ} (WrongEvent (events.Scalar text styles.Literal)) r.refusal h))
    other text styles.Folded h go = go refl (sym (err_is {A = List ℕ} (WrongEvent (events.Scalar text styles.Folded)) r.refusal h))

    first : (n : Option Tree) → (r.refusal ≡ TooManyEvents) ⊎ (plain_text (first_event n) ≡ Err r.refusal) → OrUncounted (RefusesPlain f n) r.refusal
    first n (inl many) = inl many
    first None (inr h) = inr (sym (err_is {A = List ℕ} (WrongEvent events.StreamEnd) r.refusal h))
    first (Some (Leaf a)) (inr h) = other a.text a.style h (λ no is. inr (inr (no, is)))
    first (Some (Seq ts)) (inr h) = inr (sym (err_is {A = List ℕ} (WrongEvent events.SequenceStart) r.refusal h))
    first (Some (Map ps)) (inr h) = inr (sym (err_is {A = List ℕ} (WrongEvent events.MappingStart) r.refusal h))

    plain : {P : Type 0} (text : List ℕ) (style : Style) (t : List ℕ) → plain_text (events.Scalar text style) ≡ Ok t → (is_plain style ≡ true → text ≡ t → P) → P
    plain text styles.Plain t h go = go refl (ok_is {F = Refusal} text t h)
    plain text styles.SingleQuoted t h go = absurd cc
    plain text styles.DoubleQuoted t h go = absurd cc
    plain text styles.Literal t h go = absurd cc
    plain text styles.Folded t h go = absurd cc

    second : (n : Option Tree) (t : List ℕ) → plain_text (first_event n) ≡ Ok t → f t ≡ Err r.refusal → RefusesPlain f n r.refusal
    second None t h fails = absurd cc
    second (Some (Leaf a)) t h fails = plain a.text a.style t h (λ style is. inl (style, ap f is ∙ fails))
    second (Some (Seq ts)) t h fails = absurd cc
    second (Some (Map ps)) t h fails = absurd cc

pub plain_tells : {X : Type 0} (f : List ℕ → Result X Refusal) → Tells (RefusesPlain f) (plain_as f)
plain_tells f = record { told = plain_told f }

-- a value within a list or map
item_told : {X : Type 0} (of_node : Option Tree → Option X) (Refuses : Option Tree → Refusal → Type 0) (read : Source → Result (X × Source) Refused) → Reads of_node read → Tells Refuses read
    → (s : Source) (t : Tree) (z : State) (r : Refused) → Runs s.state (emitted t []) z → item_at read s ≡ Err r → OrUncounted (Refuses (Some t)) r.refusal
unfolding item_at
item_told {X} of_node Refuses read law tells s t z r run h =
    let b = begins_of s.state t [] z run in
    steps (front s) _ r h
    (λ no. inl (front_told s b.event b.behind r b.here no))
    (λ c.
    let same = front_event s b.event b.behind c.value b.here c.is in
    goes_on c.value (ap is_stream_end same ∙ b.continues) c.then)
  where
    moved_on : (left : ℕ) (e : Event) (x : X × Source) → x.1.left < left → progressed left e x ≡ Err r → ⊥
    moved_on left e x less h = let yes : nat_lt x.1.left left ≡ true = lt-ltb x.1.left left less in no_ok r (sym (ap (λ (v : Bool). cond v (Ok x) (refused x.1 (WrongEvent e))) yes) ∙ h)

    goes_on : (e : Event) → is_stream_end e ≡ false → cond (is_stream_end e) (refused s (WrongEvent e)) (read s >>= λ x. progressed s.left e x) ≡ Err r → OrUncounted (Refuses (Some t)) r.refusal
    goes_on e some h =
        steps (read s) _ r (sym (ap (λ (v : Bool). cond v (refused s (WrongEvent e)) (read s >>= λ x. progressed s.left e x)) some) ∙ h)
        (λ no. tells.told s (Some t) z r run no)
        (λ c. let k = read_is of_node read law s (Some t) z c.value.0 c.value.1 run c.is in absurd (moved_on s.left e c.value k.less c.then))

record Item {X : Type 0} (of_node : Option Tree → Option X) (t : Tree) (z : State) (x : X) (m : Source) : Type 0 where
  value : of_node (Some t) ≡ Some x
  state : m.state ≡ z

item_was : {X : Type 0} (of_node : Option Tree → Option X) (read : Source → Result (X × Source) Refused) → Reads of_node read
    → (s : Source) (t : Tree) (z : State) (x : X) (m : Source) → Runs s.state (emitted t []) z → item_at read s ≡ Ok (x, m) → Item of_node t z x m
item_was of_node read law s t z x m run h =
    let f = item_found of_node read law s x m h in
    let o = node_once s.state (Some t) (Some f.0) z m.state run f.1 in
    record { value = ap of_node o.0 ∙ f.2; state = sym o.1 }

-- a list
items_told : {X : Type 0} (takes : X → ℕ → Option Tree → Option X) (Refuses : X → ℕ → Option Tree → Refusal → Type 0) (fills : X → ℕ → Source → Result (X × Source) Refused)
    → ((x : X) (at : ℕ) → Reads (takes x at) (fills x at)) → ((x : X) (at : ℕ) → Tells (Refuses x at) (fills x at))
    → (ts : Trees) (n at : ℕ) (x : X) (s : Source) (z : State) (r : Refused) → Runs s.state (each_emitted ts (events.SequenceEnd ∷ [])) z → items_at fills n at x s ≡ Err r → OrUncounted (RefusesItems takes Refuses at x ts) r.refusal
unfolding items_at
items_told {X} takes Refuses fills law tells ts zero at x s z r run h = inl (ap (λ (v : Refused). v.refusal) (sym (err_is {A = X × Source} (record { refusal = TooManyEvents; leaves = s }) r h)))
items_told {X} takes Refuses fills law tells none (suc n) at x s z r run h =
    steps (end_at brackets.ListEnd s) _ r h
    (λ no. inl (end_told brackets.ListEnd s events.SequenceEnd run.0 r run.1 no))
    (λ b. by b.value.0 b.value.1 (end_was brackets.ListEnd s events.SequenceEnd run.0 b.value.0 b.value.1 run.1 b.is) b.then)
  where
    by : (v : Bool) (m : Source) → End brackets.ListEnd s events.SequenceEnd v m → cond v (Ok (x, m)) (item_at (fills x at) m >>= λ y. items_at fills n (at + 1) y.0 y.1) ≡ Err r → OrUncounted (RefusesItems takes Refuses at x none) r.refusal
    by true m end h = no_ok r h
    by false m end h = absurd (true_false end.is)
items_told {X} takes Refuses fills law tells (more t ts) (suc n) at x s z r run h =
    let b = begins_of s.state t (each_emitted ts (events.SequenceEnd ∷ [])) z run in
    let c = emitted_cut s.state t (each_emitted ts (events.SequenceEnd ∷ [])) z run in
    steps (end_at brackets.ListEnd s) _ r h
    (λ no. inl (end_told brackets.ListEnd s b.event b.behind r b.here no))
    (λ e. by c.0 c.1 c.2 (λ y m p q. items_told takes Refuses fills law tells ts n (at + 1) y m z r p q) e.value.0 e.value.1
    (end_was brackets.ListEnd s b.event b.behind e.value.0 e.value.1 b.here e.is) b.list e.then)
  where
    behind : (y : X) → takes x at (Some t) ≡ Some y → OrUncounted (RefusesItems takes Refuses (at + 1) y ts) r.refusal → OrUncounted (RefusesItems takes Refuses at x (more t ts)) r.refusal
    behind y is (inl many) = inl many
    behind y is (inr later) = inr (inr (y, is, later))

    here : OrUncounted (Refuses x at (Some t)) r.refusal → OrUncounted (RefusesItems takes Refuses at x (more t ts)) r.refusal
    here (inl many) = inl many
    here (inr now) = inr (inl now)

    by : (w : State) → Runs s.state (emitted t []) w → Runs w (each_emitted ts (events.SequenceEnd ∷ [])) z
        → ((y : X) (m : Source) → Runs m.state (each_emitted ts (events.SequenceEnd ∷ [])) z → items_at fills n (at + 1) y m ≡ Err r → OrUncounted (RefusesItems takes Refuses (at + 1) y ts) r.refusal)
        → (v : Bool) (m : Source) {e : Event} → End brackets.ListEnd s e v m → is_bracket brackets.ListEnd e ≡ false
        → cond v (Ok (x, m)) (item_at (fills x at) m >>= λ y. items_at fills n (at + 1) y.0 y.1) ≡ Err r → OrUncounted (RefusesItems takes Refuses at x (more t ts)) r.refusal
    by w first rest others true m end open_list h = no_ok r h
    by w first rest others false m end open_list h =
        let same = end.stays refl in
        let run_here = subst (λ (k : Source). Runs k.state (emitted t []) w) (sym same) first in
        steps (item_at (fills x at) m) _ r h
        (λ no. here (item_told (takes x at) (Refuses x at) (fills x at) (law x at) (tells x at) m t w r run_here no))
        (λ c.
        let i = item_was (takes x at) (fills x at) (law x at) m t w c.value.0 c.value.1 run_here c.is in
        behind c.value.0 i.value (others c.value.0 c.value.1 (subst (λ (q : State). Runs q (each_emitted ts (events.SequenceEnd ∷ [])) z) (sym i.state) rest) c.then))

-- A list or map at its start: another event stands there, or what is behind it is refused.
record Started {X : Type 0} (s : Source) (z : State) (f : Source → Result (X × Source) Refused) (r : Refused) : Type 0 where
  at : Source
  state : at.state ≡ z
  then : f at ≡ Err r

started : {X P : Type 0} (b : Bracket) (s : Source) (e : Event) (z : State) (f : Source → Result (X × Source) Refused) (r : Refused) → next s.state ≡ Ok (e, z) → (bracket_at b s >>= λ start. f start.1) ≡ Err r
    → (r.refusal ≡ TooManyEvents → P) → (is_bracket b e ≡ false → r.refusal ≡ WrongEvent e → P) → (is_bracket b e ≡ true → Started s z f r → P) → P
started {X} {P} b s e z f r here h many other go =
    steps (bracket_at b s) _ r h
    (λ no. from (bracket_told b s e z r here no))
    (λ c. let w = bracket_was b s e z c.value.0 c.value.1 here c.is in go w.0 (record { at = c.value.1; state = w.1; then = c.then }))
  where
    from : (r.refusal ≡ TooManyEvents) ⊎ ((is_bracket b e ≡ false) × (r.refusal ≡ WrongEvent e)) → P
    from (inl x) = many x
    from (inr x) = other x.0 x.1

list_told : {X : Type 0} (takes : X → ℕ → Option Tree → Option X) (Refuses : X → ℕ → Option Tree → Refusal → Type 0) (fills : X → ℕ → Source → Result (X × Source) Refused)
    → ((x : X) (at : ℕ) → Reads (takes x at) (fills x at)) → ((x : X) (at : ℕ) → Tells (Refuses x at) (fills x at))
    → (x : X) (s : Source) (node : Option Tree) (z : State) (r : Refused) → Emits s.state node z → seq_at fills x s ≡ Err r → OrUncounted (RefusesList takes Refuses x node) r.refusal
unfolding seq_at
list_told takes Refuses fills law tells x s None z r run h =
    started brackets.ListStart s events.StreamEnd z (λ m. items_at fills m.left 0 x m) r run h inl (λ _ is. inr is) (λ yes_it c. absurd (false_true yes_it))
list_told takes Refuses fills law tells x s (Some (Leaf a)) z r run h =
    started brackets.ListStart s (scalar_event a) run.0 (λ m. items_at fills m.left 0 x m) r run.1 h inl (λ _ is. inr is) (λ yes_it c. absurd (false_true yes_it))
list_told takes Refuses fills law tells x s (Some (Map ps)) z r run h =
    started brackets.ListStart s events.MappingStart run.0 (λ m. items_at fills m.left 0 x m) r run.1 h inl (λ _ is. inr is) (λ yes_it c. absurd (false_true yes_it))
list_told takes Refuses fills law tells x s (Some (Seq ts)) z r run h =
    started brackets.ListStart s events.SequenceStart run.0 (λ m. items_at fills m.left 0 x m) r run.1 h inl (λ not_it _. absurd (true_false not_it))
    (λ _ c. items_told takes Refuses fills law tells ts c.at.left 0 x c.at z r (subst (λ (q : State). Runs q (each_emitted ts (events.SequenceEnd ∷ [])) z) (sym c.state) run.2) c.then)

pub list_tells : {X : Type 0} (takes : X → ℕ → Option Tree → Option X) (Refuses : X → ℕ → Option Tree → Refusal → Type 0) (fills : X → ℕ → Source → Result (X × Source) Refused)
    → ((x : X) (at : ℕ) → Reads (takes x at) (fills x at)) → ((x : X) (at : ℕ) → Tells (Refuses x at) (fills x at)) → (x : X) → Tells (RefusesList takes Refuses x) (seq_at fills x)
list_tells takes Refuses fills law tells x = record { told = list_told takes Refuses fills law tells x }

-- an entry of a map
record Entry {X : Type 0} (takes : X → List ℕ → Option Tree → Option X) (x : X) (key : Scalar) (t : Tree) (z : State) (y : X) (m : Source) : Type 0 where
  value : takes x key.text (Some t) ≡ Some y
  state : m.state ≡ z

-- the key that stands there is the one that is taken
key_was : (s : Source) (key : Scalar) (w : State) (k : List ℕ) (m : Source) → next s.state ≡ Ok (scalar_event key, w) → any_at s ≡ Ok (k, m) → (k ≡ key.text) × (m.state ≡ w)
key_was s key w k m here h =
    let i = read_is (any_node Ok) any_at any_reads s (Some (Leaf key)) w k m (w, here, refl) h in
    (sym (ok_some key.text k i.value), i.state)
  where
    ok_some : (a b : List ℕ) → Some a ≡ Some b → a ≡ b
    ok_some a b e = cc

entry_told : {X : Type 0} (takes : X → List ℕ → Option Tree → Option X) (Refuses : X → List ℕ → Option Tree → Refusal → Type 0) (fills : X → List ℕ → Source → Result (X × Source) Refused)
    → ((x : X) (key : List ℕ) → Reads (takes x key) (fills x key)) → ((x : X) (key : List ℕ) → Tells (Refuses x key) (fills x key))
    → (x : X) (s : Source) (key : Scalar) (t : Tree) (w z : State) (r : Refused) → next s.state ≡ Ok (scalar_event key, w) → Runs w (emitted t []) z → entry_at fills x s ≡ Err r → OrUncounted (Refuses x key.text (Some t)) r.refusal
unfolding entry_at
entry_told takes Refuses fills law tells x s key t w z r here run h =
    steps (any_at s) _ r h
    (λ no. from (any_told s (Some (Leaf key)) w r (w, here, refl) no))
    (λ c.
    let k = key_was s key w c.value.0 c.value.1 here c.is in
    subst (λ (name : List ℕ). OrUncounted (Refuses x name (Some t)) r.refusal) k.0
    (item_told (takes x c.value.0) (Refuses x c.value.0) (fills x c.value.0) (law x c.value.0) (tells x c.value.0) c.value.1 t z r (subst (λ (q : State). Runs q (emitted t []) z) (sym k.1) run) c.then))
  where
    from : OrUncounted (RefusesAny (Some (Leaf key))) r.refusal → OrUncounted (Refuses x key.text (Some t)) r.refusal
    from (inl many) = inl many
    from (inr never) = absurd never

entry_was : {X : Type 0} (takes : X → List ℕ → Option Tree → Option X) (fills : X → List ℕ → Source → Result (X × Source) Refused) → ((x : X) (key : List ℕ) → Reads (takes x key) (fills x key))
    → (x : X) (s : Source) (key : Scalar) (t : Tree) (w z : State) (y : X) (m : Source) → next s.state ≡ Ok (scalar_event key, w) → Runs w (emitted t []) z → entry_at fills x s ≡ Ok (y, m) → Entry takes x key t z y m
unfolding entry_at
entry_was {X} takes fills law x s key t w z y m here run h = by (any_at s) refl h
  where
    by : (p : Result (List ℕ × Source) Refused) → any_at s ≡ p → (p >>= λ k. item_at (fills x k.0) k.1) ≡ Ok (y, m) → Entry takes x key t z y m
    by (Err e) is h = absurd cc
    by (Ok k) is h =
        let g = key_was s key w k.0 k.1 here is in
        let i = item_was (takes x k.0) (fills x k.0) (law x k.0) k.1 t z y m (subst (λ (q : State). Runs q (emitted t []) z) (sym g.1) run) h in
        record { value = ap (λ (name : List ℕ). takes x name (Some t)) (sym g.0) ∙ i.value; state = i.state }

entries_told : {X : Type 0} (takes : X → List ℕ → Option Tree → Option X) (Refuses : X → List ℕ → Option Tree → Refusal → Type 0) (fills : X → List ℕ → Source → Result (X × Source) Refused)
    → ((x : X) (key : List ℕ) → Reads (takes x key) (fills x key)) → ((x : X) (key : List ℕ) → Tells (Refuses x key) (fills x key))
    → (ps : Pairs) (n : ℕ) (x : X) (s : Source) (z : State) (r : Refused) → Runs s.state (pairs_emitted ps (events.MappingEnd ∷ [])) z → entries_at fills n x s ≡ Err r → OrUncounted (RefusesEntries takes Refuses x ps) r.refusal
unfolding entries_at
entries_told {X} takes Refuses fills law tells ps zero x s z r run h = inl (ap (λ (v : Refused). v.refusal) (sym (err_is {A = X × Source} (record { refusal = TooManyEvents; leaves = s }) r h)))
entries_told {X} takes Refuses fills law tells no_pairs (suc n) x s z r run h =
    steps (end_at brackets.MapEnd s) _ r h
    (λ no. inl (end_told brackets.MapEnd s events.MappingEnd run.0 r run.1 no))
    (λ b. by b.value.0 b.value.1 (end_was brackets.MapEnd s events.MappingEnd run.0 b.value.0 b.value.1 run.1 b.is) b.then)
  where
    by : (v : Bool) (m : Source) → End brackets.MapEnd s events.MappingEnd v m → cond v (Ok (x, m)) (entry_at fills x m >>= λ y. entries_at fills n y.0 y.1) ≡ Err r → OrUncounted (RefusesEntries takes Refuses x no_pairs) r.refusal
    by true m end h = no_ok r h
    by false m end h = absurd (true_false end.is)
entries_told {X} takes Refuses fills law tells (pair key t ps) (suc n) x s z r run h =
    let c = emitted_cut run.0 t (pairs_emitted ps (events.MappingEnd ∷ [])) z run.2 in
    steps (end_at brackets.MapEnd s) _ r h
    (λ no. inl (end_told brackets.MapEnd s (scalar_event key) run.0 r run.1 no))
    (λ e. by run.0 run.1 c.0 c.1 c.2 (λ y m p q. entries_told takes Refuses fills law tells ps n y m z r p q) e.value.0 e.value.1
    (end_was brackets.MapEnd s (scalar_event key) run.0 e.value.0 e.value.1 run.1 e.is) e.then)
  where
    behind : (y : X) → takes x key.text (Some t) ≡ Some y → OrUncounted (RefusesEntries takes Refuses y ps) r.refusal → OrUncounted (RefusesEntries takes Refuses x (pair key t ps)) r.refusal
    behind y is (inl many) = inl many
    behind y is (inr later) = inr (inr (y, is, later))

    here : OrUncounted (Refuses x key.text (Some t)) r.refusal → OrUncounted (RefusesEntries takes Refuses x (pair key t ps)) r.refusal
    here (inl many) = inl many
    here (inr now) = inr (inl now)

    by : (k : State) → next s.state ≡ Ok (scalar_event key, k) → (w : State) → Runs k (emitted t []) w → Runs w (pairs_emitted ps (events.MappingEnd ∷ [])) z
        → ((y : X) (m : Source) → Runs m.state (pairs_emitted ps (events.MappingEnd ∷ [])) z → entries_at fills n y m ≡ Err r → OrUncounted (RefusesEntries takes Refuses y ps) r.refusal)
        → (v : Bool) (m : Source) → End brackets.MapEnd s (scalar_event key) v m
        → cond v (Ok (x, m)) (entry_at fills x m >>= λ y. entries_at fills n y.0 y.1) ≡ Err r → OrUncounted (RefusesEntries takes Refuses x (pair key t ps)) r.refusal
    by k stands w first rest others true m end h = no_ok r h
    by k stands w first rest others false m end h =
        let there = subst (λ (q : Source). next q.state ≡ Ok (scalar_event key, k)) (sym (end.stays refl)) stands in
        steps (entry_at fills x m) _ r h
        (λ no. here (entry_told takes Refuses fills law tells x m key t k w r there first no))
        (λ c.
        let i = entry_was takes fills law x m key t k w c.value.0 c.value.1 there first c.is in
        behind c.value.0 i.value (others c.value.0 c.value.1 (subst (λ (q : State). Runs q (pairs_emitted ps (events.MappingEnd ∷ [])) z) (sym i.state) rest) c.then))

map_told : {X : Type 0} (takes : X → List ℕ → Option Tree → Option X) (Refuses : X → List ℕ → Option Tree → Refusal → Type 0) (fills : X → List ℕ → Source → Result (X × Source) Refused)
    → ((x : X) (key : List ℕ) → Reads (takes x key) (fills x key)) → ((x : X) (key : List ℕ) → Tells (Refuses x key) (fills x key))
    → (x : X) (s : Source) (node : Option Tree) (z : State) (r : Refused) → Emits s.state node z → map_at fills x s ≡ Err r → OrUncounted (RefusesMap takes Refuses x node) r.refusal
unfolding map_at
map_told takes Refuses fills law tells x s None z r run h =
    started brackets.MapStart s events.StreamEnd z (λ m. entries_at fills m.left x m) r run h inl (λ _ is. inr is) (λ yes_it c. absurd (false_true yes_it))
map_told takes Refuses fills law tells x s (Some (Leaf a)) z r run h =
    started brackets.MapStart s (scalar_event a) run.0 (λ m. entries_at fills m.left x m) r run.1 h inl (λ _ is. inr is) (λ yes_it c. absurd (false_true yes_it))
map_told takes Refuses fills law tells x s (Some (Seq ts)) z r run h =
    started brackets.MapStart s events.SequenceStart run.0 (λ m. entries_at fills m.left x m) r run.1 h inl (λ _ is. inr is) (λ yes_it c. absurd (false_true yes_it))
map_told takes Refuses fills law tells x s (Some (Map ps)) z r run h =
    started brackets.MapStart s events.MappingStart run.0 (λ m. entries_at fills m.left x m) r run.1 h inl (λ not_it _. absurd (true_false not_it))
    (λ _ c. entries_told takes Refuses fills law tells ps c.at.left x c.at z r (subst (λ (q : State). Runs q (pairs_emitted ps (events.MappingEnd ∷ [])) z) (sym c.state) run.2) c.then)

pub map_tells : {X : Type 0} (takes : X → List ℕ → Option Tree → Option X) (Refuses : X → List ℕ → Option Tree → Refusal → Type 0) (fills : X → List ℕ → Source → Result (X × Source) Refused)
    → ((x : X) (key : List ℕ) → Reads (takes x key) (fills x key)) → ((x : X) (key : List ℕ) → Tells (Refuses x key) (fills x key)) → (x : X) → Tells (RefusesMap takes Refuses x) (map_at fills x)
map_tells takes Refuses fills law tells x = record { told = map_told takes Refuses fills law tells x }

-- what may be missing
option_told : {X : Type 0} (Refuses : Option Tree → Refusal → Type 0) (read : Source → Result (X × Source) Refused) → Tells Refuses read
    → (s : Source) (node : Option Tree) (z : State) (r : Refused) → Emits s.state node z → option_at read s ≡ Err r → OrUncounted (RefusesOption Refuses node) r.refusal
unfolding option_at
option_told {X} Refuses read tells s node z r run h =
    let f = emits_first s.state node z run in
    steps (front s) _ r h
    (λ no. inl (front_told s (first_event node) f.0 r f.1 no))
    (λ c. by (is_nothing (first_event node)) refl (sym (ap (λ (e : Event). opted (is_nothing e) read s) (front_event s (first_event node) f.0 c.value f.1 c.is)) ∙ c.then))
  where
    told : (n : Option Tree) → is_nothing (first_event n) ≡ false → OrUncounted (Refuses n) r.refusal → OrUncounted (RefusesOption Refuses n) r.refusal
    told n some (inl many) = inl many
    told None some (inr is) = inr is
    told (Some (Leaf a)) some (inr is) = inr (some, is)
    told (Some (Seq ts)) some (inr is) = inr is
    told (Some (Map ps)) some (inr is) = inr is

    by : (b : Bool) → is_nothing (first_event node) ≡ b → opted b read s ≡ Err r → OrUncounted (RefusesOption Refuses node) r.refusal
    by true is h =
        let f = emits_first s.state node z run in
        steps (pull s) _ r h (λ no. inl (pull_told s (first_event node) f.0 r f.1 no)) (λ c. no_ok r c.then)
    by false is h = steps (read s) _ r h (λ no. told node is (tells.told s node z r run no)) (λ c. no_ok r c.then)

pub option_tells : {X : Type 0} (Refuses : Option Tree → Refusal → Type 0) (read : Source → Result (X × Source) Refused) → Tells Refuses read → Tells (RefusesOption Refuses) (option_at read)
option_tells Refuses read tells = record { told = option_told Refuses read tells }

-- what is read, put to something
pub mapped_tells : {X Y : Type 0} (f : X → Y) (Refuses : Option Tree → Refusal → Type 0) (read : Source → Result (X × Source) Refused) → Tells Refuses read → Tells Refuses (mapped_at f read)
mapped_tells f Refuses read tells = record { told = λ s node z r run h. steps (read s) _ r h (λ no. tells.told s node z r run no) (λ c. no_ok r c.then) }

-- what is read, put to a test
pub tested_told : {X Y : Type 0} (f : X → Result Y Refusal) (of_node : Option Tree → Option X) (Refuses : Option Tree → Refusal → Type 0) (read : Source → Result (X × Source) Refused) → Reads of_node read → Tells Refuses read
    → (s : Source) (node : Option Tree) (z : State) (r : Refused) → Emits s.state node z → checked_at f read s ≡ Err r → OrUncounted (RefusesTest f of_node Refuses node) r.refusal
tested_told f of_node Refuses read law tells s node z r run h =
    steps (read s) _ r h
    (λ no. from (tells.told s node z r run no))
    (λ c. steps (found_at c.value.1 (f c.value.0)) _ r c.then
    (λ no. inr (inr (c.value.0, (read_is of_node read law s node z c.value.0 c.value.1 run c.is).value, found_told c.value.1 (f c.value.0) r no)))
    (λ d. no_ok r d.then))
  where
    from : OrUncounted (Refuses node) r.refusal → OrUncounted (RefusesTest f of_node Refuses node) r.refusal
    from (inl many) = inl many
    from (inr is) = inr (inl is)

pub tested_tells : {X Y : Type 0} (f : X → Result Y Refusal) (of_node : Option Tree → Option X) (Refuses : Option Tree → Refusal → Type 0) (read : Source → Result (X × Source) Refused) → Reads of_node read → Tells Refuses read
    → Tells (RefusesTest f of_node Refuses) (checked_at f read)
tested_tells f of_node Refuses read law tells = record { told = tested_told f of_node Refuses read law tells }

-- a field that the type does not have
pub unknown_tells : {X : Type 0} (name : List ℕ) → Tells (IsUnknown name) (refused_at {X = X} (UnknownField name))
unknown_tells {X} name = record { told = λ s node z r run h. inr (ap (λ (v : Refused). v.refusal) (sym (err_is {A = X × Source} (record { refusal = UnknownField name; leaves = s }) r h))) }

-- one of two reads
pub if_tells : {X : Type 0} (b : Bool) (Yes No : Option Tree → Refusal → Type 0) (yes_read no_read : Source → Result (X × Source) Refused) → Tells Yes yes_read → Tells No no_read → Tells (RefusesIf b Yes No) (cond b yes_read no_read)
if_tells {X} b Yes No yes_read no_read yes_tells no_tells = record { told = λ s node z r run h. by s node z r run b refl h }
  where
    yes_told : {n : Option Tree} {x : Refusal} → b ≡ true → OrUncounted (Yes n) x → OrUncounted (RefusesIf b Yes No n) x
    yes_told is (inl many) = inl many
    yes_told is (inr told) = inr (inl (is, told))

    no_told : {n : Option Tree} {x : Refusal} → b ≡ false → OrUncounted (No n) x → OrUncounted (RefusesIf b Yes No n) x
    no_told is (inl many) = inl many
    no_told is (inr told) = inr (inr (is, told))

    by : (s : Source) (node : Option Tree) (z : State) (r : Refused) → Emits s.state node z → (c : Bool) → b ≡ c → cond c yes_read no_read s ≡ Err r → OrUncounted (RefusesIf b Yes No node) r.refusal
    by s node z r run true is h = yes_told is (yes_tells.told s node z r run h)
    by s node z r run false is h = no_told is (no_tells.told s node z r run h)
