-- Reads of lists, maps and what may be missing, against the nodes that are emitted.
use Rattle.std.proofs.Common.{◌≡◌, ℕ, zero, suc, ◌+◌, ◌<◌, ◌≤◌, nat_lt, List, [], ◌∷◌, Bool, true, false, cond, Option, Some, None, option_and_then, Result, Ok, Err, refl, sym, ap, ◌∙◌, subst, arith}
use Rattle.std.proofs.lemmas.Bool.{lt-ltb}
use Rattle.warg_values.specs.Reading.{◌>>=◌}
use Rattle.warg_values.specs.ReadingLaws.{bind_ok, ok_is, guard_ok, wanted_ok}
use Rattle.yaml_small.specs.declared.event.Event.{Event}
use Rattle.yaml_small.specs.declared.event.Event.TheVariants as events
use Rattle.yaml_small.specs.Trees.{Scalar, Tree, Leaf, Seq, Map, Trees, none, more, Pairs, no_pairs, pair, scalar_event, emitted, each_emitted, pairs_emitted}
use Rattle.yaml_small.specs.Stream.{State, next, Runs}
use Rattle.yaml_read.specs.declared.bracket.Bracket.{Bracket}
use Rattle.yaml_read.specs.declared.bracket.Bracket.TheVariants as brackets
use Rattle.yaml_read.specs.Source.{Source, WrongEvent, pull, front, Refused}
use Rattle.yaml_read.specs.Scalar.{any_at}
use Rattle.yaml_read.specs.Collections.{is_bracket, wanted, bracket_at, ended, end_at, is_stream_end, item_at, items_at, seq_at, entry_at, entries_at, map_at}
use Rattle.yaml_read.specs.Emitted.{Emits, Found, Gets, Reads}
use Rattle.yaml_read.specs.Nodes.{any_node, seq_as, seq_node, map_as, map_node}
use Rattle.yaml_read.specs.TakingLaws.{pull_is, front_is, pulls, fronts, gets_then, gets_more}
use Rattle.yaml_read.specs.Laws.{taken_is, taken_gets, some_is, any_reads, one_event}
use Rattle.yaml_read.specs.JoinLaws.{emitted_join, emitted_cut, begins_of}

-- what was emitted once is emitted
pub emitted_once : {P : Type 0} (s : State) (e d : Event) (m z : State) → next s ≡ Ok (e, m) → next s ≡ Ok (d, z) → (e ≡ d → m ≡ z → P) → P
emitted_once {P} s e d m z a b go =
    let same = ok_is (e, m) (d, z) (sym a ∙ b) in go (ap (λ (p : Event × State). p.0) same) (ap (λ (p : Event × State). p.1) same)

pub true_false : true ≡ false → ⊥
true_false h = cc

pub false_true : false ≡ true → ⊥
false_true h = cc

pub list_start : (e : Event) → is_bracket brackets.ListStart e ≡ true → e ≡ events.SequenceStart
list_start events.SequenceStart h = refl
list_start e h = absurd cc

pub list_end : (e : Event) → is_bracket brackets.ListEnd e ≡ true → e ≡ events.SequenceEnd
list_end events.SequenceEnd h = refl
list_end e h = absurd cc

pub map_start : (e : Event) → is_bracket brackets.MapStart e ≡ true → e ≡ events.MappingStart
map_start events.MappingStart h = refl
map_start e h = absurd cc

pub map_end : (e : Event) → is_bracket brackets.MapEnd e ≡ true → e ≡ events.MappingEnd
map_end events.MappingEnd h = refl
map_end e h = absurd cc

pub bracket_is : (b : Bracket) (s : Source) (x : Unit {0}) (m : Source) → bracket_at b s ≡ Ok (x, m) → (e : Event) × (next s.state ≡ Ok (e, m.state)) × (is_bracket b e ≡ true)
unfolding bracket_at
bracket_is b s x m h =
    let a = taken_is (wanted b) s x m h in
    let w = wanted_ok (is_bracket b a.0) _ _ x a.2 in
    (a.0, a.1, w.0)

pub bracket_gets : (b : Bracket) (s : Source) (e : Event) (z : State) → next s.state ≡ Ok (e, z) → is_bracket b e ≡ true → Gets s.left tt z (bracket_at b s)
unfolding bracket_at
bracket_gets b s e z here is = taken_gets (wanted b) s e z tt here (ap (λ (v : Bool). cond v (Ok tt) (Err (WrongEvent e))) is)

-- an end that was taken, and one that does not stand there
end_taken : (b : Bracket) (s m : Source) → end_at b s ≡ Ok (true, m) → (e : Event) × (next s.state ≡ Ok (e, m.state)) × (is_bracket b e ≡ true)
unfolding end_at
end_taken b s m h =
    let a = bind_ok (front s) _ _ h in
    by_test a.0 a.1 (is_bracket b a.0) refl a.2
  where
    stood : (e : Event) (t : Event × Source) → front s ≡ Ok e → pull s ≡ Ok t → is_bracket b e ≡ true → t.1 ≡ m → (d : Event) × (next s.state ≡ Ok (d, m.state)) × (is_bracket b d ≡ true)
    stood e t f p is at =
        let g = front_is s e f in
        (e, pull_is s e g.0 g.1 ∙ ap (λ (v : Source). Ok (e, v.state)) (ap (λ (v : Event × Source). v.1) (ok_is {F = Refused} (e, g.0) t (sym g.1 ∙ p)) ∙ at), is)

    by_test : (e : Event) → front s ≡ Ok e → (v : Bool) → is_bracket b e ≡ v → ended v s ≡ Ok (true, m) → (d : Event) × (next s.state ≡ Ok (d, m.state)) × (is_bracket b d ≡ true)
    by_test e f true is h =
        let p = bind_ok (pull s) _ _ h in
        stood e p.0 f p.1 is (ap (λ (v : Bool × Source). v.1) (ok_is {F = Refused} (true, p.0.1) (true, m) p.2))
    by_test e f false is h = absurd (false_true (ap (λ (v : Bool × Source). v.0) (ok_is {F = Refused} (false, s) (true, m) h)))

end_missing : (b : Bracket) (s m : Source) → end_at b s ≡ Ok (false, m) → s ≡ m
unfolding end_at
end_missing b s m h = let a = bind_ok (front s) _ _ h in by_test (is_bracket b a.0) a.2
  where
    by_test : (v : Bool) → ended v s ≡ Ok (false, m) → s ≡ m
    by_test true h = let p = bind_ok (pull s) _ _ h in absurd (true_false (ap (λ (v : Bool × Source). v.0) (ok_is {F = Refused} (true, p.0.1) (false, m) p.2)))
    by_test false h = ap (λ (v : Bool × Source). v.1) (ok_is {F = Refused} (false, s) (false, m) h)

end_gets : (b : Bracket) (s : Source) (e : Event) (z : State) → next s.state ≡ Ok (e, z) → is_bracket b e ≡ true → Gets s.left true z (end_at b s)
unfolding end_at
end_gets b s e z here is =
    fronts s.left s e z true z _ here (rw is (pulls s.left s e z true z _ here (λ m at less. (refl, at, less))))

end_stays : {X : Type 0} (left : ℕ) (b : Bracket) (s : Source) (e : Event) (z : State) (x : X) (w : State) (f : Bool × Source → Result (X × Source) Refused) → next s.state ≡ Ok (e, z)
    → is_bracket b e ≡ false → Gets left x w (f (false, s)) → Gets left x w (end_at b s >>= f)
unfolding end_at
end_stays left b s e z x w f here is go = rw (bind_twice (front s) (λ event. ended (is_bracket b event) s) f) (fronts left s e z x w _ here (rw is go))
  where
    bind_twice : {A B C : Type 0} (r : Result A Refused) (g : A → Result B Refused) (h : B → Result C Refused) → ((r >>= g) >>= h) ≡ (r >>= λ a. g a >>= h)
    bind_twice (Ok a) g h = refl
    bind_twice (Err refusal) g h = refl

-- a value within a list or map is that of a tree
pub item_found : {X : Type 0} (of_node : Option Tree → Option X) (read : Source → Result (X × Source) Refused) → Reads of_node read → (s : Source) (x : X) (m : Source) → item_at read s ≡ Ok (x, m)
    → (t : Tree) × Runs s.state (emitted t []) m.state × (of_node (Some t) ≡ Some x)
unfolding item_at
item_found {X} of_node read law s x m h =
    let a = bind_ok (front s) _ _ h in
    let g = guard_ok (is_stream_end a.0) _ _ _ a.2 in
    let b = bind_ok (read s) _ _ g.1 in
    let p = wanted_ok (nat_lt b.0.1.left s.left) _ _ _ b.2 in
    let f = law.sound s b.0.0 b.0.1 b.1 in
    let at = front_is s a.0 a.1 in
    let same = ok_is {F = Refused} b.0 (x, m) p.1 in
    by_node f.node b.0 f.emitted f.read a.0 at.0.state (pull_is s a.0 at.0 at.1) g.0 same
  where
    by_node : (node : Option Tree) (y : X × Source) → Emits s.state node y.1.state → of_node node ≡ Some y.0 → (e : Event) (w : State) → next s.state ≡ Ok (e, w) → is_stream_end e ≡ false → y ≡ (x, m)
        → (t : Tree) × Runs s.state (emitted t []) m.state × (of_node (Some t) ≡ Some x)
    by_node None y telling is e w here continues same = emitted_once s.state e events.StreamEnd w y.1.state here telling (λ as_end _. absurd (true_false (ap is_stream_end (sym as_end) ∙ continues)))
    by_node (Some t) y telling is e w here continues same =
        (t, subst (λ (v : X × Source). Runs s.state (emitted t []) v.1.state) same telling, is ∙ ap (λ (v : X × Source). Some v.0) same)

pub item_gets : {X : Type 0} (of_node : Option Tree → Option X) (read : Source → Result (X × Source) Refused) → Reads of_node read → (s : Source) (t : Tree) (z : State) (x : X)
    → Runs s.state (emitted t []) z → of_node (Some t) ≡ Some x → Gets s.left x z (item_at read s)
unfolding item_at
item_gets of_node read law s t z x run is =
    let b = begins_of s.state t [] z run in
    fronts s.left s b.event b.behind x z _ b.here
    (rw b.continues (gets_then s.left s.left x z x z (read s) _ (law.complete s (Some t) z x run is) (λ m at less. rw (lt-ltb m.left s.left less) (refl, at, less))))

pub some_apart : {A : Type 0} (x : A) → None ≡ Some x → ⊥
some_apart x h = cc

-- the value behind another
pub then_some : {A B P : Type 0} (o : Option A) (f : A → Option B) (y : B) → option_and_then f o ≡ Some y → ((x : A) → o ≡ Some x → f x ≡ Some y → P) → P
then_some None f y h go = absurd (some_apart y h)
then_some (Some x) f y h go = go x refl h

-- the items of a list up to its end
items_found : {X : Type 0} (takes : X → ℕ → Option Tree → Option X) (fills : X → ℕ → Source → Result (X × Source) Refused) → ((x : X) (at : ℕ) → Reads (takes x at) (fills x at))
    → (n at : ℕ) (x : X) (s : Source) (y : X) (m : Source) → items_at fills n at x s ≡ Ok (y, m) → (ts : Trees) × Runs s.state (each_emitted ts (events.SequenceEnd ∷ [])) m.state × (seq_as takes at x ts ≡ Some y)
unfolding items_at
items_found takes fills law zero at x s y m h = absurd cc
items_found {X} takes fills law (suc n) at x s y m h =
    let a = bind_ok (end_at brackets.ListEnd s) _ _ h in by_end (λ v w. items_found takes fills law n (at + 1) v w y m) a.0.0 a.0.1 a.1 a.2
  where
    by_end : ((v : X) (w : Source) → items_at fills n (at + 1) v w ≡ Ok (y, m) → (ts : Trees) × Runs w.state (each_emitted ts (events.SequenceEnd ∷ [])) m.state × (seq_as takes (at + 1) v ts ≡ Some y))
        → (b : Bool) (w : Source) → end_at brackets.ListEnd s ≡ Ok (b, w) → cond b (Ok (x, w)) (item_at (fills x at) w >>= λ y. items_at fills n (at + 1) y.0 y.1) ≡ Ok (y, m)
        → (ts : Trees) × Runs s.state (each_emitted ts (events.SequenceEnd ∷ [])) m.state × (seq_as takes at x ts ≡ Some y)
    by_end others true w e h =
        let t = end_taken brackets.ListEnd s w e in
        let same = ok_is {F = Refused} (x, w) (y, m) h in
        (none, (m.state, t.1 ∙ ap (λ (v : Event). Ok (v, w.state)) (list_end t.0 t.2) ∙ ap (λ (v : X × Source). Ok (events.SequenceEnd, v.1.state)) same, refl), ap (λ (v : X × Source). Some v.0) same)
    by_end others false w e h =
        let i = bind_ok (item_at (fills x at) w) _ _ h in
        let f = item_found (takes x at) (fills x at) (law x at) w i.0.0 i.0.1 i.1 in
        let r = others i.0.0 i.0.1 i.2 in (
          more f.0 r.0,
          subst (λ (v : Source). Runs v.state (emitted f.0 (each_emitted r.0 (events.SequenceEnd ∷ []))) m.state) (sym (end_missing brackets.ListEnd s w e)) (emitted_join w.state f.0 i.0.1.state (each_emitted r.0 (events.SequenceEnd ∷ [])) m.state f.1 r.1),
          ap (option_and_then (λ v. seq_as takes (at + 1) v r.0)) f.2 ∙ r.2,
        )

items_gets : {X : Type 0} (takes : X → ℕ → Option Tree → Option X) (fills : X → ℕ → Source → Result (X × Source) Refused) → ((x : X) (at : ℕ) → Reads (takes x at) (fills x at))
    → (ts : Trees) (n at : ℕ) (x : X) (s : Source) (z : State) (y : X) → Runs s.state (each_emitted ts (events.SequenceEnd ∷ [])) z → seq_as takes at x ts ≡ Some y → Gets s.left y z (items_at fills n at x s)
unfolding items_at
items_gets takes fills law ts zero at x s z y run is = refl
items_gets {X} takes fills law none (suc n) at x s z y run is =
    gets_then s.left s.left true z y z (end_at brackets.ListEnd s) _ (end_gets brackets.ListEnd s events.SequenceEnd z (one_event s.state events.SequenceEnd z run) refl)
    (λ m at less. (some_is x y is, at, less))
items_gets {X} takes fills law (more t ts) (suc n) at x s z y run is =
    let b = begins_of s.state t (each_emitted ts (events.SequenceEnd ∷ [])) z run in
    let c = emitted_cut s.state t (each_emitted ts (events.SequenceEnd ∷ [])) z run in
    then_some (takes x at (Some t)) (λ v. seq_as takes (at + 1) v ts) y is (λ v first rest.
    end_stays s.left brackets.ListEnd s b.event b.behind y z _ b.here b.list
    (gets_then s.left s.left v c.0 y z (item_at (fills x at) s) _ (item_gets (takes x at) (fills x at) (law x at) s t c.0 v c.1 first)
    (λ m there less. gets_more m.left s.left y z _ (below m less)
    (items_gets takes fills law ts n (at + 1) v m z y (subst (λ (q : State). Runs q (each_emitted ts (events.SequenceEnd ∷ [])) z) (sym there) c.2) rest))))
  where
    below : (m : Source) → m.left < s.left → m.left ≤ s.left
    below m less = omega arith

seq_found : {X : Type 0} (takes : X → ℕ → Option Tree → Option X) (fills : X → ℕ → Source → Result (X × Source) Refused) → ((x : X) (at : ℕ) → Reads (takes x at) (fills x at))
    → (x : X) (s : Source) (y : X) (m : Source) → seq_at fills x s ≡ Ok (y, m) → Found (seq_node takes x) s y m
unfolding seq_at
seq_found takes fills law x s y m h =
    let a = bind_ok (bracket_at brackets.ListStart s) _ _ h in
    let start = bracket_is brackets.ListStart s a.0.0 a.0.1 a.1 in
    let f = items_found takes fills law a.0.1.left 0 x a.0.1 y m a.2 in
    record {
      node = Some (Seq f.0);
      emitted = (a.0.1.state, start.1 ∙ ap (λ (v : Event). Ok (v, a.0.1.state)) (list_start start.0 start.2), f.1);
      read = f.2;
    }

seq_gets : {X : Type 0} (takes : X → ℕ → Option Tree → Option X) (fills : X → ℕ → Source → Result (X × Source) Refused) → ((x : X) (at : ℕ) → Reads (takes x at) (fills x at))
    → (x : X) (s : Source) (node : Option Tree) (z : State) (y : X) → Emits s.state node z → seq_node takes x node ≡ Some y → Gets s.left y z (seq_at fills x s)
unfolding seq_at
seq_gets takes fills law x s None z y run is = absurd (some_apart y is)
seq_gets takes fills law x s (Some (Leaf sc)) z y run is = absurd (some_apart y is)
seq_gets takes fills law x s (Some (Map ps)) z y run is = absurd (some_apart y is)
seq_gets takes fills law x s (Some (Seq ts)) z y run is =
    gets_then s.left s.left tt run.0 y z (bracket_at brackets.ListStart s) _ (bracket_gets brackets.ListStart s events.SequenceStart run.0 run.1 refl)
    (λ m there less. gets_more m.left s.left y z _ (below m less)
    (items_gets takes fills law ts m.left 0 x m z y (subst (λ (q : State). Runs q (each_emitted ts (events.SequenceEnd ∷ [])) z) (sym there) run.2) is))
  where
    below : (m : Source) → m.left < s.left → m.left ≤ s.left
    below m less = omega arith

-- the read of a list takes what the nodes of its items are
pub seq_reads : {X : Type 0} (takes : X → ℕ → Option Tree → Option X) (fills : X → ℕ → Source → Result (X × Source) Refused) → ((x : X) (at : ℕ) → Reads (takes x at) (fills x at))
    → (x : X) → Reads (seq_node takes x) (seq_at fills x)
seq_reads takes fills law x = record { sound = seq_found takes fills law x; complete = seq_gets takes fills law x }

-- an entry of a map, and its entries up to its end
pub entry_found : {X : Type 0} (takes : X → List ℕ → Option Tree → Option X) (fills : X → List ℕ → Source → Result (X × Source) Refused) → ((x : X) (key : List ℕ) → Reads (takes x key) (fills x key))
    → (x : X) (s : Source) (y : X) (m : Source) → entry_at fills x s ≡ Ok (y, m) → (key : Scalar) × ((t : Tree) × (Runs s.state (scalar_event key ∷ emitted t []) m.state × (takes x key.text (Some t) ≡ Some y)))
unfolding entry_at
entry_found {X} takes fills law x s y m h =
    let a = bind_ok (any_at s) _ _ h in
    let k = any_reads.sound s a.0.0 a.0.1 a.1 in
    let f = item_found (takes x a.0.0) (fills x a.0.0) (law x a.0.0) a.0.1 y m a.2 in
    by_node a.0.0 a.0.1 k.node k.emitted k.read f.0 f.1 f.2
  where
    by_node : (text : List ℕ) (w : Source) (node : Option Tree) → Emits s.state node w.state → any_node Ok node ≡ Some text → (t : Tree) → Runs w.state (emitted t []) m.state → takes x text (Some t) ≡ Some y
        → (key : Scalar) × ((t : Tree) × (Runs s.state (scalar_event key ∷ emitted t []) m.state × (takes x key.text (Some t) ≡ Some y)))
    by_node text w None telling is t run value = absurd (some_apart text is)
    by_node text w (Some (Seq ts)) telling is t run value = absurd (some_apart text is)
    by_node text w (Some (Map ps)) telling is t run value = absurd (some_apart text is)
    by_node text w (Some (Leaf sc)) telling is t run value =
        (sc, (t, ((w.state, one_event s.state (scalar_event sc) w.state telling, run), ap (λ (v : List ℕ). takes x v (Some t)) (some_is sc.text text is) ∙ value)))

pub entry_gets : {X : Type 0} (takes : X → List ℕ → Option Tree → Option X) (fills : X → List ℕ → Source → Result (X × Source) Refused) → ((x : X) (key : List ℕ) → Reads (takes x key) (fills x key))
    → (x : X) (s : Source) (key : Scalar) (t : Tree) (z : State) (y : X) → Runs s.state (scalar_event key ∷ emitted t []) z → takes x key.text (Some t) ≡ Some y → Gets s.left y z (entry_at fills x s)
unfolding entry_at
entry_gets takes fills law x s key t z y run is =
    gets_then s.left s.left key.text run.0 y z (any_at s) _ (any_reads.complete s (Some (Leaf key)) run.0 key.text (run.0, run.1, refl) refl)
    (λ m there less. gets_more m.left s.left y z _ (below m less)
    (item_gets (takes x key.text) (fills x key.text) (law x key.text) m t z y (subst (λ (q : State). Runs q (emitted t []) z) (sym there) run.2) is))
  where
    below : (m : Source) → m.left < s.left → m.left ≤ s.left
    below m less = omega arith

entries_found : {X : Type 0} (takes : X → List ℕ → Option Tree → Option X) (fills : X → List ℕ → Source → Result (X × Source) Refused) → ((x : X) (key : List ℕ) → Reads (takes x key) (fills x key))
    → (n : ℕ) (x : X) (s : Source) (y : X) (m : Source) → entries_at fills n x s ≡ Ok (y, m) → (ps : Pairs) × Runs s.state (pairs_emitted ps (events.MappingEnd ∷ [])) m.state × (map_as takes x ps ≡ Some y)
unfolding entries_at
entries_found takes fills law zero x s y m h = absurd cc
entries_found {X} takes fills law (suc n) x s y m h =
    let a = bind_ok (end_at brackets.MapEnd s) _ _ h in by_end (λ v w. entries_found takes fills law n v w y m) a.0.0 a.0.1 a.1 a.2
  where
    by_end : ((v : X) (w : Source) → entries_at fills n v w ≡ Ok (y, m) → (ps : Pairs) × Runs w.state (pairs_emitted ps (events.MappingEnd ∷ [])) m.state × (map_as takes v ps ≡ Some y))
        → (b : Bool) (w : Source) → end_at brackets.MapEnd s ≡ Ok (b, w) → cond b (Ok (x, w)) (entry_at fills x w >>= λ y. entries_at fills n y.0 y.1) ≡ Ok (y, m)
        → (ps : Pairs) × Runs s.state (pairs_emitted ps (events.MappingEnd ∷ [])) m.state × (map_as takes x ps ≡ Some y)
    by_end others true w e h =
        let t = end_taken brackets.MapEnd s w e in
        let same = ok_is {F = Refused} (x, w) (y, m) h in
        (no_pairs, (m.state, t.1 ∙ ap (λ (v : Event). Ok (v, w.state)) (map_end t.0 t.2) ∙ ap (λ (v : X × Source). Ok (events.MappingEnd, v.1.state)) same, refl), ap (λ (v : X × Source). Some v.0) same)
    by_end others false w e h =
        let i = bind_ok (entry_at fills x w) _ _ h in
        let f = entry_found takes fills law x w i.0.0 i.0.1 i.1 in
        let run = f.1.1.0 in
        let r = others i.0.0 i.0.1 i.2 in (
          pair f.0 f.1.0 r.0,
          subst (λ (v : Source). Runs v.state (scalar_event f.0 ∷ emitted f.1.0 (pairs_emitted r.0 (events.MappingEnd ∷ []))) m.state) (sym (end_missing brackets.MapEnd s w e))
              (run.0, run.1, emitted_join run.0 f.1.0 i.0.1.state (pairs_emitted r.0 (events.MappingEnd ∷ [])) m.state run.2 r.1),
          ap (option_and_then (λ v. map_as takes v r.0)) f.1.1.1 ∙ r.2,
        )

entries_gets : {X : Type 0} (takes : X → List ℕ → Option Tree → Option X) (fills : X → List ℕ → Source → Result (X × Source) Refused) → ((x : X) (key : List ℕ) → Reads (takes x key) (fills x key))
    → (ps : Pairs) (n : ℕ) (x : X) (s : Source) (z : State) (y : X) → Runs s.state (pairs_emitted ps (events.MappingEnd ∷ [])) z → map_as takes x ps ≡ Some y → Gets s.left y z (entries_at fills n x s)
unfolding entries_at
entries_gets takes fills law ps zero x s z y run is = refl
entries_gets {X} takes fills law no_pairs (suc n) x s z y run is =
    gets_then s.left s.left true z y z (end_at brackets.MapEnd s) _ (end_gets brackets.MapEnd s events.MappingEnd z (one_event s.state events.MappingEnd z run) refl)
    (λ m at less. (some_is x y is, at, less))
entries_gets {X} takes fills law (pair key t ps) (suc n) x s z y run is =
    let c = emitted_cut run.0 t (pairs_emitted ps (events.MappingEnd ∷ [])) z run.2 in
    then_some (takes x key.text (Some t)) (λ v. map_as takes v ps) y is (λ v first rest.
    end_stays s.left brackets.MapEnd s (scalar_event key) run.0 y z _ run.1 refl
    (gets_then s.left s.left v c.0 y z (entry_at fills x s) _ (entry_gets takes fills law x s key t c.0 v (run.0, run.1, c.1) first)
    (λ m there less. gets_more m.left s.left y z _ (below m less)
    (entries_gets takes fills law ps n v m z y (subst (λ (q : State). Runs q (pairs_emitted ps (events.MappingEnd ∷ [])) z) (sym there) c.2) rest))))
  where
    below : (m : Source) → m.left < s.left → m.left ≤ s.left
    below m less = omega arith

map_found : {X : Type 0} (takes : X → List ℕ → Option Tree → Option X) (fills : X → List ℕ → Source → Result (X × Source) Refused) → ((x : X) (key : List ℕ) → Reads (takes x key) (fills x key))
    → (x : X) (s : Source) (y : X) (m : Source) → map_at fills x s ≡ Ok (y, m) → Found (map_node takes x) s y m
unfolding map_at
map_found takes fills law x s y m h =
    let a = bind_ok (bracket_at brackets.MapStart s) _ _ h in
    let start = bracket_is brackets.MapStart s a.0.0 a.0.1 a.1 in
    let f = entries_found takes fills law a.0.1.left x a.0.1 y m a.2 in
    record {
      node = Some (Map f.0);
      emitted = (a.0.1.state, start.1 ∙ ap (λ (v : Event). Ok (v, a.0.1.state)) (map_start start.0 start.2), f.1);
      read = f.2;
    }

map_gets : {X : Type 0} (takes : X → List ℕ → Option Tree → Option X) (fills : X → List ℕ → Source → Result (X × Source) Refused) → ((x : X) (key : List ℕ) → Reads (takes x key) (fills x key))
    → (x : X) (s : Source) (node : Option Tree) (z : State) (y : X) → Emits s.state node z → map_node takes x node ≡ Some y → Gets s.left y z (map_at fills x s)
unfolding map_at
map_gets takes fills law x s None z y run is = absurd (some_apart y is)
map_gets takes fills law x s (Some (Leaf sc)) z y run is = absurd (some_apart y is)
map_gets takes fills law x s (Some (Seq ts)) z y run is = absurd (some_apart y is)
map_gets takes fills law x s (Some (Map ps)) z y run is =
    gets_then s.left s.left tt run.0 y z (bracket_at brackets.MapStart s) _ (bracket_gets brackets.MapStart s events.MappingStart run.0 run.1 refl)
    (λ m there less. gets_more m.left s.left y z _ (below m less)
    (entries_gets takes fills law ps m.left x m z y (subst (λ (q : State). Runs q (pairs_emitted ps (events.MappingEnd ∷ [])) z) (sym there) run.2) is))
  where
    below : (m : Source) → m.left < s.left → m.left ≤ s.left
    below m less = omega arith

-- the read of a map takes what the nodes of its values are
pub map_reads : {X : Type 0} (takes : X → List ℕ → Option Tree → Option X) (fills : X → List ℕ → Source → Result (X × Source) Refused) → ((x : X) (key : List ℕ) → Reads (takes x key) (fills x key))
    → (x : X) → Reads (map_node takes x) (map_at fills x)
map_reads takes fills law x = record { sound = map_found takes fills law x; complete = map_gets takes fills law x }
