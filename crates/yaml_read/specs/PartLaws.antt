-- Reads of variants, of lists of two and three, and of what may be missing, against the nodes that are emitted.
use Rattle.std.proofs.Common.{◌≡◌, ℕ, ◌<◌, ◌≤◌, List, [], ◌∷◌, Bool, true, false, cond, Option, Some, None, option_map, option_and_then, Result, Ok, refl, sym, ap, ◌∙◌, subst, arith}
use Rattle.warg_values.specs.Reading.{◌>>=◌}
use Rattle.warg_values.specs.ReadingLaws.{bind_ok, ok_is}
use Rattle.yaml_small.specs.declared.event.Event.{Event}
use Rattle.yaml_small.specs.declared.event.Event.TheVariants as events
use Rattle.yaml_small.specs.declared.event.Style.{Style}
use Rattle.yaml_small.specs.Trees.{Scalar, Tree, Leaf, Seq, Map, none, more, no_pairs, pair, scalar_event, emitted}
use Rattle.yaml_small.specs.Stream.{State, next, Runs}
use Rattle.yaml_read.specs.declared.bracket.Bracket.TheVariants as brackets
use Rattle.yaml_read.specs.Source.{Source, Refusal, pull, front, Refused, refused, found_at}
use Rattle.yaml_read.specs.Scalar.{is_null}
use Rattle.yaml_read.specs.Collections.{bracket_at, item_at, entry_at, enum_at, is_nothing, opted, option_at, pair_at, triple_at, mapped_at, checked_at, refused_at}
use Rattle.yaml_read.specs.Emitted.{Emits, Found, Gets, Reads}
use Rattle.yaml_read.specs.Nodes.{option_node, enum_node, pair_node, triple_node, mapped_node, value_of, checked_node, refused_node}
use Rattle.yaml_read.specs.TakingLaws.{pull_is, front_is, pulls, fronts, gets_then}
use Rattle.yaml_read.specs.Laws.{some_is, found_is, one_event, value_gets}
use Rattle.yaml_read.specs.JoinLaws.{emitted_join, emitted_cut}
use Rattle.yaml_read.specs.CollectionLaws.{emitted_once, bracket_is, bracket_gets, item_found, item_gets, entry_found, entry_gets, then_some, some_apart, true_false, list_start, list_end, map_start, map_end}

below : (m s : Source) → m.left < s.left → m.left ≤ s.left
below m s less = omega arith

err_apart : {A : Type 0} (s : Source) (refusal : Refusal) (x : A) → refused s refusal ≡ Ok x → ⊥
err_apart s refusal x h = cc

enum_found : {X : Type 0} (takes : X → List ℕ → Option Tree → Option X) (fills : X → List ℕ → Source → Result (X × Source) Refused) → ((x : X) (key : List ℕ) → Reads (takes x key) (fills x key))
    → (x : X) (s : Source) (y : X) (m : Source) → enum_at fills x s ≡ Ok (y, m) → Found (enum_node takes x) s y m
unfolding enum_at
enum_found {X} takes fills law x s y m h =
    let a = bind_ok (bracket_at brackets.MapStart s) _ _ h in
    let b = bind_ok (entry_at fills x a.0.1) _ _ a.2 in
    let c = bind_ok (bracket_at brackets.MapEnd b.0.1) _ _ b.2 in
    let start = bracket_is brackets.MapStart s a.0.0 a.0.1 a.1 in
    let f = entry_found takes fills law x a.0.1 b.0.0 b.0.1 b.1 in
    let end = bracket_is brackets.MapEnd b.0.1 c.0.0 c.0.1 c.1 in
    let same = ok_is {F = Refused} (b.0.0, c.0.1) (y, m) c.2 in
    let run = f.1.1.0 in
    let last : next b.0.1.state ≡ Ok (events.MappingEnd, m.state) = end.1 ∙ ap (λ (v : Event). Ok (v, c.0.1.state)) (map_end end.0 end.2) ∙ ap (λ (v : X × Source). Ok (events.MappingEnd, v.1.state)) same in
    record {
      node = Some (Map (pair f.0 f.1.0 no_pairs));
      emitted = (
        a.0.1.state,
        start.1 ∙ ap (λ (v : Event). Ok (v, a.0.1.state)) (map_start start.0 start.2),
        (run.0, run.1, emitted_join run.0 f.1.0 b.0.1.state (events.MappingEnd ∷ []) m.state run.2 (m.state, last, refl)),
      );
      read = f.1.1.1 ∙ ap (λ (v : X × Source). Some v.0) same;
    }

enum_gets : {X : Type 0} (takes : X → List ℕ → Option Tree → Option X) (fills : X → List ℕ → Source → Result (X × Source) Refused) → ((x : X) (key : List ℕ) → Reads (takes x key) (fills x key))
    → (x : X) (s : Source) (node : Option Tree) (z : State) (y : X) → Emits s.state node z → enum_node takes x node ≡ Some y → Gets s.left y z (enum_at fills x s)
unfolding enum_at
enum_gets takes fills law x s None z y run is = absurd (some_apart y is)
enum_gets takes fills law x s (Some (Leaf sc)) z y run is = absurd (some_apart y is)
enum_gets takes fills law x s (Some (Seq ts)) z y run is = absurd (some_apart y is)
enum_gets takes fills law x s (Some (Map no_pairs)) z y run is = absurd (some_apart y is)
enum_gets takes fills law x s (Some (Map (pair key t (pair other u ps)))) z y run is = absurd (some_apart y is)
enum_gets takes fills law x s (Some (Map (pair key t no_pairs))) z y run is =
    let inner = run.2 in
    let c = emitted_cut inner.0 t (events.MappingEnd ∷ []) z inner.2 in
    gets_then s.left s.left tt run.0 y z (bracket_at brackets.MapStart s) _ (bracket_gets brackets.MapStart s events.MappingStart run.0 run.1 refl)
    (λ m there less.
    gets_then m.left s.left y c.0 y z (entry_at fills x m) _
    (entry_gets takes fills law x m key t c.0 y (subst (λ (q : State). Runs q (scalar_event key ∷ emitted t []) c.0) (sym there) (inner.0, inner.1, c.1)) is)
    (λ k at fewer.
    gets_then k.left s.left tt z y z (bracket_at brackets.MapEnd k) _
    (bracket_gets brackets.MapEnd k events.MappingEnd z (subst (λ (q : State). next q ≡ Ok (events.MappingEnd, z)) (sym at) (one_event c.0 events.MappingEnd z c.2)) refl)
    (λ j last least. (refl, last, lower j k m less fewer least))))
  where
    lower : (j k m : Source) → m.left < s.left → k.left < m.left → j.left < k.left → j.left < s.left
    lower j k m less fewer least = omega arith

-- the read of a variant takes what the node of its value is
pub enum_reads : {X : Type 0} (takes : X → List ℕ → Option Tree → Option X) (fills : X → List ℕ → Source → Result (X × Source) Refused) → ((x : X) (key : List ℕ) → Reads (takes x key) (fills x key))
    → (x : X) → Reads (enum_node takes x) (enum_at fills x)
enum_reads takes fills law x = record { sound = enum_found takes fills law x; complete = enum_gets takes fills law x }

-- what may be missing
abbrev nothing_at : {X : Type 0} → Source → Result (Option X × Source) Refused
nothing_at w = Ok (None, w)

is_nothing_event : {P : Type 0} (e : Event) → is_nothing e ≡ true → ((text : List ℕ) (style : Style) → e ≡ events.Scalar text style → is_null text ≡ true → P) → P
is_nothing_event (events.Scalar text style) h go = go text style refl h
is_nothing_event e h go = absurd (true_false (sym h))

option_found : {X : Type 0} (of_node : Option Tree → Option X) (read : Source → Result (X × Source) Refused) → Reads of_node read
    → (s : Source) (y : Option X) (m : Source) → option_at read s ≡ Ok (y, m) → Found (option_node of_node) s y m
unfolding option_at
option_found {X} of_node read law s y m h =
    let a = bind_ok (front s) _ _ h in
    let at = front_is s a.0 a.1 in
    by_test a.0 at.0 at.1 (is_nothing a.0) refl a.2
  where
    missing : (e : Event) (w : Source) (t : Event × Source) → pull s ≡ Ok (e, w) → pull s ≡ Ok t → nothing_at t.1 ≡ Ok (y, m) → is_nothing e ≡ true → Found (option_node of_node) s y m
    missing e w t p q same null =
        let one = ok_is {F = Refused} (e, w) t (sym p ∙ q) in
        let both = ok_is {F = Refused} (None, t.1) (y, m) same in
        let here : next s.state ≡ Ok (e, m.state) = pull_is s e w p ∙ ap (λ (v : Source). Ok (e, v.state)) (ap (λ (v : Event × Source). v.1) one ∙ ap (λ (v : Option X × Source). v.1) both) in
        is_nothing_event e null (λ text style is yes_null. record {
          node = Some (Leaf (record { text = text; style = style }));
          emitted = (m.state, here ∙ ap (λ (v : Event). Ok (v, m.state)) is, refl);
          read = ap (λ (b : Bool). cond b (Some None) (option_map Some (of_node (Some (Leaf (record { text = text; style = style })))))) yes_null ∙ ap (λ (v : Option X × Source). Some v.0) both;
        })

    there : (e : Event) (w : Source) (x : X) → next s.state ≡ Ok (e, w.state) → is_nothing e ≡ false → (node : Option Tree) → Emits s.state node m.state → of_node node ≡ Some x → option_node of_node node ≡ Some (Some x)
    there e w x here some None telling is = ap (option_map Some) is
    there e w x here some (Some (Seq ts)) telling is = ap (option_map Some) is
    there e w x here some (Some (Map ps)) telling is = ap (option_map Some) is
    there e w x here some (Some (Leaf sc)) telling is =
        emitted_once s.state e (scalar_event sc) w.state telling.0 here telling.1 (λ same _.
        let no_null : is_null sc.text ≡ false = ap is_nothing (sym same) ∙ some in
        ap (λ (b : Bool). cond b (Some None) (option_map Some (of_node (Some (Leaf sc))))) no_null ∙ ap (option_map Some) is)

    by_test : (e : Event) (w : Source) → pull s ≡ Ok (e, w) → (b : Bool) → is_nothing e ≡ b → opted b read s ≡ Ok (y, m) → Found (option_node of_node) s y m
    by_test e w p true null h = let t = bind_ok (pull s) _ _ h in missing e w t.0 p t.1 t.2 null
    by_test e w p false null h =
        let t = bind_ok (read s) _ _ h in
        let both = ok_is {F = Refused} (Some t.0.0, t.0.1) (y, m) t.2 in
        let f = law.sound s t.0.0 m (t.1 ∙ ap (λ (v : Option X × Source). Ok (t.0.0, v.1)) both) in
        record { node = f.node; emitted = f.emitted; read = there e w t.0.0 (pull_is s e w p) null f.node f.emitted f.read ∙ ap (λ (v : Option X × Source). Some v.0) both }

mapped : {X P : Type 0} (o : Option X) (y : Option X) → option_map Some o ≡ Some y → ((x : X) → o ≡ Some x → Some x ≡ y → P) → P
mapped None y h go = absurd (some_apart y h)
mapped (Some x) y h go = go x refl (some_is (Some x) y h)

map_some : {A B P : Type 0} (o : Option A) (f : A → B) (y : B) → option_map f o ≡ Some y → ((x : A) → o ≡ Some x → f x ≡ y → P) → P
map_some None f y h go = absurd (some_apart y h)
map_some (Some x) f y h go = go x refl (some_is (f x) y h)

option_gets : {X : Type 0} (of_node : Option Tree → Option X) (read : Source → Result (X × Source) Refused) → Reads of_node read
    → (s : Source) (node : Option Tree) (z : State) (y : Option X) → Emits s.state node z → option_node of_node node ≡ Some y → Gets s.left y z (option_at read s)
unfolding option_at
option_gets {X} of_node read law s node z y run is = by_node node run is
  where
    inner : (node : Option Tree) (e : Event) (w : State) → next s.state ≡ Ok (e, w) → is_nothing e ≡ false → Emits s.state node z → option_map Some (of_node node) ≡ Some y → Gets s.left y z (front s >>= λ event. opted (is_nothing event) read s)
    inner node e w here some run is =
        mapped (of_node node) y is (λ x value same.
        fronts s.left s e w y z _ here (rw some (gets_then s.left s.left x z y z (read s) _ (law.complete s node z x run value) (λ m at less. (same, at, less)))))

    by_null : (sc : Scalar) → Runs s.state (scalar_event sc ∷ []) z → (b : Bool) → is_null sc.text ≡ b → cond b (Some None) (option_map Some (of_node (Some (Leaf sc)))) ≡ Some y → Gets s.left y z (front s >>= λ event. opted (is_nothing event) read s)
    by_null sc run true null is =
        fronts s.left s (scalar_event sc) z y z _ (one_event s.state (scalar_event sc) z run)
        (rw null (pulls s.left s (scalar_event sc) z y z _ (one_event s.state (scalar_event sc) z run) (λ m at less. (some_is None y is, at, less))))
    by_null sc run false null is = inner (Some (Leaf sc)) (scalar_event sc) run.0 run.1 null run is

    by_node : (node : Option Tree) → Emits s.state node z → option_node of_node node ≡ Some y → Gets s.left y z (front s >>= λ event. opted (is_nothing event) read s)
    by_node None run is = inner None events.StreamEnd z run refl run is
    by_node (Some (Leaf sc)) run is = by_null sc run (is_null sc.text) refl is
    by_node (Some (Seq ts)) run is = inner (Some (Seq ts)) events.SequenceStart run.0 run.1 refl run is
    by_node (Some (Map ps)) run is = inner (Some (Map ps)) events.MappingStart run.0 run.1 refl run is

pub option_reads : {X : Type 0} (of_node : Option Tree → Option X) (read : Source → Result (X × Source) Refused) → Reads of_node read → Reads (option_node of_node) (option_at read)
option_reads of_node read law = record { sound = option_found of_node read law; complete = option_gets of_node read law }

-- lists of two and of three
pair_found : {X Y : Type 0} (first : Option Tree → Option X) (second : Option Tree → Option Y) (read : Source → Result (X × Source) Refused) (other : Source → Result (Y × Source) Refused)
    → Reads first read → Reads second other → (s : Source) (y : X × Y) (m : Source) → pair_at read other s ≡ Ok (y, m) → Found (pair_node first second) s y m
unfolding pair_at
pair_found {X} {Y} first second read other law rule s y m h =
    let a = bind_ok (bracket_at brackets.ListStart s) _ _ h in
    let b = bind_ok (item_at read a.0.1) _ _ a.2 in
    let c = bind_ok (item_at other b.0.1) _ _ b.2 in
    let d = bind_ok (bracket_at brackets.ListEnd c.0.1) _ _ c.2 in
    let start = bracket_is brackets.ListStart s a.0.0 a.0.1 a.1 in
    let f = item_found first read law a.0.1 b.0.0 b.0.1 b.1 in
    let g = item_found second other rule b.0.1 c.0.0 c.0.1 c.1 in
    let end = bracket_is brackets.ListEnd c.0.1 d.0.0 d.0.1 d.1 in
    joined a.0.1.state b.0.1.state c.0.1.state d.0.1 b.0.0 c.0.0 (start.1 ∙ ap (λ (v : Event). Ok (v, a.0.1.state)) (list_start start.0 start.2)) f.0 f.1 f.2 g.0 g.1 g.2
    (end.1 ∙ ap (λ (v : Event). Ok (v, d.0.1.state)) (list_end end.0 end.2)) (ok_is {F = Refused} ((b.0.0, c.0.0), d.0.1) (y, m) d.2)
  where
    joined : (i j k : State) (w : Source) (u : X) (v : Y) → next s.state ≡ Ok (events.SequenceStart, i) → (t : Tree) → Runs i (emitted t []) j → first (Some t) ≡ Some u → (o : Tree) → Runs j (emitted o []) k → second (Some o) ≡ Some v
        → next k ≡ Ok (events.SequenceEnd, w.state) → ◌≡◌ {A = (X × Y) × Source} ((u, v), w) (y, m) → Found (pair_node first second) s y m
    joined i j k w u v start t run is o last true_is end same = record {
      node = Some (Seq (more t (more o none)));
      emitted = (
        i,
        start,
        emitted_join i t j (emitted o (events.SequenceEnd ∷ [])) m.state run
            (emitted_join j o k (events.SequenceEnd ∷ []) m.state last (m.state, end ∙ ap (λ (q : (X × Y) × Source). Ok (events.SequenceEnd, q.1.state)) same, refl)),
      );
      read = rw (is, true_is) (ap (λ (q : (X × Y) × Source). Some q.0) same);
    }

pair_gets : {X Y : Type 0} (first : Option Tree → Option X) (second : Option Tree → Option Y) (read : Source → Result (X × Source) Refused) (other : Source → Result (Y × Source) Refused)
    → Reads first read → Reads second other → (s : Source) (node : Option Tree) (z : State) (y : X × Y) → Emits s.state node z → pair_node first second node ≡ Some y → Gets s.left y z (pair_at read other s)
unfolding pair_at
pair_gets first second read other law rule s None z y run is = absurd (some_apart y is)
pair_gets first second read other law rule s (Some (Leaf sc)) z y run is = absurd (some_apart y is)
pair_gets first second read other law rule s (Some (Map ps)) z y run is = absurd (some_apart y is)
pair_gets first second read other law rule s (Some (Seq none)) z y run is = absurd (some_apart y is)
pair_gets first second read other law rule s (Some (Seq (more t none))) z y run is = absurd (some_apart y is)
pair_gets first second read other law rule s (Some (Seq (more t (more u (more v ts))))) z y run is = absurd (some_apart y is)
pair_gets {X} {Y} first second read other law rule s (Some (Seq (more t (more u none)))) z y run is =
    let a = emitted_cut run.0 t (emitted u (events.SequenceEnd ∷ [])) z run.2 in
    let b = emitted_cut a.0 u (events.SequenceEnd ∷ []) z a.2 in
    then_some (first (Some t)) (λ x. option_map (λ y. (x, y)) (second (Some u))) y is (λ x one rest.
    map_some (second (Some u)) (λ v. (x, v)) y rest (λ v two same.
    gets_then s.left s.left tt run.0 y z (bracket_at brackets.ListStart s) _ (bracket_gets brackets.ListStart s events.SequenceStart run.0 run.1 refl)
    (λ m there less. gets_then m.left s.left x a.0 y z (item_at read m) _
    (item_gets first read law m t a.0 x (subst (λ (q : State). Runs q (emitted t []) a.0) (sym there) a.1) one)
    (λ k at fewer. gets_then k.left s.left v b.0 y z (item_at other k) _
    (item_gets second other rule k u b.0 v (subst (λ (q : State). Runs q (emitted u []) b.0) (sym at) b.1) two)
    (λ j on lesser. gets_then j.left s.left tt z y z (bracket_at brackets.ListEnd j) _
    (bracket_gets brackets.ListEnd j events.SequenceEnd z (subst (λ (q : State). next q ≡ Ok (events.SequenceEnd, z)) (sym on) (one_event b.0 events.SequenceEnd z b.2)) refl)
    (λ i last least. (same, last, lowest i j k m less fewer lesser least)))))))
  where
    lowest : (i j k m : Source) → m.left < s.left → k.left < m.left → j.left < k.left → i.left < j.left → i.left < s.left
    lowest i j k m less fewer lesser least = omega arith

pub pair_reads : {X Y : Type 0} (first : Option Tree → Option X) (second : Option Tree → Option Y) (read : Source → Result (X × Source) Refused) (other : Source → Result (Y × Source) Refused)
    → Reads first read → Reads second other → Reads (pair_node first second) (pair_at read other)
pair_reads first second read other law rule = record { sound = pair_found first second read other law rule; complete = pair_gets first second read other law rule }

triple_found : {X Y Z : Type 0} (first : Option Tree → Option X) (second : Option Tree → Option Y) (third : Option Tree → Option Z) (read : Source → Result (X × Source) Refused)
    (other : Source → Result (Y × Source) Refused) (final : Source → Result (Z × Source) Refused)
    → Reads first read → Reads second other → Reads third final → (s : Source) (y : X × Y × Z) (m : Source) → triple_at read other final s ≡ Ok (y, m) → Found (triple_node first second third) s y m
unfolding triple_at
triple_found {X} {Y} {Z} first second third read other final law rule norm s y m h =
    let a = bind_ok (bracket_at brackets.ListStart s) _ _ h in
    let b = bind_ok (item_at read a.0.1) _ _ a.2 in
    let c = bind_ok (item_at other b.0.1) _ _ b.2 in
    let d = bind_ok (item_at final c.0.1) _ _ c.2 in
    let e = bind_ok (bracket_at brackets.ListEnd d.0.1) _ _ d.2 in
    let start = bracket_is brackets.ListStart s a.0.0 a.0.1 a.1 in
    let f = item_found first read law a.0.1 b.0.0 b.0.1 b.1 in
    let g = item_found second other rule b.0.1 c.0.0 c.0.1 c.1 in
    let i = item_found third final norm c.0.1 d.0.0 d.0.1 d.1 in
    let end = bracket_is brackets.ListEnd d.0.1 e.0.0 e.0.1 e.1 in
    joined a.0.1.state b.0.1.state c.0.1.state d.0.1.state e.0.1 b.0.0 c.0.0 d.0.0 (start.1 ∙ ap (λ (v : Event). Ok (v, a.0.1.state)) (list_start start.0 start.2)) f.0 f.1 f.2 g.0 g.1 g.2 i.0 i.1 i.2
    (end.1 ∙ ap (λ (v : Event). Ok (v, e.0.1.state)) (list_end end.0 end.2)) (ok_is {F = Refused} ((b.0.0, c.0.0, d.0.0), e.0.1) (y, m) e.2)
  where
    joined : (i j k l : State) (w : Source) (u : X) (v : Y) (x : Z) → next s.state ≡ Ok (events.SequenceStart, i) → (t : Tree) → Runs i (emitted t []) j → first (Some t) ≡ Some u → (o : Tree) → Runs j (emitted o []) k → second (Some o) ≡ Some v
        → (p : Tree) → Runs k (emitted p []) l → third (Some p) ≡ Some x → next l ≡ Ok (events.SequenceEnd, w.state) → ◌≡◌ {A = (X × Y × Z) × Source} ((u, v, x), w) (y, m) → Found (triple_node first second third) s y m
    joined i j k l w u v x start t run is o last true_is p more_run more_is end same = record {
      node = Some (Seq (more t (more o (more p none))));
      emitted = (
        i,
        start,
        emitted_join i t j (emitted o (emitted p (events.SequenceEnd ∷ []))) m.state run
            (emitted_join j o k (emitted p (events.SequenceEnd ∷ [])) m.state last
            (emitted_join k p l (events.SequenceEnd ∷ []) m.state more_run (m.state, end ∙ ap (λ (q : (X × Y × Z) × Source). Ok (events.SequenceEnd, q.1.state)) same, refl))),
      );
      read = rw (is, true_is, more_is) (ap (λ (q : (X × Y × Z) × Source). Some q.0) same);
    }

triple_gets : {X Y Z : Type 0} (first : Option Tree → Option X) (second : Option Tree → Option Y) (third : Option Tree → Option Z) (read : Source → Result (X × Source) Refused)
    (other : Source → Result (Y × Source) Refused) (final : Source → Result (Z × Source) Refused)
    → Reads first read → Reads second other → Reads third final → (s : Source) (node : Option Tree) (z : State) (y : X × Y × Z) → Emits s.state node z → triple_node first second third node ≡ Some y → Gets s.left y z (triple_at read other final s)
unfolding triple_at
triple_gets first second third read other final law rule norm s None z y run is = absurd (some_apart y is)
triple_gets first second third read other final law rule norm s (Some (Leaf sc)) z y run is = absurd (some_apart y is)
triple_gets first second third read other final law rule norm s (Some (Map ps)) z y run is = absurd (some_apart y is)
triple_gets first second third read other final law rule norm s (Some (Seq none)) z y run is = absurd (some_apart y is)
triple_gets first second third read other final law rule norm s (Some (Seq (more t none))) z y run is = absurd (some_apart y is)
triple_gets first second third read other final law rule norm s (Some (Seq (more t (more u none)))) z y run is = absurd (some_apart y is)
triple_gets first second third read other final law rule norm s (Some (Seq (more t (more u (more v (more w ts)))))) z y run is = absurd (some_apart y is)
triple_gets {X} {Y} {Z} first second third read other final law rule norm s (Some (Seq (more t (more u (more w none))))) z y run is =
    let a = emitted_cut run.0 t (emitted u (emitted w (events.SequenceEnd ∷ []))) z run.2 in
    let b = emitted_cut a.0 u (emitted w (events.SequenceEnd ∷ [])) z a.2 in
    let c = emitted_cut b.0 w (events.SequenceEnd ∷ []) z b.2 in
    then_some (first (Some t)) (λ x. option_and_then (λ y. option_map (λ z. (x, y, z)) (third (Some w))) (second (Some u))) y is (λ x one rest.
    then_some (second (Some u)) (λ v. option_map (λ z. (x, v, z)) (third (Some w))) y rest (λ v two last_rest.
    map_some (third (Some w)) (λ p. (x, v, p)) y last_rest (λ p three same.
    gets_then s.left s.left tt run.0 y z (bracket_at brackets.ListStart s) _ (bracket_gets brackets.ListStart s events.SequenceStart run.0 run.1 refl)
    (λ m there less. gets_then m.left s.left x a.0 y z (item_at read m) _
    (item_gets first read law m t a.0 x (subst (λ (q : State). Runs q (emitted t []) a.0) (sym there) a.1) one)
    (λ k at fewer. gets_then k.left s.left v b.0 y z (item_at other k) _
    (item_gets second other rule k u b.0 v (subst (λ (q : State). Runs q (emitted u []) b.0) (sym at) b.1) two)
    (λ j on lesser. gets_then j.left s.left p c.0 y z (item_at final j) _
    (item_gets third final norm j w c.0 p (subst (λ (q : State). Runs q (emitted w []) c.0) (sym on) c.1) three)
    (λ l beside minor. gets_then l.left s.left tt z y z (bracket_at brackets.ListEnd l) _
    (bracket_gets brackets.ListEnd l events.SequenceEnd z (subst (λ (q : State). next q ≡ Ok (events.SequenceEnd, z)) (sym beside) (one_event c.0 events.SequenceEnd z c.2)) refl)
    (λ i last least. (same, last, lowest i j k l m less fewer lesser minor least)))))))))
  where
    lowest : (i j k l m : Source) → m.left < s.left → k.left < m.left → j.left < k.left → l.left < j.left → i.left < l.left → i.left < s.left
    lowest i j k l m less fewer lesser minor least = omega arith

pub triple_reads : {X Y Z : Type 0} (first : Option Tree → Option X) (second : Option Tree → Option Y) (third : Option Tree → Option Z) (read : Source → Result (X × Source) Refused)
    (other : Source → Result (Y × Source) Refused) (final : Source → Result (Z × Source) Refused)
    → Reads first read → Reads second other → Reads third final → Reads (triple_node first second third) (triple_at read other final)
triple_reads first second third read other final law rule norm =
    record { sound = triple_found first second third read other final law rule norm; complete = triple_gets first second third read other final law rule norm }

-- what was read, seen in another way
mapped_found : {X Y : Type 0} (f : X → Y) (of_node : Option Tree → Option X) (read : Source → Result (X × Source) Refused) → Reads of_node read
    → (s : Source) (y : Y) (m : Source) → mapped_at f read s ≡ Ok (y, m) → Found (mapped_node f of_node) s y m
mapped_found {X} {Y} f of_node read law s y m h =
    let a = bind_ok (read s) _ _ h in
    let same = ok_is {F = Refused} (f a.0.0, a.0.1) (y, m) a.2 in
    let g = law.sound s a.0.0 m (a.1 ∙ ap (λ (v : Y × Source). Ok (a.0.0, v.1)) same) in
    record { node = g.node; emitted = g.emitted; read = ap (option_map f) g.read ∙ ap (λ (v : Y × Source). Some v.0) same }

mapped_gets : {X Y : Type 0} (f : X → Y) (of_node : Option Tree → Option X) (read : Source → Result (X × Source) Refused) → Reads of_node read
    → (s : Source) (node : Option Tree) (z : State) (y : Y) → Emits s.state node z → mapped_node f of_node node ≡ Some y → Gets s.left y z (mapped_at f read s)
mapped_gets f of_node read law s node z y run is =
    map_some (of_node node) f y is (λ x value same. gets_then s.left s.left x z y z (read s) _ (law.complete s node z x run value) (λ m at less. (same, at, less)))

-- a read whose value is put to something takes what it took
pub mapped_reads : {X Y : Type 0} (f : X → Y) (of_node : Option Tree → Option X) (read : Source → Result (X × Source) Refused) → Reads of_node read → Reads (mapped_node f of_node) (mapped_at f read)
mapped_reads f of_node read law = record { sound = mapped_found f of_node read law; complete = mapped_gets f of_node read law }

-- what was read, put to a test
checked_found : {X Y : Type 0} (f : X → Result Y Refusal) (of_node : Option Tree → Option X) (read : Source → Result (X × Source) Refused) → Reads of_node read
    → (s : Source) (y : Y) (m : Source) → checked_at f read s ≡ Ok (y, m) → Found (checked_node f of_node) s y m
checked_found {X} {Y} f of_node read law s y m h =
    let a = bind_ok (read s) _ _ h in
    let b = bind_ok (found_at a.0.1 (f a.0.0)) _ _ a.2 in
    let same = ok_is {F = Refused} (b.0, a.0.1) (y, m) b.2 in
    let g = law.sound s a.0.0 m (a.1 ∙ ap (λ (v : Y × Source). Ok (a.0.0, v.1)) same) in
    record {
      node = g.node;
      emitted = g.emitted;
      read = ap (option_and_then (λ x. value_of (f x))) g.read ∙ ap value_of (found_is a.0.1 (f a.0.0) b.0 b.1) ∙ ap (λ (v : Y × Source). Some v.0) same;
    }

checked_gets : {X Y : Type 0} (f : X → Result Y Refusal) (of_node : Option Tree → Option X) (read : Source → Result (X × Source) Refused) → Reads of_node read
    → (s : Source) (node : Option Tree) (z : State) (y : Y) → Emits s.state node z → checked_node f of_node node ≡ Some y → Gets s.left y z (checked_at f read s)
checked_gets f of_node read law s node z y run is =
    then_some (of_node node) (λ x. value_of (f x)) y is (λ x value same.
    gets_then s.left s.left x z y z (read s) _ (law.complete s node z x run value) (λ m at less. value_gets (f x) same (λ e. rw e (refl, at, less))))

-- a read whose value is put to a test takes what passes it
pub checked_reads : {X Y : Type 0} (f : X → Result Y Refusal) (of_node : Option Tree → Option X) (read : Source → Result (X × Source) Refused) → Reads of_node read → Reads (checked_node f of_node) (checked_at f read)
checked_reads f of_node read law = record { sound = checked_found f of_node read law; complete = checked_gets f of_node read law }

-- one read or another
pub choice_reads : {X : Type 0} (b : Bool) (first second : Option Tree → Option X) (read other : Source → Result (X × Source) Refused) → Reads first read → Reads second other → Reads (cond b first second) (cond b read other)
choice_reads true first second read other law rule = law
choice_reads false first second read other law rule = rule

-- a read that always refuses takes no node
pub refused_reads : {X : Type 0} (refusal : Refusal) → Reads {X = X} refused_node (refused_at refusal)
refused_reads refusal = record { sound = λ s x m h. absurd (err_apart s refusal (x, m) h); complete = λ s node z x run is. absurd (some_apart x is) }
