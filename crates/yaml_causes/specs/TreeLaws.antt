-- The node that is emitted from a state is one node, so a read that was not refused read that node.
use Rattle.std.proofs.Common.{◌≡◌, ℕ, ◌<◌, List, [], ◌∷◌, Option, Some, None, Result, Ok, refl, sym, ap, ◌∙◌, subst}
use Rattle.yaml_small.specs.declared.event.Event.{Event}
use Rattle.yaml_small.specs.declared.event.Event.TheVariants as events
use Rattle.yaml_small.specs.Trees.{Scalar, tilde, Tree, Leaf, Seq, Map, Trees, none, more, Pairs, no_pairs, pair, scalar_event, emitted, each_emitted, pairs_emitted}
use Rattle.yaml_small.specs.Stream.{State, next, Runs}
use Rattle.yaml_read.specs.declared.bracket.Bracket.TheVariants as brackets
use Rattle.yaml_read.specs.Source.{Source, Refused}
use Rattle.yaml_read.specs.Collections.{is_bracket, is_stream_end}
use Rattle.yaml_read.specs.Emitted.{Emits, Gets, Reads}
use Rattle.yaml_read.specs.JoinLaws.{begins_of}
use Rattle.yaml_read.specs.CollectionLaws.{emitted_once, false_true}
use Rattle.yaml_causes.specs.Causes.{first_event}

scalar_of : Event → Scalar
scalar_of (events.Scalar text style) = record { text = text; style = style }
scalar_of e = tilde

same_scalar : (a b : Scalar) → scalar_event a ≡ scalar_event b → a ≡ b
unfolding scalar_of
same_scalar a b same = ap scalar_of same

-- Two runs that begin with a tree begin with the same, and go on from one state.
record Once {X : Type 0} (a b : X) (es fs : List Event) (z w : State) : Type 0 where
  same : a ≡ b
  state : State
  left : Runs state es z
  right : Runs state fs w

no_end : (s : State) (t : Tree) (es : List Event) (w m : State) → next s ≡ Ok (events.SequenceEnd, m) → Runs s (emitted t es) w → ⊥
no_end s t es w m here run =
    let b = begins_of s t es w run in
    emitted_once s events.SequenceEnd b.event m b.behind here b.here (λ is at. false_true (sym b.list ∙ sym (ap (is_bracket brackets.ListEnd) is)))

leaf_once : (a b : Scalar) (es fs : List Event) (s z w : State) → Runs s (scalar_event a ∷ es) z → Runs s (scalar_event b ∷ fs) w → Once (Leaf a) (Leaf b) es fs z w
leaf_once a b es fs s z w x y =
    emitted_once s (scalar_event a) (scalar_event b) x.0 y.0 x.1 y.1 (λ is at. record {
      same = ap Leaf (same_scalar a b is);
      state = x.0;
      left = x.2;
      right = subst (λ (m : State). Runs m fs w) (sym at) y.2;
    })

differ : {P : Type 0} (s : State) (e d : Event) (m k : State) → next s ≡ Ok (e, m) → next s ≡ Ok (d, k) → (e ≡ d → ⊥) → P
differ s e d m k here there other = emitted_once s e d m k here there (λ is at. absurd (other is))

mutual
  tree_once : (t u : Tree) (es fs : List Event) (s z w : State) → Runs s (emitted t es) z → Runs s (emitted u fs) w → Once t u es fs z w
  tree_once (Leaf a) (Leaf b) es fs s z w x y = leaf_once a b es fs s z w x y
  tree_once (Leaf a) (Seq us) es fs s z w x y = differ s (scalar_event a) events.SequenceStart x.0 y.0 x.1 y.1 (λ is. cc)
  tree_once (Leaf a) (Map qs) es fs s z w x y = differ s (scalar_event a) events.MappingStart x.0 y.0 x.1 y.1 (λ is. cc)
  tree_once (Seq ts) (Leaf b) es fs s z w x y = differ s events.SequenceStart (scalar_event b) x.0 y.0 x.1 y.1 (λ is. cc)
  tree_once (Seq ts) (Seq us) es fs s z w x y =
      emitted_once s events.SequenceStart events.SequenceStart x.0 y.0 x.1 y.1 (λ is at.
      let o = each_once ts us es fs x.0 z w x.2 (subst (λ (m : State). Runs m (each_emitted us (events.SequenceEnd ∷ fs)) w) (sym at) y.2) in
      emitted_once o.state events.SequenceEnd events.SequenceEnd o.left.0 o.right.0 o.left.1 o.right.1 (λ is also.
      record { same = ap Seq o.same; state = o.left.0; left = o.left.2; right = subst (λ (m : State). Runs m fs w) (sym also) o.right.2 }))
  tree_once (Seq ts) (Map qs) es fs s z w x y = differ s events.SequenceStart events.MappingStart x.0 y.0 x.1 y.1 (λ is. cc)
  tree_once (Map ps) (Leaf b) es fs s z w x y = differ s events.MappingStart (scalar_event b) x.0 y.0 x.1 y.1 (λ is. cc)
  tree_once (Map ps) (Seq us) es fs s z w x y = differ s events.MappingStart events.SequenceStart x.0 y.0 x.1 y.1 (λ is. cc)
  tree_once (Map ps) (Map qs) es fs s z w x y =
      emitted_once s events.MappingStart events.MappingStart x.0 y.0 x.1 y.1 (λ is at.
      let o = pairs_once ps qs es fs x.0 z w x.2 (subst (λ (m : State). Runs m (pairs_emitted qs (events.MappingEnd ∷ fs)) w) (sym at) y.2) in
      emitted_once o.state events.MappingEnd events.MappingEnd o.left.0 o.right.0 o.left.1 o.right.1 (λ is also.
      record { same = ap Map o.same; state = o.left.0; left = o.left.2; right = subst (λ (m : State). Runs m fs w) (sym also) o.right.2 }))

  each_once : (ts us : Trees) (es fs : List Event) (s z w : State) → Runs s (each_emitted ts (events.SequenceEnd ∷ es)) z → Runs s (each_emitted us (events.SequenceEnd ∷ fs)) w
      → Once ts us (events.SequenceEnd ∷ es) (events.SequenceEnd ∷ fs) z w
  each_once none none es fs s z w x y = record { same = refl; state = s; left = x; right = y }
  each_once none (more u us) es fs s z w x y = absurd (no_end s u (each_emitted us (events.SequenceEnd ∷ fs)) w x.0 x.1 y)
  each_once (more t ts) none es fs s z w x y = absurd (no_end s t (each_emitted ts (events.SequenceEnd ∷ es)) z y.0 y.1 x)
  each_once (more t ts) (more u us) es fs s z w x y =
      let o = tree_once t u (each_emitted ts (events.SequenceEnd ∷ es)) (each_emitted us (events.SequenceEnd ∷ fs)) s z w x y in
      let p = each_once ts us es fs o.state z w o.left o.right in
      record { same = ap (λ (v : Tree). more v ts) o.same ∙ ap (more u) p.same; state = p.state; left = p.left; right = p.right }

  pairs_once : (ps qs : Pairs) (es fs : List Event) (s z w : State) → Runs s (pairs_emitted ps (events.MappingEnd ∷ es)) z → Runs s (pairs_emitted qs (events.MappingEnd ∷ fs)) w
      → Once ps qs (events.MappingEnd ∷ es) (events.MappingEnd ∷ fs) z w
  pairs_once no_pairs no_pairs es fs s z w x y = record { same = refl; state = s; left = x; right = y }
  pairs_once no_pairs (pair key u qs) es fs s z w x y = differ s events.MappingEnd (scalar_event key) x.0 y.0 x.1 y.1 (λ is. cc)
  pairs_once (pair key t ps) no_pairs es fs s z w x y = differ s (scalar_event key) events.MappingEnd x.0 y.0 x.1 y.1 (λ is. cc)
  pairs_once (pair key t ps) (pair name u qs) es fs s z w x y =
      emitted_once s (scalar_event key) (scalar_event name) x.0 y.0 x.1 y.1 (λ is at.
      let o = tree_once t u (pairs_emitted ps (events.MappingEnd ∷ es)) (pairs_emitted qs (events.MappingEnd ∷ fs)) x.0 z w x.2
      (subst (λ (m : State). Runs m (emitted u (pairs_emitted qs (events.MappingEnd ∷ fs))) w) (sym at) y.2) in
      let p = pairs_once ps qs es fs o.state z w o.left o.right in
      record {
        same = ap (λ (k : Scalar). pair k t ps) (same_scalar key name is) ∙ ap (λ (v : Tree). pair name v ps) o.same ∙ ap (pair name u) p.same;
        state = p.state;
        left = p.left;
        right = p.right;
      })

-- a node begins with its first event
pub emits_first : (s : State) (node : Option Tree) (z : State) → Emits s node z → (m : State) × (next s ≡ Ok (first_event node, m))
emits_first s None z run = (z, run)
emits_first s (Some (Leaf a)) z run = (run.0, run.1)
emits_first s (Some (Seq ts)) z run = (run.0, run.1)
emits_first s (Some (Map ps)) z run = (run.0, run.1)

no_stream_end : (s : State) (t : Tree) (w m : State) → next s ≡ Ok (events.StreamEnd, m) → Runs s (emitted t []) w → ⊥
no_stream_end s t w m here run =
    let b = begins_of s t [] w run in
    emitted_once s events.StreamEnd b.event m b.behind here b.here (λ is at. false_true (sym b.continues ∙ sym (ap is_stream_end is)))

pub node_once : (s : State) (node other : Option Tree) (z w : State) → Emits s node z → Emits s other w → (node ≡ other) × (z ≡ w)
node_once s None None z w x y = emitted_once s events.StreamEnd events.StreamEnd z w x y (λ is at. (refl, at))
node_once s None (Some u) z w x y = absurd (no_stream_end s u w z x y)
node_once s (Some t) None z w x y = absurd (no_stream_end s t z w y x)
node_once s (Some t) (Some u) z w x y = let o = tree_once t u [] [] s z w x y in (ap Some o.same, sym o.left ∙ o.right)

-- what a read that was not refused says of the node
pub record Read {X : Type 0} (of_node : Option Tree → Option X) (node : Option Tree) (left : ℕ) (z : State) (x : X) (m : Source) : Type 0 where
  pub value : of_node node ≡ Some x
  pub state : m.state ≡ z
  pub less : m.left < left

pub read_is : {X : Type 0} (of_node : Option Tree → Option X) (read : Source → Result (X × Source) Refused) → Reads of_node read
    → (s : Source) (node : Option Tree) (z : State) (x : X) (m : Source) → Emits s.state node z → read s ≡ Ok (x, m) → Read of_node node s.left z x m
read_is {X} of_node read law s node z x m run is =
    let f = law.sound s x m is in
    let o = node_once s.state node f.node z m.state run f.emitted in
    record {
      value = ap of_node o.0 ∙ f.read;
      state = sym o.1;
      less = got (subst (λ (r : Result (X × Source) Refused). Gets s.left x m.state r) is (law.complete s f.node m.state x f.emitted f.read));
    }
  where
    got : Gets s.left x m.state (Ok (x, m)) → m.left < s.left
    got g = g.2
