-- The graph of a configuration and files is built by the steps of a composition, and so there is at most one.
use Rattle.std.proofs.Common.{◌≡◌, ℕ, List, [], ◌∷◌, ◌++◌, length, map, drop, get_or, Option, Some, None, refl, sym, ap, ◌∙◌, subst, arith, bytes_eq}
use Rattle.std.specs.Prelude.{filter_map, flat_map}
use Rattle.std.specs.List.{AllZip, range_with_len}
use Rattle.std.proofs.lemmas.Option.{same_Some}
use Rattle.std.proofs.lemmas.List.{append-nil, take_all}
use Rattle.compose_graph.specs.Encoding.{IsEncoding}
use Rattle.compose_graph.specs.Graph.{ComponentEntry, GraphTree, InstanceEntry, component_of, made_from}
use Rattle.compose_graph.specs.declared.connection.Connection.{Connection}
use Rattle.compose_files.specs.Built.{AfterSteps, Built, IsChosen, Need, Sources, taken}
use Rattle.compose_files.specs.Composed.{HasTurn, HaveOneGraph, IsBuilt, IsComposed, options_of, root_name}
use Rattle.compose_files.specs.Graph.{IsExportFor, IsGraphOf, IsInstanceOf, IsServedFrom, IsServing, Named, Origin, asked_names, component_names, component_number, each_once, named_of, needs, needs_of, offered, source_of}
use Rattle.compose_files.specs.declared.offer.Offer.{Offer}
use Rattle.compose_files.proofs.Drawn.{IsDrawn, IsWired}
use Rattle.compose_files.proofs.FrontConnects.{chosen_as}
use Rattle.compose_files.proofs.FrontStart.{CanBegin, can_begin}
use Rattle.compose_files.proofs.FrontTurns.{HasTurned, front_needs, has_turned}
use Rattle.compose_files.proofs.Fronts.{zip_same}
use Rattle.compose_files.proofs.OneGraph.{OneShape, one_built, one_chosen}

-- a list that is as long as its front is that
no_more : {X Y : Type 0} (f : X → Y) (xs ys : List X) → map f (xs ++ ys) ≡ map f xs → ys ≡ []
no_more f [] [] h = refl
no_more f [] (y ∷ ys) h = absurd cc
no_more {X} {Y} f (x ∷ xs) ys h = no_more f xs ys (ap (drop 1) h)

-- instances of the same components, under the same numbers
instances_same : (P Q : Origin → InstanceEntry → Type 0) → ((o : Origin) (i j : InstanceEntry) → P o i → Q o j → i.component ≡ j.component) → (origins : List Origin) (is js : List InstanceEntry)
    → AllZip P origins is → AllZip Q origins js → map (λ (i : InstanceEntry). i.id) is ≡ map (λ (i : InstanceEntry). i.id) js → is ≡ js
instances_same P Q one [] [] [] p q h = refl
instances_same P Q one [] [] (j ∷ js) p q h = absurd q
instances_same P Q one [] (i ∷ is) js p q h = absurd p
instances_same P Q one (o ∷ origins) [] js p q h = absurd p
instances_same P Q one (o ∷ origins) (i ∷ is) [] p q h = absurd q
instances_same P Q one (o ∷ origins) (i ∷ is) (j ∷ js) p q h =
    let id : i.id ≡ j.id = ap (λ l. get_or l 0 0) h in
    let component : i.component ≡ j.component = one o i j p.0 q.0 in
    let later : is ≡ js = instances_same P Q one origins is js p.1 q.1 (ap (drop 1) h) in
    λ k. record { id = id k; component = component k } ∷ later k

module _ (s : Sources) (first : List ComponentEntry) (g h : GraphTree) (origins : List Origin) (same : (id : ℕ) → component_of h id ≡ component_of g id) where
  -- an import is served in one way
  one_serving : (need : Need) (a b : Option Connection) → IsServing s g origins first need a → IsServing s h origins first need b → a ≡ b
  one_serving need a b p q = by (source_of s first need) a b p q
    where
      export : (o : Option Offer) (c d : Connection) → c.source ≡ d.source → IsExportFor s g need o c → IsExportFor s h need o d → c.export ≡ d.export
      export (Some o) c d source p q = p ∙ sym q
      export None c d source p q =
          one_chosen h d.source need (taken s.settings need).export c.export d.export
          (subst (λ n. IsChosen h n need (taken s.settings need).export c.export) source (chosen_as g h c.source need (taken s.settings need).export c.export (same c.source) (same need.target) p)) q

      by : (o : Option Origin) (a b : Option Connection) → IsServedFrom s g origins first need o a → IsServedFrom s h origins first need o b → a ≡ b
      by None None None p q = refl
      by None None (Some d) p q = absurd q
      by None (Some c) b p q = absurd p
      by (Some o) None b p q = absurd p
      by (Some o) (Some c) None p q = absurd q
      by (Some o) (Some c) (Some d) p q =
          let source : c.source ≡ d.source = same_Some c.source d.source (sym p.source ∙ q.source) in
          let target : c.target ≡ d.target = p.target ∙ sym q.target in
          let import : c.import ≡ d.import = p.import ∙ sym q.import in
          let export_is : c.export ≡ d.export = export (offered first need) c d source p.export q.export in
          λ k. Some (record { source = source k; export = export_is k; target = target k; import = import k })

module _ (root : List ℕ) (s : Sources) (g : GraphTree) (whole : IsGraphOf root s g) where
  -- what is drawn and wired as the whole graph is it
  whole_is : (b : Built) (origins : List Origin) (found rest : List ComponentEntry) → IsDrawn s whole.first b origins found → IsWired s whole.first b origins (needs g whole.origins) → g.components ≡ b.graph.components ++ rest
      → (origins ≡ whole.origins) × (b.graph ≡ g)
  whole_is b origins found rest drawn wired all = (
    for_same,
    λ k. record {
      components = components k;
      instances = instances k;
      connections = connections k;
      next_component = next_component k;
      next_instance = next_instance k;
    },
  )
    where
      for_same : origins ≡ whole.origins
      for_same = wired.order ∙ sym whole.instances.order

      names : component_names (b.graph.components ++ rest) ≡ component_names b.graph.components
      names =
          ap component_names (sym all) ∙ whole.components.order ∙ ap (λ l. each_once bytes_eq (component_names whole.first ++ asked_names s.settings l)) (sym (wired.order ∙ sym whole.instances.order))
          ∙ sym drawn.names

      components : b.graph.components ≡ g.components
      components = sym (append-nil b.graph.components) ∙ ap (λ l. b.graph.components ++ l) (sym (no_more (λ (c : ComponentEntry). c.name) b.graph.components rest names)) ∙ sym all

      instances : b.graph.instances ≡ g.instances
      instances =
          instances_same (IsInstanceOf s.settings b.graph.components) (IsInstanceOf s.settings g.components)
          (λ o i j p q. same_Some i.component j.component (sym p ∙ ap (λ l. component_number s.settings l o) components ∙ q)) origins b.graph.instances g.instances drawn.instances.components
          (subst (λ l. AllZip (IsInstanceOf s.settings g.components) l g.instances) (sym for_same) whole.instances.components)
          (drawn.instances.numbers ∙ ap (λ l. range_with_len 0 (length l)) for_same ∙ sym whole.instances.numbers)

      same : (id : ℕ) → component_of g id ≡ component_of b.graph id
      same id = λ k. made_from (sym components k) (sym instances k) id

      given : wired.given ≡ whole.connections.given
      given =
          zip_same (IsServing s b.graph origins whole.first) (IsServing s g origins whole.first) (one_serving s whole.first b.graph g origins same) (needs g whole.origins) wired.given whole.connections.given wired.each
          (subst (λ l. AllZip (IsServing s g l whole.first) (needs g whole.origins) whole.connections.given) (sym for_same) whole.connections.each)

      connections : b.graph.connections ≡ g.connections
      connections = wired.connections ∙ ap (filter_map (λ c. c)) given ∙ sym whole.connections.connections

      next_component : b.graph.next_component ≡ g.next_component
      next_component = drawn.parts.next ∙ ap length components ∙ sym whole.components.next

      next_instance : b.graph.next_instance ≡ g.next_instance
      next_instance = drawn.instances.next ∙ ap length for_same ∙ sym whole.instances.next

  pub graph_is_built : (b : Built) × IsBuilt root s b × (b.graph ≡ g)
  graph_is_built = by (can_begin root s g whole)
    where
      by : CanBegin root s g whole → (b : Built) × IsBuilt root s b × (b.graph ≡ g)
      by c = end (has_turned root s g whole c.start (Named root_name ∷ []) [] c.drawn c.wired whole.components.found c.all (length (named_of whole.origins)) (omega arith))
        where
          every : front_needs root s g whole (length (named_of whole.origins)) ≡ needs g whole.origins
          every = ap (flat_map (needs_of g)) (take_all (length (named_of whole.origins)) (named_of whole.origins) (omega arith))

          end : HasTurned root s g whole c.start (Named root_name ∷ []) [] c.drawn c.wired whole.components.found c.all (length (named_of whole.origins)) → (b : Built) × IsBuilt root s b × (b.graph ≡ g)
          end t =
              let is = whole_is t.new t.after t.found_after t.rest t.drawn_after (subst (IsWired s whole.first t.new t.after) every t.wired_after) t.all in
              let long : length (named_of whole.origins) ≡ length t.new.named = ap (λ l. length (named_of l)) (sym is.0) ∙ ap length (sym t.drawn_after.named) in
              (t.new, record { start = c.start; started = c.started; turns = subst (λ n. AfterSteps (HasTurn s) c.start n t.new) long t.turns }, is.1)

-- there is at most one
pub one_graph_of : OneShape → (root : List ℕ) (s : Sources) (g h : GraphTree) → IsGraphOf root s g → IsGraphOf root s h → g ≡ h
one_graph_of one_shape root s g h p q =
    let a = graph_is_built root s g p in
    let b = graph_is_built root s h q in
    sym a.2 ∙ ap (λ (x : Built). x.graph) (one_built one_shape s root a.0 b.0 a.1 b.1) ∙ b.2

pub one_graph : OneShape → (root : List ℕ) (s : Sources) (a b : List ℕ) → IsComposed root s a → IsComposed root s b → HaveOneGraph root s a b
one_graph one_shape root s a b p q = record {
  graph = q.graph;
  is_graph = q.is_graph;
  one = subst (λ g. IsEncoding g (options_of s.settings) a) (one_graph_of one_shape root s p.graph q.graph p.is_graph q.is_graph) p.encoded;
  other = q.encoded;
}
