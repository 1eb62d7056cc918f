-- By each step of a composition at most one state is reached, and so there is at most one in the end.
use Rattle.std.proofs.Common.{◌≡◌, ℕ, Bool, List, length, Option, Some, None, slice_get, bytes_eq, sym, ◌∙◌, subst}
use Rattle.std.proofs.lemmas.Option.{slice_get_within}
use Rattle.std.specs.Map.{lookup}
use Rattle.std.specs.Option.{option_or}
use Rattle.warg_base.specs.Files.{FileMap, file_at}
use Rattle.comp_entity.specs.Entity.{ShapeTree}
use Rattle.comp_shape.specs.Shape.{HasShape}
use Rattle.compose_config.specs.Plan.{Argument, dependency_name}
use Rattle.compose_graph.specs.Graph.{ComponentEntry, GraphTree, component_named, component_of, no_graph, with_component}
use Rattle.compose_files.specs.Built.{Built, DefinesAt, IsAdded, IsChosen, IsComponentFor, IsConnected, IsDefined, IsInstanceFor, IsMade, IsNew, IsOffered, IsRead, IsServed, IsServedBy, IsTaken, Need, Serves, Sources, AfterSteps, asked_by, file_for, import_names, instance_of, is_unnamed, offer, taken, with_graph, with_instance_of, with_named}
use Rattle.compose_files.specs.Choice.{choice}
use Rattle.compose_files.specs.Composed.{HasDefined, HasTurn, IsBuilt, IsStarted, ServesAt, begun, root_name}
use Rattle.compose_files.specs.Paths.{joined, stem}
use Rattle.compose_files.specs.declared.offer.Offer.{Offer}
use Rattle.compose_files.proofs.OneStep.{AtMostOne, one_after, one_by, one_end, one_found, one_pair, one_through}

abbrev pub OneShape : Type 0
OneShape = (bytes : List ℕ) (a b : ShapeTree) → HasShape bytes a → HasShape bytes b → a ≡ b

-- what of an instance is given to an import
pub one_chosen : (g : GraphTree) (source : ℕ) (need : Need) (name : Option (List ℕ)) → AtMostOne (IsChosen g source need name)
one_chosen g source need name a b p q =
    let component = one_found (component_of g source) p.component q.component p.made_from q.made_from in
    let asked = one_found (asked_by g need) p.asked q.asked p.asks q.asks in
    one_found (choice q.component.shape q.asked name) a b (sym (λ k. choice (component k).shape (asked k) name) ∙ p.chosen) q.chosen

pub one_connected : (source : ℕ) (export : Option ℕ) (need : Need) (old : Built) → AtMostOne (IsConnected source export need old)
one_connected source export need old a b p q = p.connected ∙ sym q.connected

one_taken : (s : Sources) (need : Need) (a : Argument) (is_new : Bool) (source : ℕ) (old : Built) → AtMostOne (IsTaken s need a is_new source old)
one_taken s need a is_new source old x y p q =
    one_through (IsChosen old.graph source need a.export) (λ export new. IsConnected source export need old new) (one_chosen old.graph source need a.export) (λ export. one_connected source export need old)
    p.export q.export x y p.chosen q.chosen p.given q.given

one_served_by : (s : Sources) (need : Need) (a : Argument) (is_new : Bool) (source : Option ℕ) (old : Built) → AtMostOne (IsServedBy s need a is_new source old)
one_served_by s need a is_new None old = λ x y p q. p.unchanged ∙ sym q.unchanged
one_served_by s need a is_new (Some source) old = one_taken s need a is_new source old

one_made : (b : Built) (name : List ℕ) (component : Option ℕ) → AtMostOne (λ (r : Option ℕ × Built). IsMade b name component r.0 r.1)
one_made b name None = one_pair None b
one_made b name (Some component) = one_pair (Some b.graph.next_instance) (with_named b name component)

module _ (one_shape : OneShape) where
  -- ---- components

  pub one_added : (files : FileMap) (path name : List ℕ) (old : GraphTree) → AtMostOne (λ (r : ShapeTree × GraphTree). IsAdded files path name r.0 old r.1)
  one_added files path name old a b p q =
      let bytes = one_found (file_at files path) p.bytes q.bytes p.found q.found in
      let shape = one_shape q.bytes a.0 b.0 (subst (λ l. HasShape l a.0) bytes p.shaped) q.shaped in
      let graph : a.1 ≡ b.1 = p.added ∙ (λ k. with_component old name (bytes k) (shape k)) ∙ sym q.added in
      λ k. (shape k, graph k)

  one_read : (s : Sources) (name : List ℕ) (old : GraphTree) (file : Option (List ℕ)) → AtMostOne (λ (r : Option ℕ × GraphTree). IsRead s name old file r.0 r.1)
  one_read s name old None = one_pair None old
  one_read s name old (Some path) = λ a b p q.
      let added = one_added s.files path name old (p.1.0, a.1) (q.1.0, b.1) p.1.1 q.1.1 in
      λ k. ((p.0 ∙ sym q.0) k, (added k).1)

  module _ (s : Sources) where
    pub one_component : (name : List ℕ) (old : GraphTree) → AtMostOne (λ (r : Option ℕ × GraphTree). IsComponentFor s name old r.0 r.1)
    one_component name old =
        one_by (component_named old.components name) (λ (r : Option ℕ × GraphTree). IsRead s name old (file_for s name) r.0 r.1) (λ (c : ComponentEntry) (r : Option ℕ × GraphTree). (r.0 ≡ Some c.id) × (r.1 ≡ old))
        (one_read s name old (file_for s name)) (λ c. one_pair (Some c.id) old)

    -- ---- definitions

    one_defined : (path : List ℕ) (old : Built) → AtMostOne (IsDefined s path old)
    one_defined path old a b p q =
        let added = one_through (λ name. stem path ≡ Some name) (λ name (r : ShapeTree × GraphTree). IsAdded s.files (joined s.dir path) name r.0 old.graph r.1) (one_found (stem path)) (λ name. one_added s.files (joined s.dir path) name old.graph)
        p.name q.name (p.shape, a.graph) (q.shape, b.graph) p.stem_is q.stem_is p.added q.added in
        λ k. record {
          graph = (added k).1;
          named = (p.named ∙ sym q.named) k;
          made = (p.made ∙ sym q.made) k;
          offers = λ name. (p.offers name ∙ (λ k. option_or (old.offers name) (offer old.graph.next_component (added k).0 name)) ∙ sym (q.offers name)) k;
        }

    pub one_defined_at : (n : ℕ) (old : Built) → AtMostOne (DefinesAt s n old)
    one_defined_at n old a b p q =
        one_through (λ path. slice_get s.settings.definitions n ≡ Some path) (λ path new. IsDefined s path old new) (one_found (slice_get s.settings.definitions n)) (λ path. one_defined path old)
        p.path q.path a b p.there q.there p.defined q.defined

    -- ---- imports

    one_new : (name : List ℕ) (old : Built) → AtMostOne (λ (r : Option ℕ × Built). IsNew s name old r.0 r.1)
    one_new name old a b p q =
        one_through (λ (r : Option ℕ × GraphTree). IsComponentFor s (dependency_name s.settings name) old.graph r.0 r.1) (λ r (m : Option ℕ × Built). IsMade (with_graph old r.1) name r.0 m.0 m.1)
        (one_component (dependency_name s.settings name) old.graph) (λ r. one_made (with_graph old r.1) name r.0) (p.component, p.graph) (q.component, q.graph) a b p.found q.found p.made q.made

    pub one_instance : (name : List ℕ) (old : Built) → AtMostOne (λ (r : Option ℕ × Built). IsInstanceFor s name old r.0 r.1)
    one_instance name old =
        one_by (lookup (λ k. bytes_eq name k) old.named) (λ (r : Option ℕ × Built). IsNew s name old r.0 r.1) (λ (id : ℕ) (r : Option ℕ × Built). (r.0 ≡ Some id) × (r.1 ≡ old))
        (one_new name old) (λ id. one_pair (Some id) old)

    one_served : (need : Need) (a : Argument) (old : Built) → AtMostOne (IsServed s need a old)
    one_served need a old x y p q =
        one_through (λ (r : Option ℕ × Built). IsInstanceFor s a.instance old r.0 r.1) (λ r new. IsServedBy s need a (is_unnamed old a.instance) r.0 r.1 new)
        (one_instance a.instance old) (λ r. one_served_by s need a (is_unnamed old a.instance) r.0 r.1) (p.source, p.with_source) (q.source, q.with_source) x y p.found q.found p.served q.served

    one_serves : (need : Need) (old : Built) → AtMostOne (Serves s need old)
    one_serves need old =
        one_by (old.offers need.name) (IsServed s need (taken s.settings need) old) (λ (o : Offer) new. IsOffered need o old new)
        (one_served need (taken s.settings need) old) (λ o. one_connected (instance_of old o.component) (Some o.export) need (with_instance_of old o.component))

    -- ---- turns

    pub one_serves_at : (instance : List ℕ) (target : ℕ) (names : List (List ℕ)) (n : ℕ) (old : Built) → AtMostOne (ServesAt s instance target names n old)
    one_serves_at instance target names n old a b p q =
        one_through (λ name. slice_get names n ≡ Some name) (λ name new. Serves s (record { instance = instance; target = target; place = n; name = name }) old new)
        (one_found (slice_get names n)) (λ name. one_serves (record { instance = instance; target = target; place = n; name = name }) old) p.name q.name a b p.there q.there p.serves q.serves

    abbrev ServesAll : Built → List ℕ × ℕ → ComponentEntry → Built → Type 0
    ServesAll old i c new = AfterSteps (ServesAt s i.0 i.1 (import_names c.shape)) old (length c.shape.imports) new

    pub one_turn : (k : ℕ) (old : Built) → AtMostOne (HasTurn s k old)
    one_turn k old a b p q =
        let there = one_found (slice_get old.named k) (p.name, p.id) (q.name, q.id) p.there q.there in
        one_through (λ c. component_of old.graph q.id ≡ Some c) (ServesAll old (q.name, q.id)) (one_found (component_of old.graph q.id)) (λ c. one_after (ServesAt s q.name q.id (import_names c.shape)) (one_serves_at q.name q.id (import_names c.shape)) old (length c.shape.imports))
        p.component q.component a b (subst (λ i. component_of old.graph i.1 ≡ Some p.component) there p.made_from) q.made_from (subst (λ i. ServesAll old i p.component a) there p.served) q.served

    -- ---- all of it

    module _ (root : List ℕ) where
      pub one_all_defined : (n : ℕ) → AtMostOne (HasDefined root s n)
      one_all_defined n a b p q =
          one_through (λ (r : ShapeTree × GraphTree). IsAdded s.files root root_name r.0 no_graph r.1) (λ r b. AfterSteps (DefinesAt s) (begun r.1) n b)
          (one_added s.files root root_name no_graph) (λ r. one_after (DefinesAt s) one_defined_at (begun r.1) n) (p.shape, p.graph) (q.shape, q.graph) a b p.rooted q.rooted p.defines q.defines

      pub one_start : AtMostOne (IsStarted root s)
      one_start a b p q =
          one_through (HasDefined root s (length s.settings.definitions)) (λ d b. b ≡ with_named d root_name 0) (one_all_defined (length s.settings.definitions)) (λ d a b p q. p ∙ sym q)
          p.defined q.defined a b p.has_defined q.has_defined p.instantiated q.instantiated

      pub one_built : AtMostOne (IsBuilt root s)
      one_built a b p q =
          one_through (IsStarted root s) (λ start b. AfterSteps (HasTurn s) start (length b.named) b) one_start (one_end (HasTurn s) one_turn (λ b. length b.named) (λ k old new turn. slice_get_within old.named k (turn.name, turn.id) turn.there))
          p.start q.start a b p.started q.started p.turns q.turns
