-- The start of a composition: the root and the definitions are there, and an instance of the root.
use Rattle.std.proofs.Common.{◌≡◌, ℕ, suc, zero, ◌+◌, Bool, true, false, ◌||◌, List, [], ◌∷◌, ◌++◌, length, map, take, Option, Some, None, is_some, refl, sym, ap, ◌∙◌, subst, bytes_eq, arith}
use Rattle.std.specs.List.{AllZip, range_with_len}
use Rattle.std.specs.Option.{option_or}
use Rattle.std.proofs.lemmas.Bool.{false≢true, or_left}
use Rattle.std.proofs.lemmas.List.{append-nil, map-append}
use Rattle.comp_entity.specs.Entity.{ShapeTree}
use Rattle.compose_config.specs.Plan.{dependency_name}
use Rattle.compose_graph.specs.Graph.{ComponentEntry, GraphTree, InstanceEntry, component_named, no_graph, with_component}
use Rattle.compose_files.specs.Built.{AfterSteps, Built, DefinesAt, HasGoodArguments, IsAdded, Sources, file_for, offer, with_named}
use Rattle.compose_files.specs.Composed.{HasDefined, begun, root_name}
use Rattle.compose_files.specs.Graph.{IsInstanceOf, IsOfDefinition, IsOfFile, Named, component_names, each_once, first_offer, has_component}
use Rattle.compose_files.specs.declared.offer.Offer.{Offer}
use Rattle.compose_files.proofs.Drawn.{HasMade, IsDrawn, IsWired, made_more}
use Rattle.compose_files.proofs.Once.{length_more, numbers_more, zip_more}
use Rattle.compose_files.proofs.SourcedByName.{names_more}
use Rattle.compose_files.proofs.Turns.{take_suc}

-- the root and so many definitions are there, and nothing else
pub record IsBegun (root : List ℕ) (s : Sources) (n : ℕ) (b : Built) : Type 0 where
  pub of_root : ComponentEntry
  pub defined : List ComponentEntry
  pub all : b.graph.components ≡ of_root ∷ defined
  pub root_named : of_root.name ≡ root_name
  pub root_file : IsOfFile s.files root of_root
  pub definitions : AllZip (IsOfDefinition s) (take n s.settings.definitions) defined
  pub names : component_names b.graph.components ≡ each_once bytes_eq (component_names b.graph.components)
  pub numbers : map (λ (c : ComponentEntry). c.id) b.graph.components ≡ range_with_len 0 (length b.graph.components)
  pub next : b.graph.next_component ≡ length b.graph.components
  pub no_instances : b.graph.instances ≡ []
  pub no_connections : b.graph.connections ≡ []
  pub next_instance : b.graph.next_instance ≡ 0
  pub named : b.named ≡ []
  pub made : (c : ℕ) → b.made c ≡ None
  pub offers : (name : List ℕ) → b.offers name ≡ first_offer defined name

-- what one definition more has comes last
offer_more : (cs : List ComponentEntry) (c : ComponentEntry) (name : List ℕ) → first_offer (cs ++ c ∷ []) name ≡ option_or (first_offer cs name) (offer c.id c.shape name)
offer_more [] c name = by (offer c.id c.shape name)
  where
    by : (o : Option Offer) → option_or o None ≡ o
    by None = refl
    by (Some o) = refl
offer_more (x ∷ cs) c name = ap (option_or (offer x.id x.shape name)) (offer_more cs c name) ∙ by (offer x.id x.shape name) (first_offer cs name) (offer c.id c.shape name)
  where
    by : (a b c : Option Offer) → option_or a (option_or b c) ≡ option_or (option_or a b) c
    by None b c = refl
    by (Some a) b c = refl

module _ (root : List ℕ) (s : Sources) where
  begun_root : (shape : ShapeTree) (g : GraphTree) → IsAdded s.files root root_name shape no_graph g → IsBegun root s 0 (begun g)
  begun_root shape g h = subst (λ g. IsBegun root s 0 (begun g)) (sym h.added) (record {
    of_root = record { id = 0; name = root_name; bytes = h.bytes; shape = shape };
    defined = [];
    all = refl;
    root_named = refl;
    root_file = record { found = h.found; shaped = h.shaped };
    definitions = tt;
    names = refl;
    numbers = refl;
    next = refl;
    no_instances = refl;
    no_connections = refl;
    next_instance = refl;
    named = refl;
    made = λ c. refl;
    offers = λ name. refl;
  })

  defined_more : (n : ℕ) (old new : Built) → IsBegun root s n old → DefinesAt s n old new → IsBegun root s (suc n) new
  defined_more n old new b h = record {
    of_root = b.of_root;
    defined = b.defined ++ c ∷ [];
    all = ap (λ (g : GraphTree). g.components) added ∙ ap (λ l. l ++ c ∷ []) b.all;
    root_named = b.root_named;
    root_file = b.root_file;
    definitions = subst (λ l. AllZip (IsOfDefinition s) l (b.defined ++ c ∷ [])) (sym (ap (take (suc n)) (sym (append-nil s.settings.definitions)) ∙ take_suc s.settings.definitions [] n h.path h.there))
        (zip_more (IsOfDefinition s) (take n s.settings.definitions) b.defined h.path c b.definitions (record { named = h.defined.stem_is; of_file = record { found = h.defined.added.found; shaped = h.defined.added.shaped } }));
    names = subst (λ (g : GraphTree). component_names g.components ≡ each_once bytes_eq (component_names g.components)) (sym added) names;
    numbers = subst (λ (g : GraphTree). map (λ (c : ComponentEntry). c.id) g.components ≡ range_with_len 0 (length g.components)) (sym added) numbers;
    next = subst (λ (g : GraphTree). g.next_component ≡ length g.components) (sym added) (ap suc b.next ∙ sym (length_more old.graph.components c));
    no_instances = ap (λ (g : GraphTree). g.instances) added ∙ b.no_instances;
    no_connections = ap (λ (g : GraphTree). g.connections) added ∙ b.no_connections;
    next_instance = ap (λ (g : GraphTree). g.next_instance) added ∙ b.next_instance;
    named = h.defined.named ∙ b.named;
    made = λ d. ap (λ (m : ℕ → Option ℕ). m d) h.defined.made ∙ b.made d;
    offers = λ name. h.defined.offers name ∙ ap (λ o. option_or o (offer old.graph.next_component h.defined.shape name)) (b.offers name) ∙ sym (offer_more b.defined c name);
  }
    where
      c : ComponentEntry
      c = record { id = old.graph.next_component; name = h.defined.name; bytes = h.defined.added.bytes; shape = h.defined.shape }

      added : new.graph ≡ with_component old.graph h.defined.name h.defined.added.bytes h.defined.shape
      added = h.defined.added.added

      longer : component_names (old.graph.components ++ c ∷ []) ≡ component_names old.graph.components ++ h.defined.name ∷ []
      longer = map-append (λ (c : ComponentEntry). c.name) old.graph.components (c ∷ [])

      names : component_names (old.graph.components ++ c ∷ []) ≡ each_once bytes_eq (component_names (old.graph.components ++ c ∷ []))
      names =
          longer ∙ sym (names_more s [] old.graph.components (component_names old.graph.components) h.defined.name false b.names (ap is_some h.defined.added.free))
          ∙ ap (each_once bytes_eq) (sym longer)

      at_end : length old.graph.components ≡ 0 + length old.graph.components
      at_end = omega arith

      numbers : map (λ (c : ComponentEntry). c.id) (old.graph.components ++ c ∷ []) ≡ range_with_len 0 (length (old.graph.components ++ c ∷ []))
      numbers =
          map-append (λ (c : ComponentEntry). c.id) old.graph.components (c ∷ []) ∙ ap (λ l. l ++ old.graph.next_component ∷ []) b.numbers
          ∙ ap (λ m. range_with_len 0 (length old.graph.components) ++ m ∷ []) (b.next ∙ at_end) ∙ sym (numbers_more 0 (length old.graph.components))
          ∙ ap (range_with_len 0) (sym (length_more old.graph.components c))

  all_defined : (start : Built) → IsBegun root s 0 start → (n : ℕ) (end : Built) → AfterSteps (DefinesAt s) start n end → IsBegun root s n end
  all_defined start b zero end h = subst (IsBegun root s 0) (sym h) b
  all_defined start b (suc n) end h = defined_more n h.0 end (all_defined start b n h.0 h.1) h.2

  pub has_begun : (n : ℕ) (b : Built) → HasDefined root s n b → IsBegun root s n b
  has_begun n b h = all_defined (begun h.graph) (begun_root h.shape h.graph h.rooted) n b h.defines

  -- ---- the instance of the root

  module _ (n : ℕ) (b : Built) (h : IsBegun root s n b) where
    abbrev pub first_of : List ComponentEntry
    first_of = h.of_root ∷ h.defined

    pub start_drawn : IsDrawn s first_of (with_named b root_name 0) (Named root_name ∷ []) []
    start_drawn = record {
      parts = record { all = h.all ∙ sym (append-nil first_of); files = tt; numbers = h.numbers; next = h.next };
      instances = made_more s b.graph [] (Named root_name) 0 none refl;
      names = h.names ∙ ap (each_once bytes_eq) (ap component_names h.all ∙ sym (append-nil (component_names first_of)));
      named = ap (λ l. l ++ (root_name, b.graph.next_instance) ∷ []) h.named ∙ ap (λ m. (root_name, m) ∷ []) h.next_instance;
      made = h.made;
      offers = h.offers;
      known = λ name is. by name (bytes_eq name root_name) refl is;
      rest = [];
      begins = refl;
    }
      where
        none : HasMade s b.graph []
        none = record {
          components = subst (AllZip (IsInstanceOf s.settings b.graph.components) []) (sym h.no_instances) tt;
          numbers = ap (map (λ (i : InstanceEntry). i.id)) h.no_instances;
          next = h.next_instance;
        }

        by : (name : List ℕ) (t : Bool) → bytes_eq name root_name ≡ t → (t || false) ≡ true → has_component s first_of name ≡ true
        by name true e is = or_left (bytes_eq name root_name) (is_some (component_named first_of (dependency_name s.settings name)) || is_some (file_for s (dependency_name s.settings name))) e
        by name false e is = absurd (false≢true is)

    pub start_wired : HasGoodArguments s.settings (with_named b root_name 0).graph root_name b.graph.next_instance → IsWired s first_of (with_named b root_name 0) (Named root_name ∷ []) []
    start_wired good = record {
      given = [];
      order = refl;
      reached = λ m some less. absurd (omega arith);
      each = tt;
      connections = h.no_connections;
      arguments_good = (subst (HasGoodArguments s.settings (with_named b root_name 0).graph root_name) h.next_instance good, tt);
    }
