-- The start of a composition can be built as the whole graph has it.
use Rattle.std.proofs.Common.{◌≡◌, ◌≤◌, ℕ, suc, zero, ◌+◌, false, List, [], ◌∷◌, ◌++◌, length, take, drop, Option, Some, None, is_some, slice_get, refl, sym, ap, ◌∙◌, subst, bytes_eq, arith, append_assoc}
use Rattle.std.specs.List.{AllByRecursion}
use Rattle.std.specs.Option.{option_or}
use Rattle.std.proofs.lemmas.Bool.{false≢true}
use Rattle.std.proofs.lemmas.Option.{same_Some, slice_get_within}
use Rattle.std.proofs.lemmas.List.{append-nil, map-append, take_all}
use Rattle.compose_graph.specs.Graph.{ComponentEntry, GraphTree, component_named, component_of, no_graph, with_component}
use Rattle.compose_files.specs.Built.{AfterSteps, Built, DefinesAt, HasGoodArguments, Sources, offer, with_named}
use Rattle.compose_files.specs.Composed.{HasDefined, ImportsSome, IsStarted, begun, root_name}
use Rattle.compose_files.specs.Graph.{IsGraphOf, IsOfDefinition, Named, Origin, component_names, named_of}
use Rattle.compose_files.proofs.Drawn.{IsDrawn, IsWired}
use Rattle.compose_files.proofs.Front.{same_component}
use Rattle.compose_files.proofs.FrontConnects.{arguments_as}
use Rattle.compose_files.proofs.Fronts.{AreApart, apart_front, get_in_front, get_within, number_at, once_apart, zip_at, zip_long}
use Rattle.compose_files.proofs.GraphStart.{IsBegun, first_of, has_begun, start_drawn, start_wired}
use Rattle.compose_files.proofs.Once.{none_some}
use Rattle.compose_files.proofs.SourcedByName.{name_there}
use Rattle.compose_files.proofs.Turns.{take_suc}

not_some : {A : Type 0} (o : Option A) → is_some o ≡ false → o ≡ None
not_some None h = refl
not_some (Some x) h = absurd (false≢true (sym h))

module _ (root : List ℕ) (s : Sources) (g : GraphTree) (whole : IsGraphOf root s g) where
  abbrev of_root : ComponentEntry
  of_root = whole.components.of_root

  abbrev defined : List ComponentEntry
  defined = whole.components.defined

  all_are : g.components ≡ (whole.components.of_root ∷ whole.components.defined) ++ whole.components.found
  all_are = whole.components.all ∙ ap (λ l. l ++ whole.components.found) whole.components.first_are

  -- the name of a component is none of those in front of it
  name_free : (front : List ComponentEntry) (c : ComponentEntry) (back : List ComponentEntry) → g.components ≡ front ++ c ∷ back → component_named front c.name ≡ None
  name_free front c back is =
      not_some (component_named front c.name)
      (sym (name_there front c.name)
      ∙ apart_front bytes_eq (component_names front) c.name (component_names back)
      (subst (AreApart bytes_eq) (sym whole.components.order ∙ ap component_names is ∙ map-append (λ (c : ComponentEntry). c.name) front (c ∷ back)) (once_apart bytes_eq _)))

  -- ---- definitions

  -- so many definitions are there
  record HasFront (start : Built) (n : ℕ) : Type 0 where
    new : Built
    steps : AfterSteps (DefinesAt s) start n new
    components : new.graph.components ≡ whole.components.of_root ∷ take n whole.components.defined
    next : new.graph.next_component ≡ suc n

  one_defined : (start : Built) (n : ℕ) → HasFront start n → (path : List ℕ) → slice_get s.settings.definitions n ≡ Some path → (c : ComponentEntry) → slice_get whole.components.defined n ≡ Some c → IsOfDefinition s path c → HasFront start (suc n)
  one_defined start n h path path_there c there is = record {
    new = record { graph = with_component h.new.graph c.name c.bytes c.shape; named = h.new.named; made = h.new.made; offers = λ import. option_or (h.new.offers import) (offer h.new.graph.next_component c.shape import) };
    steps = (
      h.new,
      h.steps,
      record {
        path = path;
        there = path_there;
        defined = record {
          name = c.name;
          stem_is = is.named;
          shape = c.shape;
          added = record { bytes = c.bytes; found = is.of_file.found; shaped = is.of_file.shaped; free = ap (λ l. component_named l c.name) h.components ∙ name_free (whole.components.of_root ∷ take n whole.components.defined) c (drop (suc n) whole.components.defined ++ whole.components.found) split; added = refl };
          named = refl;
          made = refl;
          offers = λ import. refl;
        };
      },
    );
    components =
        ap (λ l. l ++ record { id = h.new.graph.next_component; name = c.name; bytes = c.bytes; shape = c.shape } ∷ []) h.components
        ∙ ap (λ m. whole.components.of_root ∷ (take n whole.components.defined ++ record { id = m; name = c.name; bytes = c.bytes; shape = c.shape } ∷ [])) (h.next ∙ sym number)
        ∙ ap (λ l. whole.components.of_root ∷ l) (sym (take_suc whole.components.defined [] n c there) ∙ ap (take (suc n)) (append-nil whole.components.defined));
    next = ap suc h.next;
  }
    where
      cut : (xs : List ComponentEntry) (n : ℕ) → slice_get xs n ≡ Some c → xs ≡ take n xs ++ c ∷ drop (suc n) xs
      cut [] n h = absurd (none_some c (sym h))
      cut (x ∷ xs) zero h = ap (λ z. z ∷ xs) (same_Some x c h)
      cut (x ∷ xs) (suc n) h = ap (λ l. x ∷ l) (cut xs n h)

      split : g.components ≡ (whole.components.of_root ∷ take n whole.components.defined) ++ c ∷ (drop (suc n) whole.components.defined ++ whole.components.found)
      split =
          all_are ∙ ap (λ l. (whole.components.of_root ∷ l) ++ whole.components.found) (cut whole.components.defined n there)
          ∙ append_assoc (whole.components.of_root ∷ take n whole.components.defined) (c ∷ drop (suc n) whole.components.defined) whole.components.found

      number : c.id ≡ suc n
      number =
          let within = slice_get_within whole.components.defined n c there in
          let at : c.id ≡ 0 + suc n =
          number_at (λ (c : ComponentEntry). c.id) 0 (suc n) g.components c (length g.components) whole.components.numbers
          (ap (λ l. slice_get l (suc n)) all_are ∙ get_in_front whole.components.defined whole.components.found n within ∙ there) in
          omega arith

  all_defined : (start : Built) → start.graph.components ≡ whole.components.of_root ∷ [] → start.graph.next_component ≡ 1 → (n : ℕ) → n ≤ length s.settings.definitions → HasFront start n
  all_defined start components next zero less = record { new = start; steps = refl; components = components; next = next }
  all_defined start components next (suc n) less = by (get_within s.settings.definitions n (omega (arith, less))) (all_defined start components next n (omega (arith, less)))
    where
      by : (path : List ℕ) × (slice_get s.settings.definitions n ≡ Some path) → HasFront start n → HasFront start (suc n)
      by path h = let c = zip_at (IsOfDefinition s) s.settings.definitions whole.components.defined n path.0 whole.components.definitions path.1 in one_defined start n h path.0 path.1 c.0 c.1 c.2

  -- ---- the root

  abbrev rooted : GraphTree
  rooted = with_component no_graph root_name whole.components.of_root.bytes whole.components.of_root.shape

  root_is : record { id = 0; name = root_name; bytes = whole.components.of_root.bytes; shape = whole.components.of_root.shape } ≡ whole.components.of_root
  root_is = λ k. record { id = sym number k; name = sym whole.components.root_named k; bytes = whole.components.of_root.bytes; shape = whole.components.of_root.shape }
    where
      number : whole.components.of_root.id ≡ 0
      number =
          let at : whole.components.of_root.id ≡ 0 + 0 = number_at (λ (c : ComponentEntry). c.id) 0 0 g.components whole.components.of_root (length g.components) whole.components.numbers (ap (λ l. slice_get l 0) all_are) in
          omega arith

  -- the start is built, and is a front of the whole graph
  pub record CanBegin : Type 0 where
    pub start : Built
    pub started : IsStarted root s start
    pub drawn : IsDrawn s whole.first start (Named root_name ∷ []) []
    pub wired : IsWired s whole.first start (Named root_name ∷ []) []
    pub all : g.components ≡ start.graph.components ++ whole.components.found

  -- the instance of the root is the first that has a name
  root_first : (l : List Origin) → whole.origins ≡ Named root_name ∷ l → AllByRecursion (λ (i : List ℕ × ℕ). HasGoodArguments s.settings g i.0 i.1) (named_of whole.origins) → HasGoodArguments s.settings g root_name 0
  root_first l is h = (subst (λ l. AllByRecursion (λ (i : List ℕ × ℕ). HasGoodArguments s.settings g i.0 i.1) (named_of l)) is h).0

  begins : (d : Built) → HasDefined root s (length s.settings.definitions) d → d.graph.components ≡ whole.first → CanBegin
  begins d h components = record {
    start = with_named d root_name 0;
    started = record { defined = d; has_defined = h; instantiated = refl; arguments_good = good_at; imports_some = some_at };
    drawn = drawn;
    wired = subst (λ l. IsWired s l (with_named d root_name 0) (Named root_name ∷ []) []) first (start_wired root s (length s.settings.definitions) d begun good_at);
    all = whole.components.all ∙ ap (λ l. l ++ whole.components.found) (sym components);
  }
    where
      begun : IsBegun root s (length s.settings.definitions) d
      begun = has_begun root s (length s.settings.definitions) d h

      first : first_of root s (length s.settings.definitions) d begun ≡ whole.first
      first = sym begun.all ∙ components

      drawn : IsDrawn s whole.first (with_named d root_name 0) (Named root_name ∷ []) []
      drawn = subst (λ l. IsDrawn s l (with_named d root_name 0) (Named root_name ∷ []) []) first (start_drawn root s (length s.settings.definitions) d begun)

      same : component_of (with_named d root_name 0).graph 0 ≡ component_of g 0
      same =
          same_component root s g whole (with_named d root_name 0) (Named root_name ∷ []) [] drawn whole.components.found (whole.components.all ∙ ap (λ l. l ++ whole.components.found) (sym components))
          _ whole.instances.order 0 (omega arith)

      good_at : HasGoodArguments s.settings (with_named d root_name 0).graph root_name d.graph.next_instance
      good_at =
          subst (HasGoodArguments s.settings (with_named d root_name 0).graph root_name) (sym begun.next_instance)
          (arguments_as g (with_named d root_name 0).graph s.settings root_name 0 same (root_first _ whole.instances.order whole.arguments_good))

      some_at : ImportsSome (with_named d root_name 0).graph d.graph.next_instance
      some_at = subst (ImportsSome (with_named d root_name 0).graph) (sym begun.next_instance) (record { component = whole.root_imports.component; made_from = same ∙ whole.root_imports.made_from; some = whole.root_imports.some })

  pub can_begin : CanBegin
  can_begin = by (all_defined (begun rooted) (ap (λ c. c ∷ []) root_is) refl (length s.settings.definitions) (omega arith))
    where
      by : HasFront (begun rooted) (length s.settings.definitions) → CanBegin
      by h =
          begins h.new
          (record { shape = whole.components.of_root.shape; graph = rooted; rooted = record { bytes = whole.components.of_root.bytes; found = whole.components.root_file.found; shaped = whole.components.root_file.shaped; free = refl; added = refl }; defines = h.steps })
          (h.components ∙ ap (λ l. whole.components.of_root ∷ l) (take_all (length s.settings.definitions) whole.components.defined (let long = zip_long (IsOfDefinition s) s.settings.definitions whole.components.defined whole.components.definitions in omega arith)) ∙ sym whole.components.first_are)
