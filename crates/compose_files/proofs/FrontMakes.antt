-- In a front of the whole graph the instance of a name is there, or it can be made of the component that it has there.
use Rattle.std.proofs.Common.{◌≡◌, ℕ, ◌+◌, false, cond, List, [], ◌∷◌, ◌++◌, length, map, get_or, Option, Some, None, MatchOption, is_some, slice_get, refl, sym, ap, ◌∙◌, subst, bytes_eq, arith, append_assoc}
use Rattle.std.specs.List.{AllByRecursion, list_any}
use Rattle.std.specs.Map.{lookup}
use Rattle.std.proofs.lemmas.List.{append_cancel_left, map-append}
use Rattle.compose_config.specs.Plan.{Settings, dependency_name}
use Rattle.compose_graph.specs.Graph.{ComponentEntry, GraphTree, component_named, with_component}
use Rattle.compose_files.specs.Built.{Built, IsComponentFor, IsInstanceFor, IsNew, IsRead, Sources, file_for, with_graph, with_named}
use Rattle.compose_files.specs.Composed.{root_name}
use Rattle.compose_files.specs.Graph.{IsFound, IsGraphOf, Named, Origin, asked_names, component_names, each_once, is_origin, named_from}
use Rattle.compose_files.proofs.Drawn.{IsDrawn}
use Rattle.compose_files.proofs.Fronts.{all_middle, number_at, once_front}
use Rattle.compose_files.proofs.Once.{with_one}
use Rattle.compose_files.proofs.Origins.{asked_more, named_at, named_behind, same_name}
use Rattle.compose_files.proofs.Sourced.{there_by_number}
use Rattle.compose_files.proofs.SourcedByName.{names_more}

-- what comes next in a list
middle_at : {X : Type 0} (xs : List X) (x : X) (ys : List X) → slice_get (xs ++ x ∷ ys) (length xs) ≡ Some x
middle_at [] x ys = refl
middle_at (y ∷ xs) x ys = middle_at xs x ys

-- instances that come later ask for what comes later
asked_behind : (s : Settings) (first : List ℕ) (rest more : List Origin) → (later : List (List ℕ)) × (asked_names s ((Named first ∷ rest) ++ more) ≡ asked_names s (Named first ∷ rest) ++ later)
asked_behind s first rest more = (
  map (λ (i : List ℕ × ℕ). dependency_name s i.0) (named_from (1 + length rest) more),
  ap (map (λ (i : List ℕ × ℕ). dependency_name s i.0)) (named_behind 1 rest more) ∙ map-append (λ (i : List ℕ × ℕ). dependency_name s i.0) (named_from 1 rest) (named_from (1 + length rest) more),
)

module _ (root : List ℕ) (s : Sources) (g : GraphTree) (whole : IsGraphOf root s g) (b : Built) (origins : List Origin) (found : List ComponentEntry) (drawn : IsDrawn s whole.first b origins found)
    (later : List ComponentEntry) (components : g.components ≡ b.graph.components ++ later) (name : List ℕ) where
  abbrev wanted : List ℕ
  wanted = dependency_name s.settings name

  -- an instance of the name can be had, and what is built is still a front
  pub record CanBeHad : Type 0 where
    pub source : ℕ
    pub mid : Built
    pub is_instance : IsInstanceFor s name b (Some source) mid
    pub rest : List ComponentEntry
    pub all : g.components ≡ mid.graph.components ++ rest

  had_there : (id : ℕ) → lookup (λ k. bytes_eq name k) b.named ≡ Some id → CanBeHad
  had_there id is = record {
    source = id;
    mid = b;
    is_instance = subst (λ o. MatchOption o (IsNew s name b (Some id) b) (λ (i : ℕ). (Some id ≡ Some i) × (b ≡ b))) (sym is) (refl, refl);
    rest = later;
    all = components;
  }

  had_new : (component : ℕ) (new : GraphTree) → lookup (λ k. bytes_eq name k) b.named ≡ None → IsComponentFor s wanted b.graph (Some component) new → (rest : List ComponentEntry) → g.components ≡ new.components ++ rest → CanBeHad
  had_new component new is found rest all = record {
    source = new.next_instance;
    mid = with_named (with_graph b new) name component;
    is_instance =
        subst
        (λ o. MatchOption o (IsNew s name b (Some new.next_instance) (with_named (with_graph b new) name component)) (λ (i : ℕ). (Some new.next_instance ≡ Some i) × (with_named (with_graph b new) name component ≡ b)))
        (sym is) (record { component = Some component; graph = new; found = found; made = (refl, refl) });
    rest = rest;
    all = all;
  }

  -- the component is in the graph
  had_component : (x : ComponentEntry) → lookup (λ k. bytes_eq name k) b.named ≡ None → component_named b.graph.components wanted ≡ Some x → CanBeHad
  had_component x is there =
      had_new x.id b.graph is
      (subst (λ o. MatchOption o (IsRead s wanted b.graph (file_for s wanted) (Some x.id) b.graph) (λ (c : ComponentEntry). (Some x.id ≡ Some c.id) × (b.graph ≡ b.graph))) (sym there) (refl, refl))
      later components

  -- the component is the next one of the whole graph
  had_next : (x : ComponentEntry) (rest : List ComponentEntry) → later ≡ x ∷ rest → x.name ≡ wanted → lookup (λ k. bytes_eq name k) b.named ≡ None → component_named b.graph.components wanted ≡ None → CanBeHad
  had_next x rest next called is none = had_new b.graph.next_component (with_component b.graph wanted x.bytes x.shape) is read rest all
    where
      split : g.components ≡ b.graph.components ++ x ∷ rest
      split = components ∙ ap (λ l. b.graph.components ++ l) next

      others : whole.components.found ≡ found ++ x ∷ rest
      others =
          append_cancel_left whole.first whole.components.found (found ++ x ∷ rest)
          (sym whole.components.all ∙ split ∙ ap (λ l. l ++ x ∷ rest) drawn.parts.all ∙ append_assoc whole.first found (x ∷ rest))

      file : IsFound s x
      file = all_middle (IsFound s) found x rest (subst (AllByRecursion (IsFound s)) others whole.components.files)

      number : b.graph.next_component ≡ x.id
      number =
          let at : x.id ≡ 0 + length b.graph.components =
          number_at (λ (c : ComponentEntry). c.id) 0 (length b.graph.components) g.components x (length g.components) whole.components.numbers
          (ap (λ l. slice_get l (length b.graph.components)) split ∙ middle_at b.graph.components x rest) in
          let next = drawn.parts.next in
          omega arith

      entry : record { id = b.graph.next_component; name = dependency_name s.settings name; bytes = x.bytes; shape = x.shape } ≡ x
      entry = λ k. record { id = number k; name = sym called k; bytes = x.bytes; shape = x.shape }

      all : g.components ≡ (b.graph.components ++ record { id = b.graph.next_component; name = dependency_name s.settings name; bytes = x.bytes; shape = x.shape } ∷ []) ++ rest
      all = split ∙ ap (λ (c : ComponentEntry). b.graph.components ++ c ∷ rest) (sym entry) ∙ sym (append_assoc b.graph.components (_ ∷ []) rest)

      read : IsComponentFor s (dependency_name s.settings name) b.graph (Some b.graph.next_component) (with_component b.graph (dependency_name s.settings name) x.bytes x.shape)
      read =
          subst
          (λ o. MatchOption o (IsRead s wanted b.graph (file_for s wanted) (Some b.graph.next_component) (with_component b.graph wanted x.bytes x.shape))
          (λ (c : ComponentEntry). (Some b.graph.next_component ≡ Some c.id) × (with_component b.graph wanted x.bytes x.shape ≡ b.graph)))
          (sym none)
          (subst (λ o. IsRead s wanted b.graph o (Some b.graph.next_component) (with_component b.graph wanted x.bytes x.shape)) (sym (ap (file_for s) (sym called) ∙ file.file))
          (refl, (x.shape, record { bytes = x.bytes; found = file.of_file.found; shaped = file.of_file.shaped; free = none; added = refl })))

  -- it is had
  pub can_be_had : (more : List Origin) → whole.origins ≡ with_one is_origin origins (Named name) ++ more → CanBeHad
  can_be_had more front = by (lookup (λ k. bytes_eq name k) b.named) refl
    where
      unnamed : lookup (λ k. bytes_eq name k) b.named ≡ None → list_any (is_origin (Named name)) origins ≡ false
      unnamed is = there_by_number origins (Named name) None (sym (named_at name 0 origins) ∙ ap (lookup (λ k. bytes_eq name k)) (sym drawn.named) ∙ is)

      -- the names of the components that are still to come
      next_name : lookup (λ k. bytes_eq name k) b.named ≡ None → component_named b.graph.components (dependency_name s.settings name) ≡ None → (names : List (List ℕ)) × (component_names later ≡ dependency_name s.settings name ∷ names)
      next_name is none =
          let pushed : with_one is_origin origins (Named name) ≡ origins ++ Named name ∷ [] = ap (λ t. cond t origins (origins ++ Named name ∷ [])) (unnamed is) in
          let all_origins : whole.origins ≡ ((Named root_name ∷ drawn.rest) ++ Named name ∷ []) ++ more = front ∙ ap (λ l. l ++ more) (pushed ∙ ap (λ l. l ++ Named name ∷ []) drawn.begins) in
          let behind = asked_behind s.settings root_name (drawn.rest ++ Named name ∷ []) more in
          let asked : asked_names s.settings whole.origins ≡ (asked_names s.settings origins ++ wanted ∷ []) ++ behind.0 =
          ap (asked_names s.settings) all_origins ∙ behind.1 ∙ ap (λ l. l ++ behind.0) (asked_more s.settings root_name drawn.rest name ∙ ap (λ l. asked_names s.settings l ++ wanted ∷ []) (sym drawn.begins)) in
          let known : List (List ℕ) = component_names whole.first ++ asked_names s.settings origins in
          let ahead = once_front bytes_eq same_name (known ++ wanted ∷ []) behind.0 in
          let all : component_names g.components ≡ (component_names b.graph.components ++ wanted ∷ []) ++ ahead.0 =
          whole.components.order ∙ ap (λ l. each_once bytes_eq (component_names whole.first ++ l)) asked
          ∙ ap (each_once bytes_eq) (sym (append_assoc (component_names whole.first) (asked_names s.settings origins ++ wanted ∷ []) behind.0) ∙ ap (λ l. l ++ behind.0) (sym (append_assoc (component_names whole.first) (asked_names s.settings origins) (wanted ∷ []))))
          ∙ ahead.1 ∙ ap (λ l. l ++ ahead.0) (names_more s [] b.graph.components known wanted false drawn.names (ap is_some none)) in (
            ahead.0,
            append_cancel_left (component_names b.graph.components) (component_names later) (wanted ∷ ahead.0)
                (sym (map-append (λ (c : ComponentEntry). c.name) b.graph.components later) ∙ ap component_names (sym components) ∙ all ∙ append_assoc (component_names b.graph.components) (wanted ∷ []) ahead.0),
          )

      next : (l : List ComponentEntry) → later ≡ l → (names : List (List ℕ)) → component_names l ≡ dependency_name s.settings name ∷ names → lookup (λ k. bytes_eq name k) b.named ≡ None
          → component_named b.graph.components (dependency_name s.settings name) ≡ None → CanBeHad
      next [] e names h is none = absurd cc
      next (x ∷ rest) e names h is none = had_next x rest e (ap (λ l. get_or l 0 x.name) h) is none

      component : (c : Option ComponentEntry) → component_named b.graph.components (dependency_name s.settings name) ≡ c → lookup (λ k. bytes_eq name k) b.named ≡ None → CanBeHad
      component (Some x) there is = had_component x is there
      component None none is = let names = next_name is none in next later refl names.0 names.1 is none

      by : (o : Option ℕ) → lookup (λ k. bytes_eq name k) b.named ≡ o → CanBeHad
      by (Some id) is = had_there id is
      by None is = component (component_named b.graph.components (dependency_name s.settings name)) refl is
