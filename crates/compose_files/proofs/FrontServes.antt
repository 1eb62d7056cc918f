-- A front of the whole graph is served its next import as that is served there, and is a front still.
use Rattle.std.proofs.Common.{◌≡◌, ◌<◌, ℕ, Bool, true, false, cond, ◌||◌, List, [], ◌∷◌, ◌++◌, length, Option, Some, None, MatchOption, is_some, refl, sym, ap, ◌∙◌, subst, bytes_eq, append_assoc}
use Rattle.std.specs.Prelude.{filter_map}
use Rattle.std.specs.List.{AllByRecursion, AllZip, cons_option}
use Rattle.std.specs.Map.{lookup}
use Rattle.std.specs.Option.{option_or}
use Rattle.std.proofs.lemmas.Bool.{false≢true, or_parts}
use Rattle.std.proofs.lemmas.Option.{same_Some}
use Rattle.std.proofs.lemmas.List.Elements.{filter_map-append}
use Rattle.std.proofs.lemmas.List.Folds.{find-append}
use Rattle.compose_config.specs.Plan.{dependency_name}
use Rattle.compose_graph.specs.Graph.{ComponentEntry, GraphTree, component_named, with_connection}
use Rattle.compose_graph.specs.declared.connection.Connection.{Connection}
use Rattle.compose_files.specs.Built.{Built, HasGoodArguments, IsChosen, IsComponentFor, IsConnected, IsNew, IsOffered, IsRead, IsServed, Need, Serves, Sources, connection, file_for, instance_of, taken, with_graph, with_instance_of, with_made}
use Rattle.compose_files.specs.Composed.{root_name}
use Rattle.compose_files.specs.Graph.{IsExportFor, IsFound, IsGiven, IsGraphOf, IsServedFrom, IsServing, MayBeLeft, Named, OfDefinition, Origin, each_once, has_component, is_origin, named_of, needs, offered, source_by, source_of}
use Rattle.compose_files.specs.declared.offer.Offer.{Offer}
use Rattle.compose_files.proofs.Drawn.{IsDrawn, IsWired}
use Rattle.compose_files.proofs.Front.{origins_front}
use Rattle.compose_files.proofs.FrontConnects.{IsConnecting, IsOther, arguments_as, chosen_as, connecting}
use Rattle.compose_files.proofs.FrontMakes.{CanBeHad, can_be_had}
use Rattle.compose_files.proofs.Fronts.{zip_middle}
use Rattle.compose_files.proofs.Once.{all_found, none_some, once_more, with_one}
use Rattle.compose_files.proofs.Origins.{named_at, same_name, same_origin}
use Rattle.compose_files.proofs.Sourced.{IsSourced, definition_sourced, there_by_number}
use Rattle.compose_files.proofs.SourcedByName.{name_sourced}

-- what is looked up in a list of pairs holds what each of them holds
looked_up : (P : List ℕ × ℕ → Type 0) (name : List ℕ) (id : ℕ) (xs : List (List ℕ × ℕ)) → lookup (λ k. bytes_eq name k) xs ≡ Some id → AllByRecursion P xs → P (name, id)
looked_up P name id [] h all = absurd (none_some id (sym h))
looked_up P name id (x ∷ xs) h all = by (bytes_eq name x.0) refl h (λ later. looked_up P name id xs later all.1)
  where
    by : (b : Bool) → bytes_eq name x.0 ≡ b → cond b (Some x.1) (lookup (λ k. bytes_eq name k) xs) ≡ Some id → (lookup (λ k. bytes_eq name k) xs ≡ Some id → P (name, id)) → P (name, id)
    by true e h later = subst P (λ k. (sym (same_name name x.0 e) k, same_Some x.1 id h k)) all.0
    by false e h later = later h

module _ (root : List ℕ) (s : Sources) (g : GraphTree) (whole : IsGraphOf root s g) (b : Built) (origins : List Origin) (found : List ComponentEntry) (done : List Need) (drawn : IsDrawn s whole.first b origins found)
    (wired : IsWired s whole.first b origins done) (later : List ComponentEntry) (components : g.components ≡ b.graph.components ++ later) (need : Need) (rest : List Need) (split : needs g whole.origins ≡ done ++ need ∷ rest)
    (below : need.target < length origins) (fresh : AllByRecursion (IsOther need) done) where
  -- an import is served, and what is built is a front still
  pub record CanBeServed : Type 0 where
    pub new : Built
    pub serves : Serves s need b new
    pub after : List ComponentEntry
    pub all : g.components ≡ new.graph.components ++ after

  -- the instances, with the one that the import is given, are a front
  front_by : (o : Origin) → source_of s whole.first need ≡ Some o → (more : List Origin) × (whole.origins ≡ with_one is_origin origins o ++ more)
  front_by o is =
      origins_front root s g whole (with_one is_origin origins o) (done ++ need ∷ []) rest
      (ap (λ l. with_one is_origin l o) wired.order ∙ sym (once_more is_origin same_origin (Named root_name ∷ filter_map (source_of s whole.first) done) o)
      ∙ ap (λ l. each_once is_origin (Named root_name ∷ l)) (sym (filter_map-append (source_of s whole.first) done (need ∷ []) ∙ ap (λ a. filter_map (source_of s whole.first) done ++ cons_option a []) is)))
      (split ∙ sym (append_assoc done (need ∷ []) rest))

  -- by what a definition has
  offered_served : (o : Offer) → offered whole.first need ≡ Some o → (c : Connection) → IsGiven s g whole.origins whole.first need (OfDefinition o.component) c → CanBeServed
  offered_served o is c given = record {
    new = with_graph (with_instance_of b o.component) (with_connection (with_instance_of b o.component).graph (connection (instance_of b o.component) (Some o.export) need));
    serves =
        subst
        (λ p. MatchOption p (IsServed s need (taken s.settings need) b (with_graph (with_instance_of b o.component) (with_connection (with_instance_of b o.component).graph (connection (instance_of b o.component) (Some o.export) need))))
        (λ (p : Offer). IsOffered need p b (with_graph (with_instance_of b o.component) (with_connection (with_instance_of b o.component).graph (connection (instance_of b o.component) (Some o.export) need)))))
        (sym (drawn.offers need.name ∙ is))
        (subst
        (λ e. IsConnected (instance_of b o.component) e need (with_instance_of b o.component) (with_graph (with_instance_of b o.component) (with_connection (with_instance_of b o.component).graph (connection (instance_of b o.component) e need))))
        (subst (λ p. IsExportFor s g need p c) is given.export) connected);
    after = later;
    all = all;
  }
    where
      front : (more : List Origin) × (whole.origins ≡ with_one is_origin origins (OfDefinition o.component) ++ more)
      front = front_by (OfDefinition o.component) (ap (source_by s whole.first need) is)

      same : (t : Bool) → (cond t b (with_made b o.component)).graph.components ≡ b.graph.components
      same true = refl
      same false = refl

      all : g.components ≡ (with_instance_of b o.component).graph.components ++ later
      all = components ∙ ap (λ l. l ++ later) (sym (same (is_some (b.made o.component))))

      connected : IsConnected (instance_of b o.component) c.export need (with_instance_of b o.component) (with_graph (with_instance_of b o.component) (with_connection (with_instance_of b o.component).graph (connection (instance_of b o.component) c.export need)))
      connected =
          let front = front_by (OfDefinition o.component) (ap (source_by s whole.first need) is) in
          (connecting root s g whole b origins done wired need below fresh (OfDefinition o.component) (instance_of b o.component) (with_instance_of b o.component) (definition_sourced s whole.first b origins found o.component drawn)
          later (components ∙ ap (λ l. l ++ later) (sym (same (is_some (b.made o.component))))) front.0 front.1 c given).connects

  -- by the instance that it takes
  named_served : offered whole.first need ≡ None → has_component s whole.first (taken s.settings need).instance ≡ true → (c : Connection) → IsGiven s g whole.origins whole.first need (Named (taken s.settings need).instance) c → CanBeServed
  named_served none has c given = by (can_be_had root s g whole b origins found drawn later components (taken s.settings need).instance front.0 front.1)
    where
      is_source : source_of s whole.first need ≡ Some (Named (taken s.settings need).instance)
      is_source = ap (source_by s whole.first need) none ∙ ap (λ t. cond t (Some (Named (taken s.settings need).instance)) None) has

      front : (more : List Origin) × (whole.origins ≡ with_one is_origin origins (Named (taken s.settings need).instance) ++ more)
      front = front_by (Named (taken s.settings need).instance) (ap (source_by s whole.first need) none ∙ ap (λ t. cond t (Some (Named (taken s.settings need).instance)) None) has)

      by : CanBeHad root s g whole b origins found drawn later components (taken s.settings need).instance → CanBeServed
      by h = record {
        new = with_graph h.mid (with_connection h.mid.graph (connection h.source c.export need));
        serves =
            subst
            (λ p. MatchOption p (IsServed s need (taken s.settings need) b (with_graph h.mid (with_connection h.mid.graph (connection h.source c.export need))))
            (λ (p : Offer). IsOffered need p b (with_graph h.mid (with_connection h.mid.graph (connection h.source c.export need)))))
            (sym (drawn.offers need.name ∙ none)) (record {
              source = Some h.source;
              with_source = h.mid;
              found = h.is_instance;
              served = record { export = c.export; chosen = chosen; given = all.connects; arguments_good = λ new. arguments };
            });
        after = h.rest;
        all = h.all;
      }
        where
          sourced : IsSourced s whole.first b origins (Named (taken s.settings need).instance) h.source h.mid
          sourced = (name_sourced s whole.first b origins found drawn (taken s.settings need).instance h.source h.mid h.is_instance).1

          all : IsConnecting g whole.origins origins need (Named (taken s.settings need).instance) h.source h.mid c
          all =
              let front = front_by (Named (taken s.settings need).instance) is_source in
              connecting root s g whole b origins done wired need below fresh (Named (taken s.settings need).instance) h.source h.mid sourced h.rest h.all front.0 front.1 c given

          chosen : IsChosen h.mid.graph h.source need (taken s.settings need).export c.export
          chosen =
              chosen_as g h.mid.graph h.source need (taken s.settings need).export c.export all.source_same all.target_same
              (subst (λ n. IsChosen g n need (taken s.settings need).export c.export) all.source_is (subst (λ p. IsExportFor s g need p c) none given.export))

          arguments : HasGoodArguments s.settings (with_connection h.mid.graph (connection h.source c.export need)) (taken s.settings need).instance h.source
          arguments =
              arguments_as g (with_connection h.mid.graph (connection h.source c.export need)) s.settings (taken s.settings need).instance h.source all.source_same
              (looked_up (λ (i : List ℕ × ℕ). HasGoodArguments s.settings g i.0 i.1) (taken s.settings need).instance h.source (named_of whole.origins) (named_at (taken s.settings need).instance 0 whole.origins ∙ all.everywhere) whole.arguments_good)

  -- by nothing
  left_served : offered whole.first need ≡ None → has_component s whole.first (taken s.settings need).instance ≡ false → MayBeLeft s.settings need → CanBeServed
  left_served none lacks left = record {
    new = b;
    serves = subst (λ p. MatchOption p (IsServed s need (taken s.settings need) b b) (λ (p : Offer). IsOffered need p b b)) (sym (drawn.offers need.name ∙ none)) (record {
      source = None;
      with_source = b;
      found = by (lookup (λ k. bytes_eq (taken s.settings need).instance k) b.named) refl;
      served = record { allowed = left.allowed; no_export = left.no_export; unchanged = refl };
    });
    after = later;
    all = components;
  }
    where
      parts : (is_some (component_named whole.first (dependency_name s.settings (taken s.settings need).instance)) ≡ false) × (is_some (file_for s (dependency_name s.settings (taken s.settings need).instance)) ≡ false)
      parts =
          or_parts (is_some (component_named whole.first (dependency_name s.settings (taken s.settings need).instance))) (is_some (file_for s (dependency_name s.settings (taken s.settings need).instance)))
          (or_parts (bytes_eq (taken s.settings need).instance root_name)
          (is_some (component_named whole.first (dependency_name s.settings (taken s.settings need).instance)) || is_some (file_for s (dependency_name s.settings (taken s.settings need).instance))) lacks).1

      nothing : {A : Type 0} (o : Option A) → is_some o ≡ false → o ≡ None
      nothing None h = refl
      nothing (Some x) h = absurd (false≢true (sym h))

      no_file : file_for s (dependency_name s.settings (taken s.settings need).instance) ≡ None
      no_file = nothing (file_for s (dependency_name s.settings (taken s.settings need).instance)) parts.1

      others : (o : Option ComponentEntry) → component_named found (dependency_name s.settings (taken s.settings need).instance) ≡ o → o ≡ None
      others None is = refl
      others (Some c) is =
          let at = all_found (IsFound s) (λ (c : ComponentEntry). bytes_eq (dependency_name s.settings (taken s.settings need).instance) c.name) found c is drawn.parts.files in
          absurd (none_some at.0.path (sym at.0.file ∙ ap (file_for s) (sym (same_name (dependency_name s.settings (taken s.settings need).instance) c.name at.1)) ∙ no_file))

      unnamed : component_named b.graph.components (dependency_name s.settings (taken s.settings need).instance) ≡ None
      unnamed =
          ap (λ cs. component_named cs (dependency_name s.settings (taken s.settings need).instance)) drawn.parts.all
          ∙ find-append (λ (c : ComponentEntry). bytes_eq (dependency_name s.settings (taken s.settings need).instance) c.name) whole.first found
          ∙ ap (λ o. option_or o (component_named found (dependency_name s.settings (taken s.settings need).instance))) (nothing (component_named whole.first (dependency_name s.settings (taken s.settings need).instance)) parts.0)
          ∙ others (component_named found (dependency_name s.settings (taken s.settings need).instance)) refl

      nowhere : IsComponentFor s (dependency_name s.settings (taken s.settings need).instance) b.graph None b.graph
      nowhere =
          subst
          (λ o. MatchOption o (IsRead s (dependency_name s.settings (taken s.settings need).instance) b.graph (file_for s (dependency_name s.settings (taken s.settings need).instance)) None b.graph) (λ (c : ComponentEntry). (None ≡ Some c.id) × (b.graph ≡ b.graph)))
          (sym unnamed)
          (subst (λ o. IsRead s (dependency_name s.settings (taken s.settings need).instance) b.graph o None b.graph) (sym no_file) (refl, refl))

      by : (o : Option ℕ) → lookup (λ k. bytes_eq (taken s.settings need).instance k) b.named ≡ o → MatchOption o (IsNew s (taken s.settings need).instance b None b) (λ (id : ℕ). (None ≡ Some id) × (b ≡ b))
      by None is = record { component = None; graph = b.graph; found = nowhere; made = (refl, refl) }
      by (Some id) is =
          let there = there_by_number origins (Named (taken s.settings need).instance) (Some id) (sym (named_at (taken s.settings need).instance 0 origins) ∙ ap (lookup (λ k. bytes_eq (taken s.settings need).instance k)) (sym drawn.named) ∙ is) in
          absurd (false≢true (sym lacks ∙ drawn.known (taken s.settings need).instance there))

  pub can_be_served : CanBeServed
  can_be_served = by (offered whole.first need) refl answer.0 answer.1
    where
      answer : (c : Option Connection) × IsServing s g whole.origins whole.first need c
      answer = zip_middle (IsServing s g whole.origins whole.first) done need rest whole.connections.given (subst (λ l. AllZip (IsServing s g whole.origins whole.first) l whole.connections.given) split whole.connections.each)

      by_name : offered whole.first need ≡ None → (t : Bool) → has_component s whole.first (taken s.settings need).instance ≡ t → (c : Option Connection)
          → IsServedFrom s g whole.origins whole.first need (cond t (Some (Named (taken s.settings need).instance)) None) c → CanBeServed
      by_name none true has None h = absurd h
      by_name none true has (Some c) h = named_served none has c h
      by_name none false has None h = left_served none has h
      by_name none false has (Some c) h = absurd h

      by : (o : Option Offer) → offered whole.first need ≡ o → (c : Option Connection) → IsServedFrom s g whole.origins whole.first need (source_by s whole.first need o) c → CanBeServed
      by (Some o) is None h = absurd h
      by (Some o) is (Some c) h = offered_served o is c h
      by None is c h = by_name is (has_component s whole.first (taken s.settings need).instance) refl c h
