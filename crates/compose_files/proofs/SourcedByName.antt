-- The instance of a name: it is there, or its component is found, and it is made; or there is no component for it.
use Rattle.std.proofs.Common.{◌≡◌, ℕ, ◌+◌, Bool, true, false, cond, ◌||◌, List, [], ◌∷◌, ◌++◌, length, Option, Some, None, MatchOption, is_some, option_map, refl, sym, ap, ◌∙◌, subst, bytes_eq, arith, append_assoc}
use Rattle.std.specs.List.{list_any}
use Rattle.std.specs.Map.{lookup}
use Rattle.std.specs.Option.{option_or}
use Rattle.std.proofs.lemmas.Bool.{false≢true, or_right, or_parts}
use Rattle.std.proofs.lemmas.Option.{same_Some}
use Rattle.std.proofs.lemmas.List.{append-nil, map-append}
use Rattle.std.proofs.lemmas.List.Folds.{find-append, list_any-append}
use Rattle.comp_entity.specs.Entity.{ShapeTree}
use Rattle.compose_config.specs.Plan.{dependency_name}
use Rattle.compose_graph.specs.Graph.{ComponentEntry, GraphTree, component_named, with_instance}
use Rattle.compose_files.specs.Built.{Built, IsAdded, IsComponentFor, IsInstanceFor, IsMade, IsNew, IsRead, Sources, file_for, with_graph, with_named}
use Rattle.compose_files.specs.Composed.{root_name}
use Rattle.compose_files.specs.Graph.{IsFound, Named, OfDefinition, Origin, asked_names, component_names, each_once, has_component, instance_for, is_origin, named_of}
use Rattle.compose_files.proofs.GraphKept.{Keeps, keeps_both, keeps_itself, with_component_keeps, with_instance_keeps}
use Rattle.compose_files.proofs.Drawn.{HasParts, IsDrawn, last_number, made_kept, made_more, parts_more}
use Rattle.compose_files.proofs.Once.{all_found, none_some, once_more, place_behind, with_one}
use Rattle.compose_files.proofs.Origins.{asked_more, name_is, named_at, named_more, same_name}
use Rattle.compose_files.proofs.Sourced.{IsSourced, sourced_there, there_by_number}

-- ---- components

-- a component of a name is in a graph, or is read into it
pub record IsResolved (s : Sources) (first : List ComponentEntry) (old : GraphTree) (asked : List (List ℕ)) (name : List ℕ) (id : ℕ) (new : GraphTree) : Type 0 where
  pub found : List ComponentEntry
  pub parts : HasParts s first new found
  pub names : component_names new.components ≡ each_once bytes_eq (asked ++ name ∷ [])
  pub more : List ComponentEntry
  pub components : new.components ≡ old.components ++ more
  pub number : option_map (λ (c : ComponentEntry). c.id) (component_named new.components name) ≡ Some id
  pub instances : new.instances ≡ old.instances
  pub connections : new.connections ≡ old.connections
  pub next : new.next_instance ≡ old.next_instance
  pub keeps : Keeps old new
  pub has : (is_some (component_named first name) || is_some (file_for s name)) ≡ true

-- a component of a name is there where the name is
pub name_there : (cs : List ComponentEntry) (name : List ℕ) → list_any (bytes_eq name) (component_names cs) ≡ is_some (component_named cs name)
name_there [] name = refl
name_there (c ∷ cs) name = by (bytes_eq name c.name) (name_there cs name)
  where
    by : (b : Bool) → list_any (bytes_eq name) (component_names cs) ≡ is_some (component_named cs name) → (b || list_any (bytes_eq name) (component_names cs)) ≡ is_some (cond b (Some c) (component_named cs name))
    by true later = refl
    by false later = later

module _ (s : Sources) (first : List ComponentEntry) where
  -- one name more
  pub names_more : (cs : List ComponentEntry) (asked : List (List ℕ)) (name : List ℕ) (there : Bool) → component_names cs ≡ each_once bytes_eq asked → is_some (component_named cs name) ≡ there
      → each_once bytes_eq (asked ++ name ∷ []) ≡ cond there (component_names cs) (component_names cs ++ name ∷ [])
  names_more cs asked name there names is =
      once_more bytes_eq same_name asked name ∙ ap (λ l. with_one bytes_eq l name) (sym names) ∙ ap (λ b. cond b (component_names cs) (component_names cs ++ name ∷ [])) (name_there cs name ∙ is)

  resolved_there : (g : GraphTree) (found : List ComponentEntry) (asked : List (List ℕ)) (name : List ℕ) (c : ComponentEntry) → HasParts s first g found
      → component_names g.components ≡ each_once bytes_eq asked → component_named g.components name ≡ Some c → IsResolved s first g asked name c.id g
  resolved_there g found asked name c parts names there = record {
    found = found;
    parts = parts;
    names = sym (names_more g.components asked name true names (ap is_some there));
    more = [];
    components = sym (append-nil g.components);
    number = ap (option_map (λ (c : ComponentEntry). c.id)) there;
    instances = refl;
    connections = refl;
    next = refl;
    keeps = keeps_itself g;
    has = by (component_named first name) (sym (find-append (λ (c : ComponentEntry). bytes_eq name c.name) first found) ∙ ap (λ cs. component_named cs name) (sym parts.all) ∙ there);
  }
    where
      by : (a : Option ComponentEntry) → option_or a (component_named found name) ≡ Some c → (is_some a || is_some (file_for s name)) ≡ true
      by (Some a) h = refl
      by None h =
          let at = all_found (IsFound s) (λ (c : ComponentEntry). bytes_eq name c.name) found c h parts.files in
          ap is_some (ap (file_for s) (same_name name c.name at.1) ∙ at.0.file)

  resolved_read : (g : GraphTree) (found : List ComponentEntry) (asked : List (List ℕ)) (name path : List ℕ) (shape : ShapeTree) (new : GraphTree) → HasParts s first g found
      → component_names g.components ≡ each_once bytes_eq asked → component_named g.components name ≡ None → file_for s name ≡ Some path → IsAdded s.files path name shape g new
      → IsResolved s first g asked name g.next_component new
  resolved_read g found asked name path shape new parts names none file added = subst (IsResolved s first g asked name g.next_component) (sym added.added) (record {
    found = found ++ c ∷ [];
    parts = parts_more s first found g name added.bytes shape parts (record { path = path; file = file; of_file = record { found = added.found; shaped = added.shaped } });
    names = map-append (λ (c : ComponentEntry). c.name) g.components (c ∷ []) ∙ sym (names_more g.components asked name false names (ap is_some none));
    more = c ∷ [];
    components = refl;
    number =
        ap (option_map (λ (c : ComponentEntry). c.id))
        (find-append (λ (c : ComponentEntry). bytes_eq name c.name) g.components (c ∷ []) ∙ ap (λ o. option_or o (component_named (c ∷ []) name)) none ∙ ap (λ b. cond b (Some c) None) (name_is name));
    instances = refl;
    connections = refl;
    next = refl;
    keeps = with_component_keeps g name added.bytes shape;
    has = or_right (is_some (component_named first name)) (is_some (file_for s name)) (ap is_some file);
  })
    where
      c : ComponentEntry
      c = record { id = g.next_component; name = name; bytes = added.bytes; shape = shape }

  pub resolved : (g : GraphTree) (found : List ComponentEntry) (asked : List (List ℕ)) (name : List ℕ) (id : ℕ) (new : GraphTree) → HasParts s first g found
      → component_names g.components ≡ each_once bytes_eq asked → IsComponentFor s name g (Some id) new → IsResolved s first g asked name id new
  resolved g found asked name id new parts names h = by (component_named g.components name) refl h
    where
      read : (file : Option (List ℕ)) → file_for s name ≡ file → component_named g.components name ≡ None → IsRead s name g file (Some id) new → IsResolved s first g asked name id new
      read None is none h = absurd (none_some id h.0)
      read (Some path) is none h =
          subst (λ n. IsResolved s first g asked name n new) (sym (same_Some id g.next_component h.0)) (resolved_read g found asked name path h.1.0 new parts names none is h.1.1)

      by : (o : Option ComponentEntry) → component_named g.components name ≡ o → MatchOption o (IsRead s name g (file_for s name) (Some id) new) (λ (c : ComponentEntry). (Some id ≡ Some c.id) × (new ≡ g)) → IsResolved s first g asked name id new
      by None is h = read (file_for s name) refl is h
      by (Some c) is h =
          subst (IsResolved s first g asked name id) (sym h.1)
          (subst (λ n. IsResolved s first g asked name n g) (sym (same_Some id c.id h.0)) (resolved_there g found asked name c parts names is))

  -- there is no component of a name, and nothing is done
  pub record IsNowhere (g : GraphTree) (name : List ℕ) (new : GraphTree) : Type 0 where
    pub unnamed : component_named g.components name ≡ None
    pub no_file : file_for s name ≡ None
    pub same : new ≡ g

  pub nowhere : (g : GraphTree) (name : List ℕ) (new : GraphTree) → IsComponentFor s name g None new → IsNowhere g name new
  nowhere g name new h = by (component_named g.components name) refl h
    where
      read : (file : Option (List ℕ)) → file_for s name ≡ file → component_named g.components name ≡ None → IsRead s name g file None new → IsNowhere g name new
      read None is none h = record { unnamed = none; no_file = is; same = h.1 }
      read (Some path) is none h = absurd (none_some g.next_component (sym h.0))

      by : (o : Option ComponentEntry) → component_named g.components name ≡ o → MatchOption o (IsRead s name g (file_for s name) None new) (λ (c : ComponentEntry). (None ≡ Some c.id) × (new ≡ g)) → IsNowhere g name new
      by None is h = read (file_for s name) refl is h
      by (Some c) is h = absurd (none_some c.id (sym h.0))

  -- ---- instances

  module _ (b : Built) (origins : List Origin) (found : List ComponentEntry) (h : IsDrawn s first b origins found) (name : List ℕ) where
    abbrev wanted : List ℕ
    wanted = dependency_name s.settings name

    -- a name that no instance has is not the root's
    pub not_root : list_any (is_origin (Named name)) origins ≡ false → bytes_eq name root_name ≡ false
    not_root new = (or_parts (bytes_eq name root_name) (list_any (is_origin (Named name)) h.rest) (ap (list_any (is_origin (Named name))) (sym h.begins) ∙ new)).0

    named_drawn : (component : ℕ) (g : GraphTree) → list_any (is_origin (Named name)) origins ≡ false → (r : IsResolved s first b.graph (component_names first ++ asked_names s.settings origins) wanted component g)
        → IsDrawn s first (with_named (with_graph b g) name component) (origins ++ Named name ∷ []) r.found
    named_drawn component g new r = record {
      parts = record { all = r.parts.all; files = r.parts.files; numbers = r.parts.numbers; next = r.parts.next };
      instances =
          made_more s g origins (Named name) component (made_kept s b.graph g origins r.more r.components r.instances r.next h.instances)
          (ap (λ t. cond t (Some 0) (option_map (λ (c : ComponentEntry). c.id) (component_named g.components wanted))) (not_root new) ∙ r.number);
      names = r.names ∙ ap (each_once bytes_eq) (append_assoc (component_names first) (asked_names s.settings origins) (wanted ∷ []) ∙ ap (λ l. component_names first ++ l) (sym asked));
      named = ap (λ l. l ++ (name, g.next_instance) ∷ []) h.named ∙ ap (λ n. named_of origins ++ (name, n) ∷ []) (r.next ∙ h.instances.next ∙ at_end) ∙ sym (named_more 0 origins name);
      made = λ c. h.made c ∙ other (instance_for origins (OfDefinition c)) ∙ sym (place_behind (is_origin (OfDefinition c)) 0 origins (Named name));
      offers = h.offers;
      known = λ other is. known other is;
      rest = h.rest ++ Named name ∷ [];
      begins = ap (λ l. l ++ Named name ∷ []) h.begins;
    }
      where
        asked : asked_names s.settings (origins ++ Named name ∷ []) ≡ asked_names s.settings origins ++ wanted ∷ []
        asked =
            ap (λ l. asked_names s.settings (l ++ Named name ∷ [])) h.begins ∙ asked_more s.settings root_name h.rest name
            ∙ ap (λ l. asked_names s.settings l ++ wanted ∷ []) (sym h.begins)

        at_end : length origins ≡ 0 + length origins
        at_end = omega arith

        other : (p : Option ℕ) → p ≡ option_or p None
        other None = refl
        other (Some x) = refl

        has : has_component s first name ≡ true
        has = or_right (bytes_eq name root_name) (is_some (component_named first wanted) || is_some (file_for s wanted)) r.has

        known : (a : List ℕ) → list_any (is_origin (Named a)) (origins ++ Named name ∷ []) ≡ true → has_component s first a ≡ true
        known a is = by (bytes_eq a name) refl (list_any (is_origin (Named a)) origins) refl (sym (list_any-append (is_origin (Named a)) origins (Named name ∷ [])) ∙ is)
          where
            by : (t : Bool) → bytes_eq a name ≡ t → (u : Bool) → list_any (is_origin (Named a)) origins ≡ u → (u || (t || false)) ≡ true → has_component s first a ≡ true
            by true e u f i = subst (λ n. has_component s first n ≡ true) (sym (same_name a name e)) has
            by false e true f i = h.known a f
            by false e false f i = absurd (false≢true i)

    -- an instance is there or is made
    pub name_sourced : (source : ℕ) (new : Built) → IsInstanceFor s name b (Some source) new → (has_component s first name ≡ true) × IsSourced s first b origins (Named name) source new
    name_sourced source new is = by (lookup (λ k. bytes_eq name k) b.named) refl is
      where
        number : (o : Option ℕ) → lookup (λ k. bytes_eq name k) b.named ≡ o → instance_for origins (Named name) ≡ o
        number o e = sym (named_at name 0 origins) ∙ ap (lookup (λ k. bytes_eq name k)) (sym h.named) ∙ e

        made : (component : Option ℕ) (g : GraphTree) → list_any (is_origin (Named name)) origins ≡ false → IsComponentFor s wanted b.graph component g → IsMade (with_graph b g) name component (Some source) new
            → (has_component s first name ≡ true) × IsSourced s first b origins (Named name) source new
        made None g unnamed found m = absurd (none_some source m.0)
        made (Some component) g unnamed is_found m = (
          or_right (bytes_eq name root_name) (is_some (component_named first wanted) || is_some (file_for s wanted)) r.has,
          subst (IsSourced s first b origins (Named name) source) (sym m.1) (record {
            found = r.found;
            drawn = subst (λ l. IsDrawn s first (with_named (with_graph b g) name component) l r.found) (sym pushed) (named_drawn component g unnamed r);
            number = ap (λ l. instance_for l (Named name)) pushed ∙ last_number origins (Named name) unnamed ∙ ap Some (sym (r.next ∙ h.instances.next)) ∙ sym m.0;
            keeps = keeps_both b.graph g (with_instance g component) r.keeps (with_instance_keeps g component);
            connections = r.connections;
          }),
        )
          where
            r : IsResolved s first b.graph (component_names first ++ asked_names s.settings origins) wanted component g
            r = resolved b.graph found (component_names first ++ asked_names s.settings origins) wanted component g h.parts h.names is_found

            pushed : with_one is_origin origins (Named name) ≡ origins ++ Named name ∷ []
            pushed = ap (λ t. cond t origins (origins ++ Named name ∷ [])) unnamed

        by : (o : Option ℕ) → lookup (λ k. bytes_eq name k) b.named ≡ o → MatchOption o (IsNew s name b (Some source) new) (λ (id : ℕ). (Some source ≡ Some id) × (new ≡ b))
            → (has_component s first name ≡ true) × IsSourced s first b origins (Named name) source new
        by None e n = made n.component n.graph (there_by_number origins (Named name) None (number None e)) n.found n.made
        by (Some id) e n = (
          h.known name (there_by_number origins (Named name) (Some id) (number (Some id) e)),
          subst (IsSourced s first b origins (Named name) source) (sym n.1) (sourced_there s first b origins found (Named name) source h (number (Some id) e ∙ sym n.0)),
        )

    -- there is no component, and nothing is done
    pub name_unsourced : (new : Built) → IsInstanceFor s name b None new → (has_component s first name ≡ false) × (new ≡ b)
    name_unsourced new is = by (lookup (λ k. bytes_eq name k) b.named) refl is
      where
        made : (component : Option ℕ) (g : GraphTree) → list_any (is_origin (Named name)) origins ≡ false → IsComponentFor s wanted b.graph component g → IsMade (with_graph b g) name component None new
            → (has_component s first name ≡ false) × (new ≡ b)
        made (Some component) g unnamed found m = absurd (none_some g.next_instance (sym m.0))
        made None g unnamed is_found m = (
          ap (λ t. t || (is_some (component_named first wanted) || is_some (file_for s wanted))) (not_root unnamed)
              ∙ ap (λ o. is_some o || is_some (file_for s wanted)) (front (component_named first wanted) (sym (find-append (λ (c : ComponentEntry). bytes_eq wanted c.name) first found) ∙ ap (λ cs. component_named cs wanted) (sym h.parts.all) ∙ r.unnamed))
              ∙ ap is_some r.no_file,
          m.1 ∙ ap (with_graph b) r.same,
        )
          where
            r : IsNowhere b.graph wanted g
            r = nowhere b.graph wanted g is_found

            front : (a : Option ComponentEntry) → option_or a (component_named found wanted) ≡ None → a ≡ None
            front None h = refl
            front (Some x) h = absurd (none_some x h)

        by : (o : Option ℕ) → lookup (λ k. bytes_eq name k) b.named ≡ o → MatchOption o (IsNew s name b None new) (λ (id : ℕ). (None ≡ Some id) × (new ≡ b)) → (has_component s first name ≡ false) × (new ≡ b)
        by (Some id) e n = absurd (none_some id (sym n.0))
        by None e n = made n.component n.graph (there_by_number origins (Named name) None (sym (named_at name 0 origins) ∙ ap (lookup (λ k. bytes_eq name k)) (sym h.named) ∙ e)) n.found n.made
