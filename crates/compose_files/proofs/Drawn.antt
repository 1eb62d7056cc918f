-- What holds of all that is built so far: of its components and instances, and of the imports that were served.
use Rattle.std.proofs.Common.{◌≡◌, ◌<◌, ◌⊎◌, inl, inr, ℕ, suc, ◌+◌, Bool, true, false, cond, List, [], ◌∷◌, ◌++◌, length, map, drop, Option, Some, None, is_some, option_map, refl, sym, ap, ◌∙◌, subst, bytes_eq, arith, append_assoc}
use Rattle.std.specs.Prelude.{filter_map}
use Rattle.std.specs.List.{AllByRecursion, AllZip, list_any, position_from, range_with_len}
use Rattle.std.specs.Option.{option_or}
use Rattle.std.proofs.lemmas.Bool.{false≢true}
use Rattle.std.proofs.lemmas.Option.{same_Some}
use Rattle.std.proofs.lemmas.List.{map-append}
use Rattle.std.proofs.lemmas.List.Folds.{find-append}
use Rattle.comp_entity.specs.Entity.{ShapeTree}
use Rattle.compose_config.specs.Plan.{Settings, dependency_name}
use Rattle.compose_graph.specs.Graph.{ComponentEntry, GraphTree, InstanceEntry, component_named, with_component, with_instance}
use Rattle.compose_graph.specs.declared.connection.Connection.{Connection}
use Rattle.compose_files.specs.Built.{Built, HasGoodArguments, Need, Sources}
use Rattle.compose_files.specs.Composed.{root_name}
use Rattle.compose_files.specs.Graph.{IsFound, IsInstanceOf, IsReached, IsServing, Named, OfDefinition, Origin, asked_names, component_names, component_number, each_once, first_offer, has_component, instance_for, is_origin, named_of, source_of}
use Rattle.compose_files.proofs.Once.{all_more, length_more, none_some, numbers_more, place_behind, place_there, with_one, zip_more, zip_weaker}
use Rattle.compose_files.proofs.Origins.{origin_is}

-- the components of a graph: some are first, and others were found
pub record HasParts (s : Sources) (first : List ComponentEntry) (g : GraphTree) (found : List ComponentEntry) : Type 0 where
  pub all : g.components ≡ first ++ found
  pub files : AllByRecursion (IsFound s) found
  pub numbers : map (λ (c : ComponentEntry). c.id) g.components ≡ range_with_len 0 (length g.components)
  pub next : g.next_component ≡ length g.components

-- the instances of a graph, which are for these
pub record HasMade (s : Sources) (g : GraphTree) (origins : List Origin) : Type 0 where
  pub components : AllZip (IsInstanceOf s.settings g.components) origins g.instances
  pub numbers : map (λ (i : InstanceEntry). i.id) g.instances ≡ range_with_len 0 (length origins)
  pub next : g.next_instance ≡ length origins

-- what is built has these components and instances
pub record IsDrawn (s : Sources) (first : List ComponentEntry) (b : Built) (origins : List Origin) (found : List ComponentEntry) : Type 0 where
  pub parts : HasParts s first b.graph found
  pub instances : HasMade s b.graph origins
  pub names : component_names b.graph.components ≡ each_once bytes_eq (component_names first ++ asked_names s.settings origins)
  pub named : b.named ≡ named_of origins
  pub made : (c : ℕ) → b.made c ≡ instance_for origins (OfDefinition c)
  pub offers : (name : List ℕ) → b.offers name ≡ first_offer (drop 1 first) name
  pub known : (name : List ℕ) → list_any (is_origin (Named name)) origins ≡ true → has_component s first name ≡ true
  pub rest : List Origin
  pub begins : origins ≡ Named root_name ∷ rest

-- what is built is wired as these imports are served
pub record IsWired (s : Sources) (first : List ComponentEntry) (b : Built) (origins : List Origin) (done : List Need) : Type 0 where
  pub given : List (Option Connection)
  pub order : origins ≡ each_once is_origin (Named root_name ∷ filter_map (source_of s first) done)
  pub reached : (n : ℕ) → 0 < n → n < length origins → IsReached b.graph n
  pub each : AllZip (IsServing s b.graph origins first) done given
  pub connections : b.graph.connections ≡ filter_map (λ c. c) given
  pub arguments_good : AllByRecursion (λ (i : List ℕ × ℕ). HasGoodArguments s.settings b.graph i.0 i.1) (named_of origins)

-- ---- one origin more

-- it is there, or it goes last
pub one_more : (origins : List Origin) (o : Origin) → ((list_any (is_origin o) origins ≡ true) × (with_one is_origin origins o ≡ origins)) ⊎ ((list_any (is_origin o) origins ≡ false) × (with_one is_origin origins o ≡ origins ++ o ∷ []))
one_more origins o = by (list_any (is_origin o) origins) refl
  where
    by : (b : Bool) → list_any (is_origin o) origins ≡ b → ((b ≡ true) × (cond b origins (origins ++ o ∷ []) ≡ origins)) ⊎ ((b ≡ false) × (cond b origins (origins ++ o ∷ []) ≡ origins ++ o ∷ []))
    by true e = inl (refl, refl)
    by false e = inr (refl, refl)

-- its number, where it is new
pub last_number : (origins : List Origin) (o : Origin) → list_any (is_origin o) origins ≡ false → instance_for (origins ++ o ∷ []) o ≡ Some (length origins)
last_number origins o new = place_behind (is_origin o) 0 origins o ∙ by (position_from (is_origin o) 0 origins) (place_there (is_origin o) 0 origins ∙ new)
  where
    by : (p : Option ℕ) → is_some p ≡ false → option_or p (cond (is_origin o o) (Some (0 + length origins)) None) ≡ Some (length origins)
    by None e = ap (λ b. cond b (Some (0 + length origins)) None) (origin_is o) ∙ ap Some (omega arith)
    by (Some x) e = absurd (false≢true (sym e))

-- what is given as the number of a new one is that
pub new_number : (origins : List Origin) (o : Origin) (n : ℕ) → list_any (is_origin o) origins ≡ false → instance_for (with_one is_origin origins o) o ≡ Some n → n ≡ length origins
new_number origins o n new number =
    same_Some n (length origins) (sym number ∙ ap (λ t. instance_for (cond t origins (origins ++ o ∷ [])) o) new ∙ last_number origins o new)

or_left : {A : Type 0} (o p : Option A) (x : A) → o ≡ Some x → option_or o p ≡ Some x
or_left None p x h = absurd (none_some x (sym h))
or_left (Some y) p x h = h

-- a number stays
pub number_stays : (origins : List Origin) (o a : Origin) (n : ℕ) → instance_for origins a ≡ Some n → instance_for (with_one is_origin origins o) a ≡ Some n
number_stays origins o a n h = by (one_more origins o)
  where
    by : ((list_any (is_origin o) origins ≡ true) × (with_one is_origin origins o ≡ origins)) ⊎ ((list_any (is_origin o) origins ≡ false) × (with_one is_origin origins o ≡ origins ++ o ∷ [])) → instance_for (with_one is_origin origins o) a ≡ Some n
    by (inl there) = ap (λ l. instance_for l a) there.1 ∙ h
    by (inr new) = ap (λ l. instance_for l a) new.1 ∙ place_behind (is_origin a) 0 origins o ∙ or_left (instance_for origins a) (cond (is_origin a o) (Some (0 + length origins)) None) n h

-- ---- components and instances

pub parts_more : (s : Sources) (first found : List ComponentEntry) (g : GraphTree) (name bytes : List ℕ) (shape : ShapeTree) → HasParts s first g found
    → IsFound s (record { id = g.next_component; name = name; bytes = bytes; shape = shape })
    → HasParts s first (with_component g name bytes shape) (found ++ (record { id = g.next_component; name = name; bytes = bytes; shape = shape }) ∷ [])
parts_more s first found g name bytes shape h file = record {
  all = ap (λ l. l ++ c ∷ []) h.all ∙ append_assoc first found (c ∷ []);
  files = all_more (IsFound s) found c h.files file;
  numbers = map-append (λ (c : ComponentEntry). c.id) g.components (c ∷ []) ∙ ap (λ l. l ++ g.next_component ∷ []) h.numbers ∙ ap (λ n. range_with_len 0 (length g.components) ++ n ∷ []) (h.next ∙ at_end)
      ∙ sym (numbers_more 0 (length g.components)) ∙ ap (range_with_len 0) (sym (length_more g.components c));
  next = ap suc h.next ∙ sym (length_more g.components c);
}
  where
    c : ComponentEntry
    c = record { id = g.next_component; name = name; bytes = bytes; shape = shape }

    at_end : length g.components ≡ 0 + length g.components
    at_end = omega arith

-- a component that has a number keeps it
pub number_kept : (s : Settings) (cs ds : List ComponentEntry) (o : Origin) (n : ℕ) → component_number s cs o ≡ Some n → component_number s (cs ++ ds) o ≡ Some n
number_kept s cs ds (OfDefinition c) n h = h
number_kept s cs ds (Named name) n h = by (bytes_eq name root_name) h
  where
    found : (a b : Option ComponentEntry) → option_map (λ (c : ComponentEntry). c.id) a ≡ Some n → option_map (λ (c : ComponentEntry). c.id) (option_or a b) ≡ Some n
    found None b h = absurd (none_some n (sym h))
    found (Some c) b h = h

    by : (b : Bool) → cond b (Some 0) (option_map (λ (c : ComponentEntry). c.id) (component_named cs (dependency_name s name))) ≡ Some n
        → cond b (Some 0) (option_map (λ (c : ComponentEntry). c.id) (component_named (cs ++ ds) (dependency_name s name))) ≡ Some n
    by true h = h
    by false h =
        ap (option_map (λ (c : ComponentEntry). c.id)) (find-append (λ (c : ComponentEntry). bytes_eq (dependency_name s name) c.name) cs ds)
        ∙ found (component_named cs (dependency_name s name)) (component_named ds (dependency_name s name)) h

pub made_more : (s : Sources) (g : GraphTree) (origins : List Origin) (o : Origin) (component : ℕ) → HasMade s g origins → component_number s.settings g.components o ≡ Some component
    → HasMade s (with_instance g component) (origins ++ o ∷ [])
made_more s g origins o component h number = record {
  components = zip_more (IsInstanceOf s.settings g.components) origins g.instances o i h.components number;
  numbers = map-append (λ (i : InstanceEntry). i.id) g.instances (i ∷ []) ∙ ap (λ l. l ++ g.next_instance ∷ []) h.numbers ∙ ap (λ n. range_with_len 0 (length origins) ++ n ∷ []) (h.next ∙ at_end)
      ∙ sym (numbers_more 0 (length origins)) ∙ ap (range_with_len 0) (sym (length_more origins o));
  next = ap suc h.next ∙ sym (length_more origins o);
}
  where
    i : InstanceEntry
    i = record { id = g.next_instance; component = component }

    at_end : length origins ≡ 0 + length origins
    at_end = omega arith

-- with more components, and the same instances
pub made_kept : (s : Sources) (g new : GraphTree) (origins : List Origin) (more : List ComponentEntry) → new.components ≡ g.components ++ more → new.instances ≡ g.instances
    → new.next_instance ≡ g.next_instance → HasMade s g origins → HasMade s new origins
made_kept s g new origins more components instances next h = record {
  components =
      subst (λ l. AllZip (IsInstanceOf s.settings new.components) origins l) (sym instances)
      (zip_weaker (IsInstanceOf s.settings g.components) (IsInstanceOf s.settings new.components)
      (λ o i is. ap (λ l. component_number s.settings l o) components ∙ number_kept s.settings g.components more o i.component is) origins g.instances h.components);
  numbers = ap (map (λ (i : InstanceEntry). i.id)) instances ∙ h.numbers;
  next = next ∙ h.next;
}
