-- What is built so far is a front of the whole graph: then its instances have the components that they have there.
use Rattle.std.proofs.Common.{◌≡◌, ◌<◌, ◌≤◌, inl, inr, ℕ, ◌+◌, Bool, true, false, cond, List, [], ◌∷◌, ◌++◌, length, map, drop, Option, Some, None, slice_get, option_map, option_and_then, refl, sym, ap, ◌∙◌, subst, bytes_eq, arith, length-append}
use Rattle.std.specs.Prelude.{filter_map}
use Rattle.std.specs.List.{AllByRecursion, range_with_len}
use Rattle.std.specs.Option.{option_or}
use Rattle.std.proofs.lemmas.Option.{same_Some, slice_get_within}
use Rattle.std.proofs.lemmas.List.Elements.{filter_map-append}
use Rattle.compose_config.specs.Plan.{dependency_name}
use Rattle.compose_graph.specs.Graph.{ComponentEntry, GraphTree, InstanceEntry, component_at, component_named, component_of, instance_at}
use Rattle.compose_files.specs.Built.{Built, Need, Sources, taken}
use Rattle.compose_files.specs.Choice.{instance_export}
use Rattle.compose_files.specs.Composed.{root_name}
use Rattle.compose_files.specs.Graph.{IsGraphOf, IsInstanceOf, Named, OfDefinition, Origin, component_number, each_once, first_offer, has_component, is_origin, needs, offered, source_by, source_of}
use Rattle.compose_files.specs.declared.offer.Offer.{Offer}
use Rattle.compose_files.proofs.Drawn.{IsDrawn, number_kept}
use Rattle.compose_files.proofs.Fronts.{IsIn, all_by_place, all_given, all_in, all_once, found_at, get_in_front, get_within, number_at, once_front, zip_at, zip_long}
use Rattle.compose_files.proofs.Once.{all_at, all_found, none_some}
use Rattle.compose_files.proofs.Origins.{same_origin}

-- an instance of a definition is of one of so many components
abbrev pub IsBounded : ℕ → Origin → Type 0
IsBounded n (Named name) = Unit {0}
IsBounded n (OfDefinition c) = c < n

wider : (m n : ℕ) (o : Origin) → m ≤ n → IsBounded m o → IsBounded n o
wider m n (Named name) less h = tt
wider m n (OfDefinition c) less h = omega (arith, less, h)

-- what a definition has is of its own component
offer_in : (cs : List ComponentEntry) (name : List ℕ) (o : Offer) → first_offer cs name ≡ Some o → (c : ComponentEntry) × IsIn c cs × (o.component ≡ c.id)
offer_in [] name o h = absurd (none_some o (sym h))
offer_in (c ∷ cs) name o h = by (instance_export c.shape name) h (offer_in cs name o)
  where
    by : (e : Option ℕ) → option_or (option_map (λ export. record { component = c.id; export = export }) e) (first_offer cs name) ≡ Some o → (first_offer cs name ≡ Some o → (c : ComponentEntry) × IsIn c cs × (o.component ≡ c.id))
        → (d : ComponentEntry) × IsIn d (c ∷ cs) × (o.component ≡ d.id)
    by None h later = let l = later h in (l.0, inr l.1, l.2)
    by (Some e) h later = (c, inl refl, ap (λ (x : Offer). x.component) (sym (same_Some (record { component = c.id; export = e }) o h)))

-- a component that has a number is one of a numbered list
number_below : (s : Sources) (cs : List ComponentEntry) (o : Origin) (n : ℕ) → map (λ (c : ComponentEntry). c.id) cs ≡ range_with_len 0 (length cs) → 0 < length cs → IsBounded (length cs) o
    → component_number s.settings cs o ≡ Some n → n < length cs
number_below s cs (OfDefinition c) n numbers some bounded h = subst (λ m. m < length cs) (same_Some c n h) bounded
number_below s cs (Named name) n numbers some bounded h = by (bytes_eq name root_name) h
  where
    below : AllByRecursion (λ (c : ComponentEntry). c.id < length cs) cs
    below = all_by_place (λ (c : ComponentEntry). c.id < length cs) cs (λ k c there.
        let within = slice_get_within cs k c there in
        let is : c.id ≡ 0 + k = number_at (λ (c : ComponentEntry). c.id) 0 k cs c (length cs) numbers there in
        omega arith)

    found : (o : Option ComponentEntry) → component_named cs (dependency_name s.settings name) ≡ o → option_map (λ (c : ComponentEntry). c.id) o ≡ Some n → n < length cs
    found None is h = absurd (none_some n (sym h))
    found (Some c) is h =
        subst (λ m. m < length cs) (same_Some c.id n h) (all_found (λ (c : ComponentEntry). c.id < length cs) (λ (c : ComponentEntry). bytes_eq (dependency_name s.settings name) c.name) cs c is below).0

    by : (b : Bool) → cond b (Some 0) (option_map (λ (c : ComponentEntry). c.id) (component_named cs (dependency_name s.settings name))) ≡ Some n → n < length cs
    by true h = subst (λ m. m < length cs) (same_Some 0 n h) some
    by false h = found (component_named cs (dependency_name s.settings name)) refl h

-- what is found by its number stands at its place
component_placed : (cs : List ComponentEntry) (n : ℕ) → map (λ (c : ComponentEntry). c.id) cs ≡ range_with_len 0 (length cs) → component_at cs n ≡ slice_get cs n
component_placed cs n numbers = ap (λ m. component_at cs m) (let same : n ≡ 0 + n = omega arith in same) ∙ found_at (λ (c : ComponentEntry). c.id) 0 n cs numbers

instance_placed : (is : List InstanceEntry) (n : ℕ) → map (λ (i : InstanceEntry). i.id) is ≡ range_with_len 0 (length is) → instance_at is n ≡ slice_get is n
instance_placed is n numbers = ap (λ m. instance_at is m) (let same : n ≡ 0 + n = omega arith in same) ∙ found_at (λ (i : InstanceEntry). i.id) 0 n is numbers

module _ (root : List ℕ) (s : Sources) (g : GraphTree) (whole : IsGraphOf root s g) where
  first_numbers : AllByRecursion (λ (c : ComponentEntry). c.id < length whole.first) whole.first
  first_numbers = all_by_place (λ (c : ComponentEntry). c.id < length whole.first) whole.first (λ k c there.
      let within = slice_get_within whole.first k c there in
      let is : c.id ≡ 0 + k =
      number_at (λ (c : ComponentEntry). c.id) 0 k g.components c (length g.components) whole.components.numbers
      (ap (λ l. slice_get l k) whole.components.all ∙ get_in_front whole.first whole.components.found k within ∙ there) in
      omega arith)

  -- each instance of a definition is of one of the first components
  source_bounded : (need : Need) (o : Origin) → source_of s whole.first need ≡ Some o → IsBounded (length whole.first) o
  source_bounded need o h = by (offered whole.first need) refl h
    where
      defined : AllByRecursion (λ (c : ComponentEntry). c.id < length whole.first) (drop 1 whole.first)
      defined =
          subst (λ l. AllByRecursion (λ (c : ComponentEntry). c.id < length whole.first) (drop 1 l)) (sym whole.components.first_are)
          (subst (λ l. AllByRecursion (λ (c : ComponentEntry). c.id < length whole.first) l) whole.components.first_are first_numbers).1

      named : (b : Bool) → cond b (Some (Named (taken s.settings need).instance)) None ≡ Some o → IsBounded (length whole.first) o
      named true h = subst (IsBounded (length whole.first)) (same_Some (Named (taken s.settings need).instance) o h) tt
      named false h = absurd (none_some o (sym h))

      by : (p : Option Offer) → offered whole.first need ≡ p → source_by s whole.first need p ≡ Some o → IsBounded (length whole.first) o
      by None is h = named (has_component s whole.first (taken s.settings need).instance) h
      by (Some p) is h =
          let at = offer_in (drop 1 whole.first) need.name p is in
          subst (IsBounded (length whole.first)) (same_Some (OfDefinition p.component) o h)
          (subst (λ n. n < length whole.first) (sym at.2) (all_in (λ (c : ComponentEntry). c.id < length whole.first) (drop 1 whole.first) at.0 defined at.1))

  all_bounded : AllByRecursion (IsBounded (length whole.first)) whole.origins
  all_bounded =
      subst (AllByRecursion (IsBounded (length whole.first))) (sym whole.instances.order)
      (all_once is_origin (IsBounded (length whole.first)) (Named root_name ∷ filter_map (source_of s whole.first) (needs g whole.origins))
      (tt, all_given (source_of s whole.first) (IsBounded (length whole.first)) source_bounded (needs g whole.origins)))

  -- the instances of a front of the imports are a front
  pub origins_front : (origins : List Origin) (done rest : List Need) → origins ≡ each_once is_origin (Named root_name ∷ filter_map (source_of s whole.first) done) → needs g whole.origins ≡ done ++ rest
      → (more : List Origin) × (whole.origins ≡ origins ++ more)
  origins_front origins done rest order split =
      let front = once_front is_origin same_origin (Named root_name ∷ filter_map (source_of s whole.first) done) (filter_map (source_of s whole.first) rest) in (
        front.0,
        whole.instances.order ∙ ap (λ l. each_once is_origin (Named root_name ∷ filter_map (source_of s whole.first) l)) split
            ∙ ap (λ l. each_once is_origin (Named root_name ∷ l)) (filter_map-append (source_of s whole.first) done rest) ∙ front.1 ∙ ap (λ l. l ++ front.0) (sym order),
      )

  -- the instances of a front have the components that they have in the whole
  pub same_component : (b : Built) (origins : List Origin) (found : List ComponentEntry) → IsDrawn s whole.first b origins found → (later : List ComponentEntry) → g.components ≡ b.graph.components ++ later
      → (more : List Origin) → whole.origins ≡ origins ++ more → (id : ℕ) → id < length origins → component_of b.graph id ≡ component_of g id
  same_component b origins found drawn later components more front id below = by o.0 o.1
    where
      o : (o : Origin) × (slice_get origins id ≡ Some o)
      o = get_within origins id below

      by : (o : Origin) → slice_get origins id ≡ Some o → component_of b.graph id ≡ component_of g id
      by o there =
          let i = zip_at (IsInstanceOf s.settings b.graph.components) origins b.graph.instances id o drawn.instances.components there in
          let everywhere : slice_get whole.origins id ≡ Some o = ap (λ l. slice_get l id) front ∙ get_in_front origins more id below ∙ there in
          let j = zip_at (IsInstanceOf s.settings g.components) whole.origins g.instances id o whole.instances.components everywhere in
          let at_b : instance_at b.graph.instances id ≡ Some i.0 =
          instance_placed b.graph.instances id (drawn.instances.numbers ∙ ap (range_with_len 0) (zip_long (IsInstanceOf s.settings b.graph.components) origins b.graph.instances drawn.instances.components)) ∙ i.1 in
          let at_g : instance_at g.instances id ≡ Some j.0 =
          instance_placed g.instances id (whole.instances.numbers ∙ ap (range_with_len 0) (zip_long (IsInstanceOf s.settings g.components) whole.origins g.instances whole.instances.components)) ∙ j.1 in
          let same : i.0.component ≡ j.0.component =
          same_Some i.0.component j.0.component
          (sym (ap (λ l. component_number s.settings l o) components ∙ number_kept s.settings b.graph.components later o i.0.component i.2) ∙ j.2) in
          let long : length b.graph.components ≡ length whole.first + length found = ap length drawn.parts.all ∙ length-append whole.first found in
          let some : 0 < length whole.first = subst (λ l. 0 < length l) (sym whole.components.first_are) (omega arith) in
          let bounded : IsBounded (length b.graph.components) o =
          wider (length whole.first) (length b.graph.components) o (omega arith) (all_at (IsBounded (length whole.first)) whole.origins id o everywhere all_bounded) in
          let less : i.0.component < length b.graph.components =
          number_below s b.graph.components o i.0.component drawn.parts.numbers (omega arith) bounded i.2 in
          ap (option_and_then (λ (i : InstanceEntry). component_at b.graph.components i.component)) at_b ∙ component_placed b.graph.components i.0.component drawn.parts.numbers
          ∙ sym (get_in_front b.graph.components later i.0.component less) ∙ ap (λ l. slice_get l i.0.component) (sym components)
          ∙ sym (component_placed g.components i.0.component whole.components.numbers) ∙ ap (component_at g.components) same
          ∙ sym (ap (option_and_then (λ (i : InstanceEntry). component_at g.components i.component)) at_g)
