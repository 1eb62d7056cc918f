-- The components of which instances are made, and the places of instances in their order.
use Rattle.std.proofs.Common.{◌≡◌, ◌∙◌, ◌⊎◌, inl, inr, ℕ, zero, suc, ◌+◌, ◌<◌, ◌≤◌, Bool, true, false, cond, List, [], ◌∷◌, ◌++◌, length, Option, Some, None, filter, get_or, option_and_then, option_map, refl, sym, ap, arith}
use Rattle.std.specs.Prelude.{◌==◌, ◌||◌, option_to_list, slice_get, unwrap_or}
use Rattle.std.specs.List.{AllByRecursion, flat_map, range_with_len}
use Rattle.std.proofs.lemmas.Bool.{cases_eq, eq-eqb, eqb-true, ne_eqb, or_cases, or_left, or_right}
use Rattle.std.proofs.lemmas.List.{length-append, length-map}
use Rattle.std.proofs.lemmas.List.FromFn.{length-range_with_len}
use Rattle.std.proofs.lemmas.Option.{slice_get-get_or, slice_get-map, slice_get_within}
use Rattle.comp_entity.specs.Entity.{EntityTree}
use Rattle.compose_agree.specs.Order.{Takes, all_of, has, is_ready}
use Rattle.compose_left.specs.Wiring.{no_shape}
use Rattle.compose_check.specs.Composition.{ComponentTree, CompositionTree, IsComposition}
use Rattle.compose_check.specs.Checked.{IsInstanceOrder, sources}
use Rattle.compose_image.specs.Imports.{component_of, is_used, used, used_components}
use Rattle.compose_image.specs.Instances.{component_rank, rank}
use Rattle.compose_image.specs.CompositionImage.{component_image, composition_image, instance_image}
use Rattle.compose_image.proofs.ListLaws.{all_filter}
use Rattle.compose_image.proofs.OrderLaws.{has_range, is_in_order, length-sources, rank_within}

has_filter : (test : ℕ → Bool) (n : ℕ) (ns : List ℕ) → has ns n ≡ true → test n ≡ true → has (filter test ns) n ≡ true
has_filter test n [] h e = h
has_filter test n (m ∷ ns) h e = by (or_cases (m == n) (has ns n) h) (λ k. has_filter test n ns k e)
  where
    by : ((m == n) ≡ true) ⊎ (has ns n ≡ true) → (has ns n ≡ true → has (filter test ns) n ≡ true)
        → has (cond (test m) (m ∷ filter test ns) (filter test ns)) n ≡ true
    by (inl same) more =
        ap (λ b. has (cond b (m ∷ filter test ns) (filter test ns)) n) (ap test (eqb-true m n same) ∙ e)
        ∙ or_left (m == n) (has (filter test ns) n) same
    by (inr later) more = kept (test m)
      where
        kept : (b : Bool) → has (cond b (m ∷ filter test ns) (filter test ns)) n ≡ true
        kept true = or_right (m == n) (has (filter test ns) n) (more later)
        kept false = more later

range_below : (a k top : ℕ) → a + k ≤ top → AllByRecursion (λ n. n < top) (range_with_len a k)
range_below a zero top h = tt
range_below a (suc k) top h = (omega (arith, h), range_below (a + 1) k top (omega (arith, h)))

no_component : ComponentTree
no_component = record { name = []; bytes = []; shape = no_shape }

-- what has a place in an order stands there
rank_at : (n : ℕ) (ns : List ℕ) → has ns n ≡ true → slice_get ns (rank n ns) ≡ Some n
rank_at n [] h = absurd cc
rank_at n (m ∷ ns) h = by (cases_eq m n) (λ k. rank_at n ns k)
  where
    by : (m ≡ n) ⊎ (m ≡ n → ⊥) → (has ns n ≡ true → slice_get ns (rank n ns) ≡ Some n)
        → slice_get (m ∷ ns) (cond (m == n) 0 (suc (rank n ns))) ≡ Some n
    by (inl e) more = ap (λ b. slice_get (m ∷ ns) (cond b 0 (suc (rank n ns)))) (eq-eqb m n e) ∙ ap Some e
    by (inr e) more =
        ap (λ b. slice_get (m ∷ ns) (cond b 0 (suc (rank n ns)))) (ne_eqb m n e)
        ∙ more (sym (ap (λ b. b || has ns n) (ne_eqb m n e)) ∙ h)

-- as many are put in order as there were
takes_length : (ready : List ℕ → ℕ → Bool) (done left taken : List ℕ) → Takes ready done left taken []
    → length left ≡ length taken
takes_length ready done left [] t = ap length t
takes_length ready done left (x ∷ taken) t =
    omega (
      arith,
      ap length t.2,
      length-append t.0 (x ∷ t.1),
      length-append t.0 t.1,
      takes_length ready (done ++ x ∷ [])
          (t.0 ++ t.1) taken t.5,
    )

module _ (c : CompositionTree) where
  as_many : (ns : List ℕ) → AllByRecursion (λ n. n < length c.components) ns
      → length (flat_map (component_of c) ns) ≡ length ns
  as_many [] a = refl
  as_many (n ∷ ns) a =
      length-append (component_of c n) (flat_map (component_of c) ns)
      ∙ (λ i. one (slice_get c.components n) (slice_get-get_or c.components n no_component a.0) i + as_many ns a.1 i)
      ∙ omega arith
    where
      one : (o : Option ComponentTree) → o ≡ Some (get_or c.components n no_component) → length (option_to_list o) ≡ 1
      one None e = absurd cc
      one (Some k) e = refl

  is_made : (P : ℕ → Type 0) (ns : List ℕ) (i : ℕ) → AllByRecursion P ns → i < length ns
      → P (unwrap_or (slice_get ns i) 0) × (has ns (unwrap_or (slice_get ns i) 0) ≡ true)
  is_made P [] i a lt = absurd (omega (arith, lt))
  is_made P (n ∷ ns) zero a lt = (a.0, or_left (n == n) (has ns n) (eq-eqb n n refl))
  is_made P (n ∷ ns) (suc i) a lt =
      let later = is_made P ns i a.1 (omega (arith, lt)) in
      (later.0, or_right (n == unwrap_or (slice_get ns i) 0) (has ns (unwrap_or (slice_get ns i) 0)) later.1)

  -- those of which instances are made are there
  used_there : AllByRecursion (λ n. n < length c.components) (used c)
  used_there =
      all_filter (λ n. n < length c.components) (is_used c) (range_with_len 0 (length c.components))
      (range_below 0 (length c.components) (length c.components) (omega arith))

  -- the component of an instance is one of them
  among_used : IsComposition c → (i : ℕ) → i < length c.instances
      → has (used c) (unwrap_or (slice_get c.instances i) 0) ≡ true
  among_used h i lt =
      let made = is_made (λ n. n < length c.components) c.instances i h.made lt in
      has_filter (is_used c) (unwrap_or (slice_get c.instances i) 0) (range_with_len 0 (length c.components))
      (has_range (unwrap_or (slice_get c.instances i) 0) (length c.components) made.0) made.1

  pub rank_there : IsComposition c → (i : ℕ) → i < length c.instances → component_rank c i < length (used_components c)
  rank_there h i lt =
      omega (
        arith,
        rank_within (unwrap_or (slice_get c.instances i) 0) (used c) (among_used h i lt),
        as_many (used c)
            used_there,
      )

  -- ---- what stands at a place

  component_at : (ns : List ℕ) (r : ℕ) → AllByRecursion (λ n. n < length c.components) ns
      → slice_get (flat_map (component_of c) ns) r ≡ option_and_then (slice_get c.components) (slice_get ns r)
  component_at [] r a = refl
  component_at (n ∷ ns) zero a = first (slice_get c.components n) (slice_get-get_or c.components n no_component a.0)
    where
      first : (o : Option ComponentTree) → o ≡ Some (get_or c.components n no_component)
          → slice_get (option_to_list o ++ flat_map (component_of c) ns) 0 ≡ o
      first None e = absurd cc
      first (Some k) e = refl
  component_at (n ∷ ns) (suc r) a =
      next (slice_get c.components n) (slice_get-get_or c.components n no_component a.0) ∙ component_at ns r a.1
    where
      next : (o : Option ComponentTree) → o ≡ Some (get_or c.components n no_component)
          → slice_get (option_to_list o ++ flat_map (component_of c) ns) (suc r) ≡ slice_get
          (flat_map (component_of c) ns) r
      next None e = absurd cc
      next (Some k) e = refl

  of_component : IsComposition c → (i n : ℕ) (k : ComponentTree) → slice_get c.instances i ≡ Some n
      → slice_get c.components n ≡ Some k
      → slice_get (used_components c) (component_rank c i) ≡ Some k
  of_component h i n k made there =
      let same : unwrap_or (slice_get c.instances i) 0 ≡ n = ap (λ o. unwrap_or o 0) made in
      let among = among_used h i (slice_get_within c.instances i n made) in
      component_at (used c) (component_rank c i) used_there
      ∙ ap (option_and_then (slice_get c.components)) (rank_at (unwrap_or (slice_get c.instances i) 0) (used c) among)
      ∙ ap (slice_get c.components) same
      ∙ there

  module _ (define : Bool) (export : Option ℕ) (order : List ℕ) (imports : List (List ℕ × EntityTree)) where
    pub component_placed : (i n : ℕ) (k : ComponentTree) → IsComposition c → slice_get c.instances i ≡ Some n
        → slice_get c.components n ≡ Some k
        → slice_get (composition_image c define export order imports).components (instance_image c order i).0 ≡ Some
        (component_image define k)
    component_placed i n k h made there =
        slice_get-map (component_image define) (used_components c) (component_rank c i)
        ∙ ap (option_map (component_image define)) (of_component h i n k made there)

    pub instance_placed : (i : ℕ) → IsInstanceOrder c order → i < length c.instances
        → slice_get (composition_image c define export order imports).instances (rank i order) ≡ Some
        (instance_image c order i)
    instance_placed i o lt =
        slice_get-map (instance_image c order) order (rank i order)
        ∙ ap (option_map (instance_image c order))
        (rank_at i order (is_in_order (sources c) order o i (omega (arith, lt, length-sources c))))

    pub instances_placed : IsInstanceOrder c order
        → length (composition_image c define export order imports).instances ≡ length c.instances
    instances_placed o =
        length-map order (instance_image c order)
        ∙ sym (takes_length (is_ready (sources c)) [] (all_of (sources c)) order o)
        ∙ length-range_with_len 0 (length (sources c)) ∙ length-sources c
