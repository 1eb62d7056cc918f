-- A front of the whole graph whose instances have their turns as they have them there is a front still.
use Rattle.std.proofs.Common.{◌≡◌, ◌<◌, ◌≤◌, ◌⊎◌, inl, inr, ℕ, suc, zero, ◌+◌, true, List, [], ◌∷◌, ◌++◌, length, take, drop, Option, Some, None, is_some, slice_get, refl, sym, ap, ◌∙◌, subst, arith, append_assoc, length-append}
use Rattle.std.specs.Prelude.{Contains, filter_map, flat_map}
use Rattle.std.specs.List.{AllByRecursion, list_any, position_from}
use Rattle.std.proofs.lemmas.Bool.{false≢true, or_right}
use Rattle.std.proofs.lemmas.Grind.{flat_map-append}
use Rattle.std.proofs.lemmas.Option.{same_Some}
use Rattle.std.proofs.lemmas.List.{append-nil, length-map, take-append-drop, take_all}
use Rattle.comp_entity.specs.Entity.{EntityTree}
use Rattle.compose_graph.specs.Graph.{ComponentEntry, GraphTree, component_of}
use Rattle.compose_graph.specs.declared.connection.Connection.{Connection}
use Rattle.compose_files.specs.Built.{AfterSteps, Built, HasGoodArguments, Need, Sources, import_names}
use Rattle.compose_files.specs.Composed.{HasTurn, ServesAt, root_name}
use Rattle.compose_files.specs.Graph.{IsGraphOf, IsServedFrom, IsServing, Named, OfDefinition, Origin, instance_for, is_origin, named_from, named_of, needs, needs_by, needs_from, needs_of, source_of}
use Rattle.compose_files.proofs.Drawn.{IsDrawn, IsWired}
use Rattle.compose_files.proofs.Front.{origins_front, same_component}
use Rattle.compose_files.proofs.FrontConnects.{IsOther}
use Rattle.compose_files.proofs.FrontServes.{CanBeServed, can_be_served}
use Rattle.compose_files.proofs.Fronts.{IsIn, all_both, all_in, any_in, get_within, in_by_place, in_either, in_filtered, place_holds, place_in_front, zip_given}
use Rattle.compose_files.proofs.Once.{all_at, all_weaker, any_once, none_some, place_there}
use Rattle.compose_files.proofs.Origins.{named_behind, named_below, origin_is, same_origin}
use Rattle.compose_files.proofs.Stepped.{IsStepped}
use Rattle.compose_files.proofs.Turns.{imports_stepped, need_at, needs_at, needs_long, take_suc}

-- ---- lists

split_at : {X : Type 0} (xs : List X) (n : ℕ) (x : X) → slice_get xs n ≡ Some x → drop n xs ≡ x ∷ drop (suc n) xs
split_at [] n x h = absurd (none_some x (sym h))
split_at (y ∷ xs) zero x h = ap (λ z. z ∷ xs) (same_Some y x h)
split_at (y ∷ xs) (suc n) x h = split_at xs n x h

get_either : {X : Type 0} (xs ys : List X) (n : ℕ) (x : X) → slice_get (xs ++ ys) n ≡ Some x → (slice_get xs n ≡ Some x) ⊎ IsIn x ys
get_either {X = X} [] ys n x h = inr (by ys n h)
  where
    by : (ys : List X) (n : ℕ) → slice_get ys n ≡ Some x → IsIn x ys
    by [] n h = absurd (none_some x (sym h))
    by (y ∷ ys) zero h = inl (sym (same_Some y x h))
    by (y ∷ ys) (suc n) h = inr (by ys n h)
get_either (y ∷ xs) ys zero x h = inl h
get_either (y ∷ xs) ys (suc n) x h = get_either xs ys n x h

all_flat : {A B : Type 0} (f : A → List B) (P : A → Type 0) (Q : B → Type 0) → ((a : A) → P a → AllByRecursion Q (f a)) → (xs : List A) → AllByRecursion P xs → AllByRecursion Q (flat_map f xs)
all_flat f P Q each [] h = tt
all_flat f P Q each (x ∷ xs) h = all_both Q (f x) (flat_map f xs) (each x h.0) (all_flat f P Q each xs h.1)

-- ---- numbers of instances that have names, and imports

named_above : (n : ℕ) (origins : List Origin) → AllByRecursion (λ (i : List ℕ × ℕ). n ≤ i.1) (named_from n origins)
named_above n [] = tt
named_above n (Named a ∷ origins) = (omega arith, all_weaker (λ (i : List ℕ × ℕ). n + 1 ≤ i.1) (λ (i : List ℕ × ℕ). n ≤ i.1) (λ i h. omega (arith, h)) (named_from (n + 1) origins) (named_above (n + 1) origins))
named_above n (OfDefinition c ∷ origins) = all_weaker (λ (i : List ℕ × ℕ). n + 1 ≤ i.1) (λ (i : List ℕ × ℕ). n ≤ i.1) (λ i h. omega (arith, h)) (named_from (n + 1) origins) (named_above (n + 1) origins)

earlier_below : (n : ℕ) (origins : List Origin) (k : ℕ) (i : List ℕ × ℕ) → slice_get (named_from n origins) k ≡ Some i → AllByRecursion (λ (j : List ℕ × ℕ). j.1 < i.1) (take k (named_from n origins))
earlier_below n [] k i h = absurd (none_some i (sym h))
earlier_below n (Named a ∷ origins) zero i h = tt
earlier_below n (Named a ∷ origins) (suc k) i h =
    let above : n + 1 ≤ i.1 = all_at (λ (i : List ℕ × ℕ). n + 1 ≤ i.1) (named_from (n + 1) origins) k i h (named_above (n + 1) origins) in
    (omega arith, earlier_below (n + 1) origins k i h)
earlier_below n (OfDefinition c ∷ origins) k i h = earlier_below (n + 1) origins k i h

later_above : (n : ℕ) (origins : List Origin) (k : ℕ) (i : List ℕ × ℕ) → slice_get (named_from n origins) k ≡ Some i → AllByRecursion (λ (j : List ℕ × ℕ). i.1 ≤ j.1) (drop k (named_from n origins))
later_above n [] k i h = absurd (none_some i (sym h))
later_above n (Named a ∷ origins) zero i h =
    subst (λ m. AllByRecursion (λ (j : List ℕ × ℕ). m ≤ j.1) (named_from n (Named a ∷ origins))) (ap (λ (p : List ℕ × ℕ). p.1) (same_Some (a, n) i h)) (named_above n (Named a ∷ origins))
later_above n (Named a ∷ origins) (suc k) i h = later_above (n + 1) origins k i h
later_above n (OfDefinition c ∷ origins) k i h = later_above (n + 1) origins k i h

places_below : (instance : List ℕ) (target from n : ℕ) (names : List (List ℕ)) → AllByRecursion (λ (d : Need). d.place < from + n) (take n (needs_from instance target from names))
places_below instance target from zero names = tt
places_below instance target from (suc n) [] = tt
places_below instance target from (suc n) (a ∷ names) =
    (omega arith, all_weaker (λ (d : Need). d.place < from + 1 + n) (λ (d : Need). d.place < from + suc n) (λ d h. omega (arith, h)) (take n (needs_from instance target (from + 1) names)) (places_below instance target (from + 1) n names))

targets_are : (instance : List ℕ) (target from : ℕ) (names : List (List ℕ)) → AllByRecursion (λ (d : Need). d.target ≡ target) (needs_from instance target from names)
targets_are instance target from [] = tt
targets_are instance target from (a ∷ names) = (refl, targets_are instance target (from + 1) names)

targets_of : (g : GraphTree) (i : List ℕ × ℕ) → AllByRecursion (λ (d : Need). d.target ≡ i.1) (needs_of g i)
targets_of g i = by (component_of g i.1)
  where
    by : (c : Option ComponentEntry) → AllByRecursion (λ (d : Need). d.target ≡ i.1) (needs_by i.0 i.1 c)
    by None = tt
    by (Some c) = targets_are i.0 i.1 0 (import_names c.shape)

module _ (root : List ℕ) (s : Sources) (g : GraphTree) (whole : IsGraphOf root s g) where
  -- ---- the imports of an instance

  module _ (old : Built) (origins : List Origin) (found : List ComponentEntry) (done : List Need) (drawn : IsDrawn s whole.first old origins found) (wired : IsWired s whole.first old origins done)
      (later : List ComponentEntry) (components : g.components ≡ old.graph.components ++ later) (instance : List ℕ) (target : ℕ) (names : List (List ℕ)) (rest : List Need)
      (split : needs g whole.origins ≡ done ++ (needs_from instance target 0 names ++ rest)) (below : target < length origins) (others : AllByRecursion (λ (d : Need). d.target < target) done) where
    pub record HasServed (n : ℕ) : Type 0 where
      pub new : Built
      pub steps : AfterSteps (ServesAt s instance target names) old n new
      pub after : List ComponentEntry
      pub all : g.components ≡ new.graph.components ++ after

    pub has_served : (n : ℕ) → n ≤ length names → HasServed n
    has_served zero less = record { new = old; steps = refl; after = later; all = components }
    has_served (suc n) less = by (has_served n (omega (arith, less))) (get_within names n (omega (arith, less)))
      where
        by : HasServed n → (name : List ℕ) × (slice_get names n ≡ Some name) → HasServed (suc n)
        by p name = record { new = one.new; steps = (p.new, p.steps, record { name = name.0; there = name.1; serves = one.serves }); after = one.after; all = one.all }
          where
            r : IsStepped s whole.first old origins (done ++ take n (needs_from instance target 0 names)) p.new
            r = imports_stepped s whole.first old origins found done instance target names drawn wired below n p.new p.steps

            there : slice_get (needs_from instance target 0 names) n ≡ Some (need_at instance target n name.0)
            there = needs_at instance target 0 n names name.0 name.1 ∙ ap (λ m. Some (need_at instance target m name.0)) (omega arith)

            within : target < length r.after
            within = let long = ap length r.longer ∙ length-append origins r.more in omega arith

            cut : needs_from instance target 0 names ≡ take n (needs_from instance target 0 names) ++ need_at instance target n name.0 ∷ drop (suc n) (needs_from instance target 0 names)
            cut = sym (take-append-drop n (needs_from instance target 0 names)) ∙ ap (λ l. take n (needs_from instance target 0 names) ++ l) (split_at (needs_from instance target 0 names) n (need_at instance target n name.0) there)

            whole_split : needs g whole.origins ≡ (done ++ take n (needs_from instance target 0 names)) ++ need_at instance target n name.0 ∷ (drop (suc n) (needs_from instance target 0 names) ++ rest)
            whole_split =
                split ∙ ap (λ l. done ++ (l ++ rest)) cut
                ∙ ap (λ l. done ++ l) (append_assoc (take n (needs_from instance target 0 names)) (need_at instance target n name.0 ∷ drop (suc n) (needs_from instance target 0 names)) rest)
                ∙ sym (append_assoc done (take n (needs_from instance target 0 names)) (need_at instance target n name.0 ∷ (drop (suc n) (needs_from instance target 0 names) ++ rest)))

            fresh : AllByRecursion (IsOther (need_at instance target n name.0)) (done ++ take n (needs_from instance target 0 names))
            fresh =
                all_both (IsOther (need_at instance target n name.0)) done (take n (needs_from instance target 0 names))
                (all_weaker (λ (d : Need). d.target < target) (IsOther (need_at instance target n name.0)) (λ d h same place. omega (arith, h, same)) done others)
                (all_weaker (λ (d : Need). d.place < 0 + n) (IsOther (need_at instance target n name.0)) (λ d h same place. omega (arith, h, place)) (take n (needs_from instance target 0 names)) (places_below instance target 0 n names))

            one : CanBeServed root s g whole p.new r.after r.found (done ++ take n (needs_from instance target 0 names)) r.drawn r.wired p.after p.all (need_at instance target n name.0) (drop (suc n) (needs_from instance target 0 names) ++ rest) whole_split within fresh
            one = can_be_served root s g whole p.new r.after r.found (done ++ take n (needs_from instance target 0 names)) r.drawn r.wired p.after p.all (need_at instance target n name.0) (drop (suc n) (needs_from instance target 0 names) ++ rest) whole_split within fresh

  -- ---- turns

  -- the imports of the instances in front of a place
  abbrev pub front_needs : ℕ → List Need
  front_needs k = flat_map (needs_of g) (take k (named_of whole.origins))

  abbrev pub back_needs : ℕ → List Need
  back_needs k = flat_map (needs_of g) (drop k (named_of whole.origins))

  pub needs_cut : (k : ℕ) → needs g whole.origins ≡ front_needs k ++ back_needs k
  needs_cut k = ap (flat_map (needs_of g)) (sym (take-append-drop k (named_of whole.origins))) ∙ flat_map-append (needs_of g) (take k (named_of whole.origins)) (drop k (named_of whole.origins))

  module _ (k : ℕ) (i : List ℕ × ℕ) (there : slice_get (named_of whole.origins) k ≡ Some i) (b : Built) (origins : List Origin) (found : List ComponentEntry) (drawn : IsDrawn s whole.first b origins found)
      (wired : IsWired s whole.first b origins (front_needs k)) where
    ahead : (more : List Origin) × (whole.origins ≡ origins ++ more)
    ahead = origins_front root s g whole origins (front_needs k) (back_needs k) wired.order (needs_cut k)

    -- the instance of the place is there, since it was reached from one in front of it
    is_there : i.1 < length origins
    is_there = by i.1 refl
      where
        reached : (o : Origin) (id : ℕ) → instance_for whole.origins o ≡ Some id → (d : Need) → source_of s whole.first d ≡ Some o → d.target < i.1 → IsIn d (front_needs k) ⊎ IsIn d (back_needs k) → id < length origins
        reached o id number d is before (inr late) =
            let after : i.1 ≤ d.target = all_in (λ (d : Need). i.1 ≤ d.target) (back_needs k) d
            (all_flat (needs_of g) (λ (j : List ℕ × ℕ). i.1 ≤ j.1) (λ (d : Need). i.1 ≤ d.target)
            (λ j h. all_weaker (λ (d : Need). d.target ≡ j.1) (λ (d : Need). i.1 ≤ d.target) (λ d e. subst (λ m. i.1 ≤ m) (sym e) h) (needs_of g j) (targets_of g j))
            (drop k (named_of whole.origins)) (later_above 0 whole.origins k i there)) late in
            absurd (omega arith)
        reached o id number d is before (inl early) = placed (position_from (is_origin o) 0 origins) refl
          where
            present : list_any (is_origin o) origins ≡ true
            present =
                ap (list_any (is_origin o)) wired.order ∙ any_once is_origin same_origin (Named root_name ∷ filter_map (source_of s whole.first) (front_needs k)) o
                ∙ or_right (is_origin o (Named root_name)) (list_any (is_origin o) (filter_map (source_of s whole.first) (front_needs k)))
                (any_in is_origin origin_is (filter_map (source_of s whole.first) (front_needs k)) o (in_filtered (source_of s whole.first) (front_needs k) d o early is))

            placed : (p : Option ℕ) → instance_for origins o ≡ p → id < length origins
            placed None e = absurd (false≢true (sym (ap is_some e) ∙ place_there (is_origin o) 0 origins ∙ present))
            placed (Some j) e =
                let at = place_holds (is_origin o) 0 j origins e in
                let is = at.2 in
                let less = at.3 in
                let same : j ≡ id = same_Some j id (sym (ap (λ l. instance_for l o) ahead.1 ∙ place_in_front (is_origin o) 0 j origins ahead.0 e) ∙ number) in
                omega arith

        given : (c : Connection) → c.source ≡ i.1 → c.target < i.1 → (d : Need) → IsIn d (needs g whole.origins) → (o : Option Origin) → source_of s whole.first d ≡ o
            → IsServedFrom s g whole.origins whole.first d o (Some c) → i.1 < length origins
        given c source target d within None is h = absurd h
        given c source target d within (Some o) is h =
            reached o i.1 (h.source ∙ ap Some source) d is (subst (λ m. m < i.1) h.target target) (in_either d (front_needs k) (back_needs k) (subst (IsIn d) (needs_cut k) within))

        by : (id : ℕ) → i.1 ≡ id → i.1 < length origins
        by zero e = let long : length origins ≡ suc (length drawn.rest) = ap length drawn.begins in omega arith
        by (suc id) e =
            let below : i.1 < 0 + length whole.origins = named_below 0 whole.origins k i.0 i.1 there in
            let r = whole.instances.reached i.1 (omega arith) (omega arith) in
            let d = zip_given (IsServing s g whole.origins whole.first) (needs g whole.origins) whole.connections.given r.connection whole.connections.each
            (in_by_place (filter_map (λ c. c) whole.connections.given) r.connection (subst (λ l. Contains l r.connection) whole.connections.connections r.there)) in
            given r.connection r.given r.before d.0 d.1 (source_of s whole.first d.0) refl d.2

    named_there : slice_get b.named k ≡ Some i
    named_there = ap (λ l. slice_get l k) drawn.named ∙ by (get_either (named_of origins) (named_from (0 + length origins) ahead.0) k i (ap (λ l. slice_get l k) (sym (named_behind 0 origins ahead.0) ∙ ap named_of (sym ahead.1)) ∙ there))
      where
        by : (slice_get (named_of origins) k ≡ Some i) ⊎ IsIn i (named_from (0 + length origins) ahead.0) → slice_get (named_of origins) k ≡ Some i
        by (inl h) = h
        by (inr h) =
            let above : 0 + length origins ≤ i.1 = all_in (λ (j : List ℕ × ℕ). 0 + length origins ≤ j.1) (named_from (0 + length origins) ahead.0) i (named_above (0 + length origins) ahead.0) h in
            let below = is_there in
            absurd (omega arith)

    module _ (later : List ComponentEntry) (components : g.components ≡ b.graph.components ++ later) where
      pub record HasTaken : Type 0 where
        pub new : Built
        pub turn : HasTurn s k b new
        pub after : List Origin
        pub found_after : List ComponentEntry
        pub drawn_after : IsDrawn s whole.first new after found_after
        pub wired_after : IsWired s whole.first new after (front_needs (suc k))
        pub rest : List ComponentEntry
        pub all : g.components ≡ new.graph.components ++ rest

      pub has_taken : HasTaken
      has_taken = by (all_at (λ (i : List ℕ × ℕ). HasGoodArguments s.settings g i.0 i.1) (named_of whole.origins) k i there whole.arguments_good)
        where
          by : HasGoodArguments s.settings g i.0 i.1 → HasTaken
          by good = finish (has_served b origins found (front_needs k) drawn wired later components i.0 i.1 (import_names good.component.shape) (back_needs (suc k)) split is_there others (length good.component.shape.imports) (let same = long in omega arith))
            where
              own : needs_of g i ≡ needs_from i.0 i.1 0 (import_names good.component.shape)
              own = ap (needs_by i.0 i.1) good.made_from

              long : length (import_names good.component.shape) ≡ length good.component.shape.imports
              long = length-map good.component.shape.imports (λ (e : List ℕ × EntityTree). e.0)

              split : needs g whole.origins ≡ front_needs k ++ (needs_from i.0 i.1 0 (import_names good.component.shape) ++ back_needs (suc k))
              split = needs_cut k ∙ ap (λ l. front_needs k ++ flat_map (needs_of g) l) (split_at (named_of whole.origins) k i there) ∙ ap (λ l. front_needs k ++ (l ++ back_needs (suc k))) own

              others : AllByRecursion (λ (d : Need). d.target < i.1) (front_needs k)
              others =
                  all_flat (needs_of g) (λ (j : List ℕ × ℕ). j.1 < i.1) (λ (d : Need). d.target < i.1)
                  (λ j h. all_weaker (λ (d : Need). d.target ≡ j.1) (λ (d : Need). d.target < i.1) (λ d e. subst (λ m. m < i.1) (sym e) h) (needs_of g j) (targets_of g j))
                  (take k (named_of whole.origins)) (earlier_below 0 whole.origins k i there)

              finish : HasServed b origins found (front_needs k) drawn wired later components i.0 i.1 (import_names good.component.shape) (back_needs (suc k)) split is_there others (length good.component.shape.imports) → HasTaken
              finish p = record {
                new = p.new;
                turn = record {
                  name = i.0;
                  id = i.1;
                  there = named_there;
                  component = good.component;
                  made_from = same_component root s g whole b origins found drawn later components ahead.0 ahead.1 i.1 is_there ∙ good.made_from;
                  served = p.steps;
                };
                after = r.after;
                found_after = r.found;
                drawn_after = r.drawn;
                wired_after = subst (IsWired s whole.first p.new r.after) (sym more) r.wired;
                rest = p.after;
                all = p.all;
              }
                where
                  r : IsStepped s whole.first b origins (front_needs k ++ take (length good.component.shape.imports) (needs_from i.0 i.1 0 (import_names good.component.shape))) p.new
                  r = imports_stepped s whole.first b origins found (front_needs k) i.0 i.1 (import_names good.component.shape) drawn wired is_there (length good.component.shape.imports) p.new p.steps

                  every : take (length good.component.shape.imports) (needs_from i.0 i.1 0 (import_names good.component.shape)) ≡ needs_from i.0 i.1 0 (import_names good.component.shape)
                  every = take_all (length good.component.shape.imports) (needs_from i.0 i.1 0 (import_names good.component.shape)) (let all = needs_long i.0 i.1 0 (import_names good.component.shape) in let same = long in omega arith)

                  more : front_needs (suc k) ≡ front_needs k ++ take (length good.component.shape.imports) (needs_from i.0 i.1 0 (import_names good.component.shape))
                  more =
                      ap (λ l. flat_map (needs_of g) (take (suc k) l)) (sym (append-nil (named_of whole.origins))) ∙ ap (flat_map (needs_of g)) (take_suc (named_of whole.origins) [] k i there)
                      ∙ flat_map-append (needs_of g) (take k (named_of whole.origins)) (i ∷ []) ∙ ap (λ l. front_needs k ++ l) (append-nil (needs_of g i) ∙ own ∙ sym every)

  -- ---- all turns

  module _ (start : Built) (origins : List Origin) (found : List ComponentEntry) (drawn : IsDrawn s whole.first start origins found) (wired : IsWired s whole.first start origins [])
      (later : List ComponentEntry) (components : g.components ≡ start.graph.components ++ later) where
    pub record HasTurned (k : ℕ) : Type 0 where
      pub new : Built
      pub turns : AfterSteps (HasTurn s) start k new
      pub after : List Origin
      pub found_after : List ComponentEntry
      pub drawn_after : IsDrawn s whole.first new after found_after
      pub wired_after : IsWired s whole.first new after (front_needs k)
      pub rest : List ComponentEntry
      pub all : g.components ≡ new.graph.components ++ rest

    pub has_turned : (k : ℕ) → k ≤ length (named_of whole.origins) → HasTurned k
    has_turned zero less = record { new = start; turns = refl; after = origins; found_after = found; drawn_after = drawn; wired_after = wired; rest = later; all = components }
    has_turned (suc k) less = by (has_turned k (omega (arith, less))) (get_within (named_of whole.origins) k (omega (arith, less)))
      where
        by : HasTurned k → (i : List ℕ × ℕ) × (slice_get (named_of whole.origins) k ≡ Some i) → HasTurned (suc k)
        by p i = one (has_taken k i.0 i.1 p.new p.after p.found_after p.drawn_after p.wired_after p.rest p.all)
          where
            one : HasTaken k i.0 i.1 p.new p.after p.found_after p.drawn_after p.wired_after p.rest p.all → HasTurned (suc k)
            one t = record {
              new = t.new;
              turns = (p.new, p.turns, t.turn);
              after = t.after;
              found_after = t.found_after;
              drawn_after = t.drawn_after;
              wired_after = t.wired_after;
              rest = t.rest;
              all = t.all;
            }
