-- Instances keep one name for one type.
use Rattle.std.proofs.Common.{◌≡◌, ℕ, ◌+◌, ◌-◌, Bool, true, false, cond, ◌&&◌, List, [], ◌∷◌, ◌++◌, Option, Some, None, Ok, refl, sym, ap, subst, ◌∙◌, arith}
use Rattle.std.specs.Prelude.{nat_lt, unwrap_or, option_map, flat_map, ◌==◌}
use Rattle.std.specs.List.{AllByRecursion, list_any}
use Rattle.std.specs.Option.{option_map_or}
use Rattle.std.specs.Str.{bytes_eq}
use Rattle.warg_values.specs.ReadingLaws.{bind_ok, ok_is, never, guard_ok, wanted_ok}
use Rattle.comp_format.specs.declared.types.Arg.{Arg}
use Rattle.comp_format.specs.declared.types.InstanceItem.{InstanceItem}
use Rattle.comp_format.specs.declared.types.InstanceItem.TheVariants as instance
use Rattle.comp_entity.specs.Bounds.{ShapeFault, Index, DoesNotFit, Bounds}
use Rattle.comp_entity.specs.Entity.{Name, made, brought, ValueTree, IsInstance, IsComponent, Entries, no_entry, entry}
use Rattle.comp_entity.specs.Fits.{Stands, same_name, under, fits_with, all_fit, all_stand, resource_for, place_for}
use Rattle.comp_entity.specs.Names.{Change, changing, deeper, value_by, entity_by, entries_by, Mention, OfResource, OfPlace, in_entries, resource_at, place_at, Counts, counts_at}
use Rattle.comp_scope.specs.Spaces.{Spaces, Standing, at_index, standing, is_taken, counts_sum, entries_in}
use Rattle.comp_scope.specs.Instances.{given, resource_in, or_made, place_in, arguments_fit, mentions_of, with_names, instance_of, instantiated, members, all_have_bit, with_instance}
use Rattle.comp_coherence.specs.Coherence.{closed_off, Names, within, any_resource, Coheres, AllCohere}
use Rattle.comp_coherence.proofs.Changes.{back, joined, Asked, all_carried}
use Rattle.comp_coherence.proofs.Scopes.{Holds, Further, ListKept, at_kept, standing_kept, entries_kept, added_holds, no_further, tree_new}
use Rattle.comp_coherence.proofs.Imports.{made_names, made_grows, made_counts}
use Rattle.comp_coherence.proofs.Mentions.{Numbered, numbers_asked, below_beyond}
use Rattle.comp_coherence.proofs.Leaving.{Opens, opens}
use Rattle.comp_coherence.proofs.Fitting as fit

-- arguments fit where they fit as entries
all_fit_is : (c : Change) (arguments imports : Entries) → arguments_fit c arguments imports ≡ all_fit same_name arguments (entries_by c 0 imports)
all_fit_is c arguments no_entry = refl
all_fit_is c arguments (entry name asked mark rest) =
    ap (λ b. option_map_or (λ e. fits_with same_name e.0 (entity_by c 0 asked)) (under name arguments) false && b) (all_fit_is c arguments rest)

all_both : {X : Type 0} (P Q R : X → Type 0) → ((x : X) → P x → Q x → R x) → (xs : List X) → AllByRecursion P xs → AllByRecursion Q xs → AllByRecursion R xs
all_both P Q R both [] p q = tt
all_both P Q R both (x ∷ xs) p q = (both x p.0 q.0, all_both P Q R both xs p.1 q.1)

-- an own name of a component is one that it makes, or one that its imports bring
own_name : (P : Name → Type 0) (n : Name) → nat_lt n.out 2 ≡ true → ((k : ℕ) → n ≡ made k → P (made k)) → ((k : ℕ) → n ≡ brought k → P (brought k)) → P n
own_name P n lt makes brings = of (n.out == 0) refl
  where
    of : (b : Bool) → (n.out == 0) ≡ b → P n
    of true zeroth =
        let out : n.out ≡ 0 = grind arith in
        let is : n ≡ made n.number = ap (λ o. record { out = o; number = n.number }) out in
        subst P (sym is) (makes n.number is)
    of false other =
        let out : n.out ≡ 1 = grind arith in
        let is : n ≡ brought n.number = ap (λ o. record { out = o; number = n.number }) out in
        subst P (sym is) (brings n.number is)

module _ (b : Bounds) (is_closed : Bool) (names around : Names) (s : Spaces) (h : Holds is_closed s names around) where
  module _ (imports exports arguments : Entries) (args : AllCohere names arguments) (own : Name → Option ValueTree) (is_kept : AllCohere (within 2 (any_resource own) (closed_off names)) imports) (es_kept : AllCohere (within 2 (any_resource own) (closed_off names)) exports) where
    abbrev asked_names : Names
    asked_names = within 2 (any_resource own) (closed_off names)

    abbrev mentions : List (ℕ × Mention)
    mentions = mentions_of imports exports

    abbrev makes : Counts
    makes = counts_at 0 mentions

    abbrev brings : Counts
    brings = counts_at 1 mentions

    abbrev there : List Stands
    there = all_stand arguments imports

    abbrev f : Name → Name
    f = resource_in s makes there

    abbrev g : Name → Name
    g = place_in s makes there

    abbrev given_tree : ValueTree → ValueTree
    given_tree t = value_by (changing f g) 0 t

    abbrev trees : ℕ → Option ValueTree
    trees j = cond (nat_lt j makes.places) (option_map given_tree (own (made j))) (option_map given_tree (own (brought (j - makes.places))))

    abbrev total : Counts
    total = counts_sum makes brings

    abbrev later : Names
    later = made_names b is_closed names around s h total trees

    abbrev ResourceBelow : Name → Type 0
    ResourceBelow n = Numbered 0 (λ k. nat_lt k makes.resources ≡ true) n × Numbered 1 (λ k. nat_lt k brings.resources ≡ true) n

    abbrev PlaceBelow : Name → Type 0
    PlaceBelow n = Numbered 0 (λ k. nat_lt k makes.places ≡ true) n × Numbered 1 (λ k. nat_lt k brings.places ≡ true) n

    module _ (fits : arguments_fit (changing f g) arguments imports ≡ true) where
      all_stand_kept : AllByRecursion (fit.Standing f g names asked_names) there
      all_stand_kept = fit.all_stands_kept f g names asked_names arguments imports args is_kept (sym (all_fit_is (changing f g) arguments imports) ∙ fits)

      grows_to : (r : Name) → names.resource r ≡ true → later.resource r ≡ true
      grows_to = (made_grows b is_closed names around s h total trees).resource

      tree_grows : (n : Name) (t : ValueTree) → names.tree n ≡ Some t → later.tree n ≡ Some t
      tree_grows = (made_grows b is_closed names around s h total trees).tree

      far_out : (m : Name) (x y : Name) → cond (m.out + 2 == 0) x (cond (m.out + 2 == 1) y (record { out = m.out + 2 - 2; number = m.number })) ≡ m
      far_out m x y =
          let zeroth : (m.out + 2 == 0) ≡ false = grind arith in
          let first : (m.out + 2 == 1) ≡ false = grind arith in
          let same : m.out + 2 - 2 ≡ m.out = omega arith in
          rw (zeroth, first) (ap (λ o. record { out = o; number = m.number }) same)

      resource_given : (k : ℕ) → nat_lt k brings.resources ≡ true → later.resource (f (brought k)) ≡ true
      resource_given k lt = of (resource_for there (brought k)) refl
        where
          of : (o : Option Name) → resource_for there (brought k) ≡ o → later.resource (unwrap_or o (made (s.made.resources + makes.resources + k))) ≡ true
          of (Some x) at = grows_to x (fit.resource_stands f g names asked_names there (brought k) x all_stand_kept at)
          of None at = grind arith

      own_resource : (r : Name) → nat_lt r.out 2 ≡ true → ResourceBelow r → later.resource (f r) ≡ true
      own_resource r lt below = own_name (λ r. later.resource (f r) ≡ true) r lt
          (λ k is. let less : nat_lt k makes.resources ≡ true = (subst ResourceBelow is below).0 refl in grind arith)
          (λ k is. resource_given k ((subst ResourceBelow is below).1 refl))

      -- a place that the component made, and one that its imports brought and for which none stands
      made_tree : (k : ℕ) (t : ValueTree) → nat_lt k makes.places ≡ true → own (made k) ≡ Some t → later.tree (made (s.made.places + k)) ≡ Some (given_tree t)
      made_tree k t lt is =
          let within_total : nat_lt k total.places ≡ true = grind arith in
          tree_new names 0 s.made.places total.places (s.made.resources + total.resources) trees k within_total
          ∙ ap (λ b. cond b (option_map given_tree (own (made k))) (option_map given_tree (own (brought (k - makes.places))))) lt
          ∙ ap (option_map given_tree) is

      brought_tree : (k : ℕ) (t : ValueTree) → nat_lt k brings.places ≡ true → own (brought k) ≡ Some t → later.tree (made (s.made.places + makes.places + k)) ≡ Some (given_tree t)
      brought_tree k t lt is =
          let j : ℕ = makes.places + k in
          let within_total : nat_lt (makes.places + k) total.places ≡ true = grind arith in
          let past : nat_lt (makes.places + k) makes.places ≡ false = grind arith in
          let back : makes.places + k - makes.places ≡ k = omega arith in
          let at : s.made.places + makes.places + k ≡ s.made.places + (makes.places + k) = omega arith in
          ap (λ n. later.tree (made n)) at
          ∙ tree_new names 0 s.made.places total.places (s.made.resources + total.resources) trees (makes.places + k) within_total
          ∙ ap (λ b. cond b (option_map given_tree (own (made (makes.places + k)))) (option_map given_tree (own (brought (makes.places + k - makes.places))))) past
          ∙ ap (λ n. option_map given_tree (own (brought n))) back
          ∙ ap (option_map given_tree) is

      tree_given : (k : ℕ) (t : ValueTree) → nat_lt k brings.places ≡ true → own (brought k) ≡ Some t → later.tree (g (brought k)) ≡ Some (given_tree t)
      tree_given k t lt is = of (place_for there (brought k)) refl
        where
          of : (o : Option (Option Name)) → place_for there (brought k) ≡ o → later.tree (or_made (s.made.places + makes.places + k) o) ≡ Some (given_tree t)
          of None at = brought_tree k t lt is
          of (Some None) at = brought_tree k t lt is
          of (Some (Some p)) at =
              let found = fit.place_stands_for f g names asked_names there (brought k) p all_stand_kept at in
              let same : found.0 ≡ t = (let both : Some found.0 ≡ Some t = sym found.1 ∙ is in cc) in
              tree_grows p (given_tree found.0) found.2 ∙ ap (λ t. Some (given_tree t)) same

      own_tree : (n : Name) (t : ValueTree) → nat_lt n.out 2 ≡ true → PlaceBelow n → own n ≡ Some t → later.tree (g n) ≡ Some (given_tree t)
      own_tree n t lt below is = own_name (λ n. later.tree (g n) ≡ Some (given_tree t)) n lt
          (λ k at. made_tree k t ((subst PlaceBelow at below).0 refl) (ap own (sym at) ∙ is))
          (λ k at. tree_given k t ((subst PlaceBelow at below).1 refl) (ap own (sym at) ∙ is))

      opens_component : Opens f g ResourceBelow PlaceBelow 2 own (closed_off names) later
      opens_component = record {
        outer_f = λ m. far_out m (made (s.made.resources + m.number)) (unwrap_or (resource_for there (deeper 2 m)) (made (s.made.resources + makes.resources + m.number)));
        outer_g = λ m. far_out m (made (s.made.places + m.number)) (or_made (s.made.places + makes.places + m.number) (place_for there (deeper 2 m)));
        own_resource = own_resource;
        own_tree = own_tree;
        outer_resource = λ m h. absurd cc;
        outer_tree = λ m t only is. tree_grows m t is;
      }

      mentions_asked : AllByRecursion (Asked f g (λ m. m) ResourceBelow PlaceBelow) mentions
      mentions_asked = all_both (Asked f g (λ m. m) (Numbered 0 (λ k. nat_lt k makes.resources ≡ true)) (Numbered 0 (λ k. nat_lt k makes.places ≡ true)))
          (Asked f g (λ m. m) (Numbered 1 (λ k. nat_lt k brings.resources ≡ true)) (Numbered 1 (λ k. nat_lt k brings.places ≡ true)))
          (Asked f g (λ m. m) ResourceBelow PlaceBelow) one mentions
          (numbers_asked f g (λ m. m) 0 (λ k. nat_lt k makes.resources ≡ true) (λ k. nat_lt k makes.places ≡ true) mentions (below_beyond (flat_map (resource_at 0) mentions)) (below_beyond (flat_map (place_at 0) mentions)))
          (numbers_asked f g (λ m. m) 1 (λ k. nat_lt k brings.resources ≡ true) (λ k. nat_lt k brings.places ≡ true) mentions (below_beyond (flat_map (resource_at 1) mentions)) (below_beyond (flat_map (place_at 1) mentions)))
        where
          one : (m : ℕ × Mention) → Asked f g (λ m. m) (Numbered 0 (λ k. nat_lt k makes.resources ≡ true)) (Numbered 0 (λ k. nat_lt k makes.places ≡ true)) m
              → Asked f g (λ m. m) (Numbered 1 (λ k. nat_lt k brings.resources ≡ true)) (Numbered 1 (λ k. nat_lt k brings.places ≡ true)) m
              → Asked f g (λ m. m) ResourceBelow PlaceBelow m
          one (d, OfResource r) p q = λ le. (p le, q le)
          one (d, OfPlace n) p q = λ le. (p le, q le)

      exports_kept : AllCohere later (entries_by (changing f g) 0 exports)
      exports_kept =
          all_carried f g (λ m. m) ResourceBelow PlaceBelow 0 asked_names later (opens f g ResourceBelow PlaceBelow 2 own (closed_off names) later opens_component) exports es_kept
          (back (Asked f g (λ m. m) ResourceBelow PlaceBelow) (in_entries 0 imports) (in_entries 0 exports) mentions_asked)

    instance_of_kept : (after : Spaces) → instance_of b s imports exports arguments ≡ Ok after → Further is_closed after names around
    unfolding instance_of
    instance_of_kept after is =
        let fits = wanted_ok (arguments_fit (changing f g) arguments imports) DoesNotFit _ after is in
        record {
          later = later;
          grows = made_grows b is_closed names around s h total trees;
          holds = added_holds later is_closed around (with_names s imports exports) (made_counts b is_closed names around s h total trees) b (IsInstance (entries_by (changing f g) 0 exports)) true after (exports_kept fits.0) fits.1;
        }

  given_kept : (args : List Arg) (es : List (List ℕ × Standing)) → given s args ≡ Ok es → ListKept names es
  unfolding given
  given_kept [] es is = subst (ListKept names) (ok_is {F = ShapeFault} [] es is) tt
  given_kept (a ∷ args) es is =
      let e = bind_ok (standing s a.sort a.index) _ es is in
      let rest = bind_ok (given s args) _ es e.2 in
      let new = guard_ok (list_any (λ other. bytes_eq a.name other.0) rest.0) Index (Ok ((a.name, e.0) ∷ rest.0)) es rest.2 in
      subst (ListKept names) (ok_is {F = ShapeFault} ((a.name, e.0) ∷ rest.0) es new.1) (standing_kept names s a.sort a.index e.0 h.kept e.1, given_kept args rest.0 rest.1)

  members_kept : (so_far : List (List ℕ × Standing)) (ms : List Arg) (es : List (List ℕ × Standing)) → ListKept names so_far → members s so_far ms ≡ Ok es → ListKept names es
  unfolding members
  members_kept so_far [] es k is = subst (ListKept names) (ok_is {F = ShapeFault} so_far es is) k
  members_kept so_far (m ∷ ms) es k is =
      let new = guard_ok (is_taken m.name so_far) Index _ es is in
      let e = bind_ok (standing s m.sort m.index) _ es new.1 in
      members_kept (so_far ++ (m.name, e.0) ∷ []) ms es
      (joined (λ (e : List ℕ × Standing). Coheres names e.1.0) so_far ((m.name, e.0) ∷ []) k (standing_kept names s m.sort m.index e.0 h.kept e.1, tt)) e.2

  instantiated_kept : (args : List (List ℕ × Standing)) (c : Standing) (after : Spaces) → ListKept names args → Coheres names c.0 → instantiated b s args c ≡ Ok after → Further is_closed after names around
  instantiated_kept args (IsComponent is es, named) after a k e = instance_of_kept is es (entries_in args) (entries_kept names args a) k.0 k.1 k.2 after e
  instantiated_kept args _ after a k is = never _ _ is

  pub with_instance_kept : (i : InstanceItem) (after : Spaces) → with_instance b s i ≡ Ok after → Further is_closed after names around
  unfolding with_instance
  with_instance_kept (instance.Instantiate component args) after is =
      let c = bind_ok (at_index s.components component) _ after is in
      let given_args = bind_ok (given s args) _ after c.2 in
      instantiated_kept given_args.0 c.0 after (given_kept args given_args.0 given_args.1) (at_kept names s.components component c.0 h.kept.components c.1) given_args.2
  with_instance_kept (instance.Exports args) after is =
      let ms = bind_ok (members s [] args) _ after is in
      no_further is_closed after names around
      (added_holds names is_closed around s h b (IsInstance (entries_in ms.0)) (all_have_bit ms.0) after (entries_kept names ms.0 (members_kept [] args ms.0 tt ms.1)) ms.2)
