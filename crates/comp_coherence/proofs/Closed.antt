-- What a component makes is numbered anew where it closes: one name stands for one type as before.
use Rattle.std.proofs.Common.{◌≡◌, ℕ, ◌+◌, ◌-◌, ◌≤◌, Bool, true, false, cond, List, ◌++◌, length, get_or, Option, Some, None, refl, sym, ap, subst, ◌∙◌, arith}
use Rattle.std.specs.Prelude.{nat_lt, unwrap_or, option_map, flat_map, ◌==◌}
use Rattle.std.specs.List.{AllByRecursion, position}
use Rattle.comp_entity.specs.Entity.{Name, made, ValueTree, EntityTree, Entries, no_entry, entry}
use Rattle.comp_entity.specs.NameLaws.{value_twice, value_kept, outside_twice, entity_twice, entity_kept, unchanged}
use Rattle.comp_entity.specs.Names.{Change, changing, deeper, place_by, value_by, entity_by, entries_by, Mention, in_entity, in_entries, resource_at, place_at, Counts}
use Rattle.comp_scope.specs.Closing.{first_mentions, renumbered, closed}
use Rattle.comp_scope.specs.Shape as shape
use Rattle.comp_scope.specs.Spaces.{Known, entries_in}
use Rattle.comp_coherence.specs.Coherence.{closed_off, Names, inward, within, any_resource, Coheres, AllCohere, EachCoheres}
use Rattle.comp_coherence.proofs.Values.{same_value}
use Rattle.comp_coherence.proofs.Changes.{as_is, Anything, Asked, Carries, naming, by_depth, outside_zero, resource_near, resource_far, tree_near, tree_far, some_of, front, back, everywhere, never_asked, entity_carried, all_carried}
use Rattle.comp_coherence.proofs.Scopes.{ScopeNames, HoldsAll, entries_kept}
use Rattle.comp_coherence.proofs.Mentions.{Numbered, numbers_asked, Ordered, all_ordered}

-- names of a component that are numbered in these orders
module _ (makes brings : Counts) (names around : Names) (n : ScopeNames true makes brings names around) (resources places : List ℕ) where
  abbrev f : Name → Name
  f = renumbered resources

  abbrev g : Name → Name
  g = renumbered places

  abbrev again : ValueTree → ValueTree
  again t = value_by (changing f g) 0 t

  -- the trees of the component's own names
  abbrev pub own_trees : Name → Option ValueTree
  own_trees n = cond (n.out == 0) (option_map again (names.tree (made (get_or places n.number 0)))) (option_map again (names.tree n))

  abbrev pub closed_names : Names
  closed_names = within 2 (any_resource own_trees) around

  far_stays : (order : List ℕ) (m : Name) → renumbered order (deeper 2 m) ≡ deeper 2 m
  far_stays order m = let far : (m.out + 2 == 0) ≡ false = grind arith in rw far refl

  again_far : (t : ValueTree) → again (inward 2 t) ≡ inward 2 t
  again_far t =
      value_twice (changing f g) (changing (deeper 2) (deeper 2)) (changing (deeper 2) (deeper 2))
      (record {
        resource = outside_twice f (deeper 2) (deeper 2) (far_stays resources);
        place = λ d n. ap Some (outside_twice g (deeper 2) (deeper 2) (far_stays places) d n);
        mark = λ m. refl;
      }) 0 t

  abbrev ResourceKept : Name → Type 0
  ResourceKept r = names.resource r ≡ true → closed_names.resource (f r) ≡ true

  near_stays : (r : Name) → nat_lt r.out 2 ≡ true → nat_lt (f r).out 2 ≡ true
  near_stays r lt = of (r.out == 0)
    where
      of : (b : Bool) → nat_lt (cond b (made (unwrap_or (position (λ m. m == r.number) resources) (length resources))) r).out 2 ≡ true
      of true = refl
      of false = lt

  resource_in : (r : Name) → nat_lt r.out 2 ≡ true → ResourceKept r
  resource_in r lt h = resource_near 2 (any_resource own_trees) around (f r) (near_stays r lt)

  resource_out : (m : Name) → ResourceKept (deeper 2 m)
  resource_out m h = ap closed_names.resource (far_stays resources m) ∙ resource_far 2 (any_resource own_trees) around m ∙ sym (n.outer_resource m) ∙ h

  abbrev TreeKept : Name → Type 0
  TreeKept m = (t : ValueTree) → Numbered 0 (Ordered places) m → names.tree m ≡ Some t → closed_names.tree (g m) ≡ Some (again t)

  tree_in : (m : Name) → nat_lt m.out 2 ≡ true → TreeKept m
  tree_in m lt t asked is = of (m.out == 0) refl
    where
      numbered_tree : m.out ≡ 0 → Ordered places m.number → closed_names.tree (made (unwrap_or (position (λ k. k == m.number) places) (length places))) ≡ Some (again t)
      numbered_tree out o =
          ap (λ p. closed_names.tree (made (unwrap_or p (length places)))) o.1
          ∙ ap (λ k. option_map again (names.tree (made k))) o.2
          ∙ ap (λ z. option_map again (names.tree (record { out = z; number = m.number }))) (sym out)
          ∙ ap (option_map again) is

      of : (b : Bool) → (m.out == 0) ≡ b → closed_names.tree (cond b (made (unwrap_or (position (λ k. k == m.number) places) (length places))) m) ≡ Some (again t)
      of true zeroth = let out : m.out ≡ 0 = grind arith in numbered_tree out (asked out)
      of false other =
          tree_near 2 (any_resource own_trees) around m lt
          ∙ ap (λ b. cond b (option_map again (names.tree (made (get_or places m.number 0)))) (option_map again (names.tree m))) other
          ∙ ap (option_map again) is

  tree_out : (m : Name) → TreeKept (deeper 2 m)
  tree_out m t asked is =
      let u = some_of (inward 2) (around.tree m) t (sym (n.outer_tree m) ∙ is) in
      ap closed_names.tree (far_stays places m) ∙ tree_far 2 (any_resource own_trees) around m ∙ sym (n.outer_tree m) ∙ is
      ∙ ap Some (sym u.2 ∙ sym (again_far u.0) ∙ ap again u.2)

  asked_zero : (P : Name → Type 0) (n : Name) → (0 ≤ n.out → P (record n { out = n.out - 0 })) → P n
  asked_zero P n h =
      let same : n.out - 0 ≡ n.out = omega arith in
      subst (λ k. P (record { out = k; number = n.number })) same (h (omega arith))

  renumbered_carries : Carries f g (λ m. m) (Numbered 0 (Ordered resources)) (Numbered 0 (Ordered places)) 0 names closed_names
  renumbered_carries = record {
    resource = λ r asked h. ap closed_names.resource (outside_zero f r) ∙ by_depth ResourceKept 2 resource_in resource_out r h;
    tree = λ m t asked only h.
        ap closed_names.tree (outside_zero g m) ∙ by_depth TreeKept 2 tree_in tree_out m t (asked_zero (Numbered 0 (Ordered places)) m asked) h;
  }

  pub entries_renumbered : (es : Entries) → AllCohere names es → AllByRecursion (Asked f g (λ m. m) (Numbered 0 (Ordered resources)) (Numbered 0 (Ordered places))) (in_entries 0 es) → AllCohere closed_names (entries_by (changing f g) 0 es)
  entries_renumbered es h m = all_carried f g (λ m. m) (Numbered 0 (Ordered resources)) (Numbered 0 (Ordered places)) 0 names closed_names renumbered_carries es h m

-- a component, or a type of components, that is closed
pub record Closes (around : Names) (k : Known) : Type 0 where
  pub own : Name → Option ValueTree
  pub imports : AllCohere (within 2 (any_resource own) (closed_off around)) (closed k).imports
  pub exports : AllCohere (within 2 (any_resource own) (closed_off around)) (closed k).exports

module _ (names around : Names) (k : Known) (h : HoldsAll true k names around) where
  abbrev all_mentions : List (ℕ × Mention)
  all_mentions = in_entries 0 (entries_in k.exports) ++ in_entries 0 (entries_in k.imports)

  abbrev resource_order : List ℕ
  resource_order = first_mentions (flat_map (resource_at 0) all_mentions)

  abbrev place_order : List ℕ
  place_order = first_mentions (flat_map (place_at 0) all_mentions)

  abbrev InOrder : ℕ × Mention → Type 0
  InOrder = Asked (renumbered resource_order) (renumbered place_order) (λ m. m) (Numbered 0 (Ordered resource_order)) (Numbered 0 (Ordered place_order))

  in_order : AllByRecursion InOrder all_mentions
  in_order =
      numbers_asked (renumbered resource_order) (renumbered place_order) (λ m. m) 0 (Ordered resource_order) (Ordered place_order) all_mentions
      (all_ordered (flat_map (resource_at 0) all_mentions)) (all_ordered (flat_map (place_at 0) all_mentions))

  pub closes : Closes around k
  closes = record {
    own = own_trees k.spaces.made k.spaces.brought names (closed_off around) h.spaces.scope resource_order place_order;
    imports = entries_renumbered k.spaces.made k.spaces.brought names (closed_off around) h.spaces.scope resource_order place_order (entries_in k.imports) (entries_kept names k.imports h.imports)
        (back InOrder (in_entries 0 (entries_in k.exports)) (in_entries 0 (entries_in k.imports)) in_order);
    exports = entries_renumbered k.spaces.made k.spaces.brought names (closed_off around) h.spaces.scope resource_order place_order (entries_in k.exports) (entries_kept names k.exports h.exports)
        (front InOrder (in_entries 0 (entries_in k.exports)) (in_entries 0 (entries_in k.imports)) in_order);
  }

-- ---- what is listed in a shape

abbrev marking : Change
marking = naming as_is as_is (λ m. true) Anything Anything

abbrev no_change : Change
no_change = changing as_is as_is

same_places : (p : Option Name) → place_by marking 0 (place_by no_change 0 p) ≡ place_by no_change 0 (place_by no_change 0 p)
same_places None = refl
same_places (Some n) = refl

unmarked : (t : ValueTree) → value_by no_change 0 t ≡ t
unmarked t = value_kept no_change unchanged 0 t

value_same : (t : ValueTree) → value_by marking 0 t ≡ t
value_same t =
    ap (value_by marking 0) (sym (unmarked t)) ∙ same_value marking no_change no_change no_change 0 0 0 0 (λ n. refl) same_places t
    ∙ unmarked (value_by no_change 0 t) ∙ unmarked t

module _ (names : Names) where
  marked_is : (e : EntityTree) → entity_by shape.settled 0 e ≡ entity_by marking 0 e
  marked_is e =
      sym (ap (entity_by shape.settled 0) (entity_kept (changing as_is as_is) unchanged 0 e))
      ∙ entity_twice shape.settled (changing as_is as_is) marking
      (record { resource = λ d n. refl; place = λ d n. refl; mark = λ m. refl }) 0 e

  marked_kept : (e : EntityTree) → Coheres names e → Coheres names (entity_by shape.settled 0 e)
  marked_kept e h =
      subst (Coheres names) (sym (marked_is e))
      (entity_carried as_is as_is (λ m. true) Anything Anything 0 names names
      (record {
        resource = λ r asked h. ap names.resource (outside_zero as_is r) ∙ h;
        tree = λ n t asked only h. ap names.tree (outside_zero as_is n) ∙ h ∙ ap Some (sym (value_same t));
      })
      e h (everywhere (Asked as_is as_is (λ m. true) Anything Anything) (never_asked as_is as_is (λ m. true)) (in_entity 0 e)))

  pub listed_kept : (es : Entries) → AllCohere names es → EachCoheres names (shape.listed es)
  listed_kept no_entry h = tt
  listed_kept (entry name e mark es) h = (marked_kept e h.0, listed_kept es h.1)
