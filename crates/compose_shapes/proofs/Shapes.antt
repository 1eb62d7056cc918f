-- Shapes that are read name what they mention, and mention nothing of scopes around them.
use Rattle.std.proofs.Common.{◌≡◌, ◌||◌, ◌+◌, ◌-◌, ℕ, suc, Bool, true, false, List, [], ◌∷◌, ◌++◌, map, Option, Some, None, Result, Ok, refl, sym, ap, subst, ◌∙◌, arith}
use Rattle.std.specs.Prelude.{IfOk, find, flat_map, nat_le, option_to_list, if◌then◌else◌}
use Rattle.std.specs.List.{AllByRecursion, list_any}
use Rattle.std.proofs.lemmas.Bool.{le-leb}
use Rattle.std.proofs.lemmas.Grind.{flat_map-append}
use Rattle.std.proofs.lemmas.List.Folds.{list_any-append}
use Rattle.comp_entity.specs.Bounds.{Bounds, ShapeFault, TooBig, entries_nodes, is_within}
use Rattle.comp_entity.specs.Entity.{Name, brought, EntityTree, IsType, IsFunc, IsInstance, IsComponent, IsModule, IsOwnModule, Entries, no_entry, entry, ShapeTree}
use Rattle.comp_entity.specs.NameLaws.{entity_kept, entity_twice, unchanged}
use Rattle.comp_entity.specs.Names.{changing, entity_by, entries_by, Mention, OfResource, OfPlace, in_entity, in_entries}
use Rattle.comp_entity.specs.Places.{Path, leaves_of, leaves_in}
use Rattle.comp_entity.specs.Views.{entries_of}
use Rattle.comp_scope.specs.Closing.{renumbered, closed}
use Rattle.comp_scope.specs.Shape.{Parts, HasParts, listed, settled, after_parts, shape_within}
use Rattle.comp_scope.specs.Spaces.{Known, entries_in, nothing_known}
use Rattle.compose_left.specs.declared.spots.Spot.{Spot}
use Rattle.compose_left.specs.declared.spots.Thing.{Thing}
use Rattle.compose_left.specs.Origins.{names, same_thing}
use Rattle.compose_left.specs.Spots.{named_by, named_type, spots, spots_from, spots_in, spots_of}
use Rattle.compose_needs.specs.Mentioned.{has, mentioned, outward, outwards}
use Rattle.compose_settled.specs.Named.{BringsAll, BringsMention, HasOwnNames, HaveOwnNames, ImportsBring}
use Rattle.compose_known.specs.Placed.{HasPlaces, HavePlaces}
use Rattle.compose_shapes.proofs.Formed.{parts_formed}
use Rattle.compose_shapes.proofs.Known.{AllGood, IsKnown, Scope, at_once, entries_changed, plain_by, scope}
use Rattle.compose_shapes.proofs.Mentions.{called, naming, thing_by, outwards-append}
use Rattle.compose_shapes.proofs.Parts.{parts_good}
use Rattle.compose_shapes.proofs.Reading.{KnownGood, nothing_good}
use Rattle.compose_shapes.proofs.Scopes.{around_closed, entries_closed}
use Rattle.compose_shapes.proofs.Things.{front, back, has_image}
use Rattle.compose_shapes.proofs.Tied.{AreOrdered, Ordered, entries_named, entries_ordered, entries_placed, names_among, names_of}
use Rattle.compose_shapes.proofs.Values.{passed_ok, then_ok, together}

-- ---- names of exports differ

mutual
  pub own_names : (e : EntityTree) → Ordered e → HasOwnNames e
  own_names (IsInstance es) h = all_own_names es h
  own_names (IsType t) h = tt
  own_names (IsFunc f) h = tt
  own_names (IsComponent is es) h = tt
  own_names (IsModule m) h = tt
  own_names IsOwnModule h = tt

  pub all_own_names : (es : Entries) → AreOrdered es → HaveOwnNames es
  all_own_names no_entry h = tt
  all_own_names (entry name e mark es) h = (h.0, own_names e h.1, all_own_names es h.2)

pub each_own_names : (es : List (List ℕ × EntityTree)) → AreOrdered (entries_of es)
    → AllByRecursion (λ (e : List ℕ × EntityTree). HasOwnNames e.1) es
each_own_names [] h = tt
each_own_names (e ∷ es) h = (own_names e.1 h.1, each_own_names es h.2)

pub each_placed : (es : List (List ℕ × EntityTree)) → HavePlaces (entries_of es)
    → AllByRecursion (λ (e : List ℕ × EntityTree). HasPlaces e.1) es
each_placed [] h = tt
each_placed (e ∷ es) h = (h.0, each_placed es h.1)

-- ---- what is named has a spot

found_at : (p : Spot → Bool) (xs : List Spot) → list_any p xs ≡ true → (spot : Spot) × (find p xs ≡ Some spot)
found_at p [] h = absurd cc
found_at p (x ∷ xs) h = one (p x) (found_at p xs) h
  where
    one : (b : Bool) → (list_any p xs ≡ true → (spot : Spot) × (find p xs ≡ Some spot)) → (b || list_any p xs) ≡ true
        → (spot : Spot) × ((if b then Some x else find p xs) ≡ Some spot)
    one true rest k = (x, refl)
    one false rest k = rest k

abbrev spots_at : ℕ → List ℕ → List (Path × EntityTree) → List Spot
spots_at number name ls = flat_map (λ (leaf : Path × EntityTree). spots_of number name leaf.0 leaf.1) ls

module _ (t : Thing) (number : ℕ) (name : List ℕ) where
  leaf_spot : (path : Path) (e : EntityTree)
      → list_any (names t) (spots_of number name path e ++ []) ≡ has (option_to_list (named_by e)) t
  leaf_spot path e = one (named_by e)
    where
      one : (o : Option Thing) → list_any (names t)
          (map (λ what. record { number = number; name = name; path = path; what = what }) (option_to_list o) ++ [])
          ≡ has (option_to_list o) t
      one None = refl
      one (Some x) = refl

  mutual
    entity_spots : (path : Path) (e : EntityTree)
        → list_any (names t) (spots_at number name (leaves_of path e)) ≡ has (names_of e) t
    entity_spots path (IsType x) = leaf_spot path (IsType x)
    entity_spots path (IsFunc f) = leaf_spot path (IsFunc f)
    entity_spots path (IsInstance es) = entries_spots path es
    entity_spots path (IsComponent is es) = leaf_spot path (IsComponent is es)
    entity_spots path (IsModule m) = leaf_spot path (IsModule m)
    entity_spots path IsOwnModule = leaf_spot path IsOwnModule

    entries_spots : (path : Path) (es : Entries)
        → list_any (names t) (spots_at number name (leaves_in path es)) ≡ has (names_among es) t
    entries_spots path no_entry = refl
    entries_spots path (entry n e mark es) =
        ap (list_any (names t)) (flat_map-append (λ (leaf : Path × EntityTree). spots_of number name leaf.0 leaf.1)
        (leaves_of (path ++ n ∷ []) e) (leaves_in path es))
        ∙ list_any-append (names t) (spots_at number name (leaves_of (path ++ n ∷ []) e))
        (spots_at number name (leaves_in path es))
        ∙ (λ i. entity_spots (path ++ n ∷ []) e i || entries_spots path es i)
        ∙ sym (list_any-append (λ m. same_thing m t) (names_of e) (names_among es))

all_spots : (t : Thing) (number : ℕ) (es : List (List ℕ × EntityTree))
    → list_any (names t) (spots_from number es) ≡ has (names_among (entries_of es)) t
all_spots t number [] = refl
all_spots t number (e ∷ es) =
    list_any-append (names t) (spots_in number e.0 [] e.1) (spots_from (suc number) es)
    ∙ (λ i. entity_spots t number e.0 [] e.1 i || all_spots t (suc number) es i)
    ∙ sym (list_any-append (λ m. same_thing m t) (names_of e.1) (names_among (entries_of es)))

pub is_brought : (s : ShapeTree) (n : ℕ) → has (names_among (entries_of s.imports)) (named_type (brought n)) ≡ true
    → ImportsBring s (named_type (brought n))
is_brought s n h =
    found_at (names (named_type (brought n))) (spots s.imports) (all_spots (named_type (brought n)) 0 s.imports ∙ h)

-- ---- mentions of what is brought

module _ (s : ShapeTree) (seen : List Thing)
    (kept : (n : ℕ) → has seen (named_type (brought n)) ≡ true
    → has (names_among (entries_of s.imports)) (named_type (brought n)) ≡ true) where
  abbrev Here : Thing → Type 0
  Here = IsKnown (scope true seen ∷ [])

  mention_brought : (m : ℕ × Mention) → AllByRecursion Here (outward m) → BringsMention s m
  mention_brought (d, OfResource r) h = tt
  mention_brought (d, OfPlace n) h = λ out.
      let there : nat_le d n.out ≡ true = le-leb d n.out (omega (arith, out)) in
      let one : n.out - d ≡ 1 = omega (arith, out) in
      let known = subst (λ b. AllByRecursion Here (if b then named_type (record { out = n.out - d; number = n.number })
      ∷ [] else [])) there h in
      let near = subst (λ o. Here (record { is_type = true; out = o; number = n.number })) one known.0 in
      is_brought s n.number (kept n.number (near.0 refl))

  mentions_brought : (ms : List (ℕ × Mention)) → AllByRecursion Here (outwards ms) → AllByRecursion (BringsMention s) ms
  mentions_brought [] h = tt
  mentions_brought (m ∷ ms) h = (
    mention_brought m (front Here (outward m) (outwards ms) h),
    mentions_brought ms
        (back Here (outward m) (outwards ms) h),
  )

  pub each_brought : (es : List (List ℕ × EntityTree)) → AllByRecursion Here (outwards (in_entries 0 (entries_of es)))
      → BringsAll s es
  each_brought [] h = tt
  each_brought (e ∷ es) h =
      let parts = subst (AllByRecursion Here) (outwards-append (in_entity 0 e.1) (in_entries 0 (entries_of es))) h in (
        mentions_brought (in_entity 0 e.1) (front Here (mentioned e.1) (outwards (in_entries 0 (entries_of es))) parts),
        each_brought es (back Here (mentioned e.1) (outwards (in_entries 0 (entries_of es))) parts),
      )

-- ---- nothing is mentioned of scopes around

none_of : (ts : List Thing) → AllByRecursion (λ t. ⊥) ts → ts ≡ []
none_of [] h = refl
none_of (t ∷ ts) h = absurd h.0

-- ---- what is listed in a shape

abbrev as_is : Name → Name
as_is n = n

settled_is : (es : Entries) → entries_of (listed es) ≡ entries_by (naming as_is as_is (λ m. true)) 0 es
settled_is no_entry = refl
settled_is (entry name e mark es) = λ i. entry name (one e i) true (settled_is es i)
  where
    one : (e : EntityTree) → entity_by settled 0 e ≡ entity_by (naming as_is as_is (λ m. true)) 0 e
    one e =
        sym (ap (entity_by settled 0) (entity_kept (changing as_is as_is) unchanged 0 e))
        ∙ entity_twice settled (changing as_is as_is) (naming as_is as_is (λ m. true))
        (record { resource = λ d n. refl; place = λ d n. refl; mark = λ m. refl }) 0 e

same_plain : (t : Thing) → plain_by as_is as_is t ≡ t
same_plain t = ap (called t.is_type) (one t.is_type (record { out = t.out; number = t.number }))
  where
    one : (b : Bool) (n : Name) → (if b then n else n) ≡ n
    one true n = refl
    one false n = refl

listed_good : (ss : List Scope) (es : Entries) → AllGood ss es → AllGood ss (entries_of (listed es))
listed_good ss es h = subst (AllGood ss) (sym (settled_is es)) (
  entries_changed as_is as_is (λ m. true) (IsKnown ss) (IsKnown ss) (λ t k. subst (IsKnown ss) (sym (same_plain t)) k)
      es h.0,
  entries_ordered as_is as_is (λ m. true) 0 es h.1,
)

-- what is brought keeps its name where the component closes, and where it is listed
brought_kept : (resources places : List ℕ) (es : Entries) (n : ℕ) → has (names_among es) (named_type (brought n)) ≡ true
    → has (names_among (entries_of (listed (entries_by (changing (renumbered resources) (renumbered places)) 0 es))))
    (named_type (brought n)) ≡ true
brought_kept resources places es n h =
    let f : Name → Name = renumbered resources in
    let g : Name → Name = renumbered places in
    let inner : Entries = entries_by (changing f g) 0 es in
    let one : has (names_among inner) (named_type (brought n)) ≡ true =
    ap (λ ns. has ns (named_type (brought n))) (entries_named f g (λ m. m) 0 es)
    ∙ ap (has (map (thing_by f g (λ m. m) 0) (names_among es))) (sym (at_once f g (λ m. m) (named_type (brought n))))
    ∙ has_image (thing_by f g (λ m. m) 0) (names_among es) (named_type (brought n)) h in
    ap (λ es. has (names_among es) (named_type (brought n))) (settled_is inner)
    ∙ ap (λ ns. has ns (named_type (brought n))) (entries_named as_is as_is (λ m. true) 0 inner)
    ∙ ap (has (map (thing_by as_is as_is (λ m. true) 0) (names_among inner)))
    (sym (at_once as_is as_is (λ m. true) (named_type (brought n))))
    ∙ has_image (thing_by as_is as_is (λ m. true) 0) (names_among inner) (named_type (brought n)) one

closed_placed : (resources places : List ℕ) (es : Entries) → HavePlaces es
    → HavePlaces (entries_by (changing (renumbered resources) (renumbered places)) 0 es)
closed_placed resources places es h = entries_placed (renumbered resources) (renumbered places) (λ m. m) 0 es h

-- ---- shapes

-- what is known of a shape that is read
pub record ShapeGood (s : ShapeTree) : Type 0 where
  pub imports_brought : BringsAll s s.imports
  pub exports_brought : BringsAll s s.exports
  pub imports_ordered : AreOrdered (entries_of s.imports)
  pub exports_ordered : AreOrdered (entries_of s.exports)
  pub imports_placed : HavePlaces (entries_of s.imports)
  pub nothing_around : mentioned (IsComponent (entries_of s.imports) (entries_of s.exports)) ≡ []

known_shape : (k : Known) → KnownGood true [] k
    → ShapeGood (record { imports = listed (closed k).imports; exports = listed (closed k).exports })
known_shape k h =
    let is = entries_closed h.seen [] _ _ (entries_in k.imports) h.imports in
    let es = entries_closed h.seen [] _ _ (entries_in k.exports) h.exports in
    let imports = listed_good (scope true h.seen ∷ []) (closed k).imports is in
    let exports = listed_good (scope true h.seen ∷ []) (closed k).exports es in
    let s : ShapeTree = record { imports = listed (closed k).imports; exports = listed (closed k).exports } in
    let kept : (n : ℕ) → has h.seen (named_type (brought n)) ≡ true
    → has (names_among (entries_of s.imports)) (named_type (brought n)) ≡ true =
    λ n e. brought_kept _ _ (entries_in k.imports) n (ap (λ ns. has ns (named_type (brought n))) h.seen_is ∙ e) in
    record {
      imports_brought = each_brought s h.seen kept s.imports imports.0;
      exports_brought = each_brought s h.seen kept s.exports exports.0;
      imports_ordered = imports.1;
      exports_ordered = exports.1;
      imports_placed =
          subst HavePlaces (sym (settled_is (closed k).imports))
          (entries_placed as_is as_is (λ m. true) 0 (closed k).imports
          (closed_placed _ _ (entries_in k.imports) h.imports_placed));
      nothing_around = none_of (mentioned (IsComponent (entries_of s.imports) (entries_of s.exports)))
          (together (λ t. ⊥) (in_entries 2 (entries_of s.imports)) (in_entries 2 (entries_of s.exports))
          (around_closed h.seen [] (entries_of s.imports) imports.0)
          (around_closed h.seen [] (entries_of s.exports) exports.0));
    }

pub shape_good : (bytes : List ℕ) (parts : Parts) → HasParts bytes parts → (b : Bounds) (s : ShapeTree)
    → shape_within b parts ≡ Ok s → ShapeGood s
unfolding shape_within
shape_good bytes parts has b s e = subst (λ (r : Result ShapeTree ShapeFault). IfOk r ShapeGood) e
    (then_ok (KnownGood true []) ShapeGood (after_parts b [] (nothing_known true) parts) _
    (parts_good b [] [] (nothing_known true) parts tt (nothing_good true []) (parts_formed bytes parts has)) (λ k h.
    passed_ok ShapeGood (is_within b.nodes (entries_nodes (closed k).imports + entries_nodes (closed k).exports)) TooBig
    _ (known_shape k h)))
