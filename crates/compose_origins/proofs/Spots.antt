-- Where a shape names a type: at the path of a spot stands a type that a place named.
use Rattle.std.proofs.Common.{◌≡◌, ℕ, zero, suc, ◌+◌, Bool, true, false, cond, List, [], ◌∷◌, ◌++◌, Option, Some, None, refl, sym, ap, subst, ◌∙◌, arith}
use Rattle.std.specs.Prelude.{bytes_eq, find, flat_map, map, not, is_some, option_and_then, option_map, option_to_list, slice_get}
use Rattle.std.specs.List.{AllByRecursion}
use Rattle.std.proofs.lemmas.List.{append-nil, append_assoc}
use Rattle.comp_entity.specs.Entity.{Name, ValueTree, Value, Resource, EntityTree, IsType, IsFunc, IsInstance, IsComponent, IsModule, IsOwnModule, Entries, no_entry, entry}
use Rattle.comp_entity.specs.Fits.{place_of, under}
use Rattle.comp_entity.specs.Places.{Path, leaves_of, leaves_in}
use Rattle.comp_entity.specs.Views.{entries_of}
use Rattle.compose_left.specs.declared.spots.Spot.{Spot}
use Rattle.compose_left.specs.declared.spots.Thing.{Thing}
use Rattle.compose_left.specs.Merging.{is_absent}
use Rattle.compose_left.specs.Spots.{named_type, spots_from, spots_in, spots_of}
use Rattle.compose_origins.specs.Named.{HasOwnNames, HaveOwnNames}
use Rattle.comp_coherence.specs.TypeLaws.{label_is}
use Rattle.compose_origins.proofs.Paths.{at_path, both, itself, some_is}

-- ---- lists

module _ {X : Type 0} (P : X → Type 0) where
  pub found : (p : X → Bool) (xs : List X) (x : X) → AllByRecursion P xs → find p xs ≡ Some x → P x × (p x ≡ true)
  found p [] x h is = absurd cc
  found p (y ∷ xs) x h is = by (p y) refl is (found p xs x h.1)
    where
      by : (b : Bool) → p y ≡ b → cond b (Some y) (find p xs) ≡ Some x → (find p xs ≡ Some x → P x × (p x ≡ true)) → P x × (p x ≡ true)
      by true holds is further = let same = some_is y x is in (subst P same h.0, ap p (sym same) ∙ holds)
      by false holds is further = further is

pub weaker : {X : Type 0} (P Q : X → Type 0) → ((x : X) → P x → Q x) → (xs : List X) → AllByRecursion P xs → AllByRecursion Q xs
weaker P Q w [] h = tt
weaker P Q w (x ∷ xs) h = (w x h.0, weaker P Q w xs h.1)

flat : {X Y : Type 0} (P : X → Type 0) (Q : Y → Type 0) (f : X → List Y) → ((x : X) → P x → AllByRecursion Q (f x)) → (xs : List X) → AllByRecursion P xs → AllByRecursion Q (flat_map f xs)
flat P Q f each [] h = tt
flat P Q f each (x ∷ xs) h = both Q (f x) (flat_map f xs) (each x h.0) (flat P Q f each xs h.1)

-- ---- leaves

abbrev pub Leaf : Type 0
Leaf = Path × EntityTree

-- a leaf stands at the rest of its path
abbrev pub LeafOf : Path → EntityTree → Leaf → Type 0
LeafOf path e leaf = (rest : Path) × (leaf.0 ≡ path ++ rest) × (at_path rest e ≡ at_path [] leaf.1)

abbrev LeafIn : Path → Entries → Leaf → Type 0
LeafIn path es leaf = (name : List ℕ) × (rest : Path) × (leaf.0 ≡ path ++ (name ∷ rest)) × (x : EntityTree × Bool) × (under name es ≡ Some x) × (at_path rest x.0 ≡ at_path [] leaf.1)

in_instance : (path : Path) (es : Entries) (leaf : Leaf) → LeafIn path es leaf → LeafOf path (IsInstance es) leaf
in_instance path es leaf h = (h.0 ∷ h.1, h.2, ap (option_and_then (λ (e : EntityTree × Bool). at_path h.1 e.0)) h.4 ∙ h.5)

at_front : (path : Path) (name : List ℕ) (e : EntityTree) (mark : Bool) (es : Entries) (leaf : Leaf) → LeafOf (path ++ name ∷ []) e leaf → LeafIn path (entry name e mark es) leaf
at_front path name e mark es leaf h = (
  name,
  h.0,
  h.1 ∙ append_assoc path (name ∷ []) h.0,
  (e, mark),
  ap (λ b. cond b (Some (e, mark)) (under name es)) (itself name),
  h.2,
)

no_truth : {A : Type 0} → true ≡ false → A
no_truth h = absurd cc

further_on : (path : Path) (name : List ℕ) (e : EntityTree) (mark : Bool) (es : Entries) → is_absent name es ≡ true → (leaf : Leaf) → LeafIn path es leaf → LeafIn path (entry name e mark es) leaf
further_on path name e mark es absent leaf h = (h.0, h.1, h.2, h.3, other (bytes_eq h.0 name) refl, h.5)
  where
    other : (b : Bool) → bytes_eq h.0 name ≡ b → under h.0 (entry name e mark es) ≡ Some h.3
    other true same =
        let there : under name es ≡ Some h.3 = ap (λ k. under k es) (sym (label_is h.0 name same)) ∙ h.4 in
        no_truth (sym absent ∙ ap (λ (o : Option (EntityTree × Bool)). not (is_some o)) there)
    other false same = ap (λ b. cond b (Some (e, mark)) (under h.0 es)) same ∙ h.4

alone : (path : Path) (e : EntityTree) → AllByRecursion (LeafOf path e) ((path, e) ∷ [])
alone path e = (([], sym (append-nil path), refl), tt)

mutual
  pub leaves_stand : (path : Path) (e : EntityTree) → HasOwnNames e → AllByRecursion (LeafOf path e) (leaves_of path e)
  leaves_stand path (IsInstance es) h = weaker (LeafIn path es) (LeafOf path (IsInstance es)) (in_instance path es) (leaves_in path es) (entries_stand path es h)
  leaves_stand path (IsType t) h = alone path (IsType t)
  leaves_stand path (IsFunc f) h = alone path (IsFunc f)
  leaves_stand path (IsComponent is es) h = alone path (IsComponent is es)
  leaves_stand path (IsModule m) h = alone path (IsModule m)
  leaves_stand path IsOwnModule h = alone path IsOwnModule

  entries_stand : (path : Path) (es : Entries) → HaveOwnNames es → AllByRecursion (LeafIn path es) (leaves_in path es)
  entries_stand path no_entry h = tt
  entries_stand path (entry name e mark es) h =
      both (LeafIn path (entry name e mark es)) (leaves_of (path ++ name ∷ []) e) (leaves_in path es)
      (weaker (LeafOf (path ++ name ∷ []) e) (LeafIn path (entry name e mark es)) (at_front path name e mark es) (leaves_of (path ++ name ∷ []) e) (leaves_stand (path ++ name ∷ []) e h.1))
      (weaker (LeafIn path es) (LeafIn path (entry name e mark es)) (further_on path name e mark es h.0) (leaves_in path es) (entries_stand path es h.2))

-- ---- spots

-- at the path of a spot stands a type that the place named
pub record Typed (e : EntityTree) (s : Spot) : Type 0 where
  pub tree : ValueTree
  pub place : Name
  pub there : at_path s.path e ≡ Some tree
  pub named : place_of tree ≡ Some place
  pub what : s.what ≡ named_type place

abbrev pub SpotOf : ℕ → List ℕ → EntityTree → Spot → Type 0
SpotOf number name e s = (s.number ≡ number) × (s.name ≡ name) × (s.what.is_type ≡ true → Typed e s)

abbrev spot_at : ℕ → List ℕ → Path → Thing → Spot
spot_at number name path t = record { number = number; name = name; path = path; what = t }

module _ (number : ℕ) (name : List ℕ) (root : EntityTree) where
  type_spot : (path : Path) (t : ValueTree) → at_path path root ≡ Some t → (o : Option Name) → place_of t ≡ o
      → AllByRecursion (SpotOf number name root) (map (λ t. spot_at number name path t) (option_to_list (option_map named_type o)))
  type_spot path t there None named = tt
  type_spot path t there (Some n) named = ((refl, refl, λ h. record { tree = t; place = n; there = there; named = named; what = refl }), tt)

  leaf_spots : (leaf : Leaf) → LeafOf [] root leaf → AllByRecursion (SpotOf number name root) (spots_of number name leaf.0 leaf.1)
  leaf_spots (path, IsType (Value t)) h = type_spot path t (ap (λ path. at_path path root) h.1 ∙ h.2) (place_of t) refl
  leaf_spots (path, IsType (Resource r)) h = ((refl, refl, λ is. absurd cc), tt)
  leaf_spots (path, _) h = tt

  pub root_spots : HasOwnNames root → AllByRecursion (SpotOf number name root) (spots_in number name [] root)
  root_spots h = flat (LeafOf [] root) (SpotOf number name root) (λ leaf. spots_of number name leaf.0 leaf.1) leaf_spots (leaves_of [] root) (leaves_stand [] root h)

-- a spot of an import, or an export, of some
pub record SpotIn (number : ℕ) (es : List (List ℕ × EntityTree)) (s : Spot) : Type 0 where
  pub index : ℕ
  pub entity : List ℕ × EntityTree
  pub there : slice_get es index ≡ Some entity
  pub numbered : s.number ≡ number + index
  pub named : s.name ≡ entity.0
  pub typed : s.what.is_type ≡ true → Typed entity.1 s

at_first : (number : ℕ) (e : List ℕ × EntityTree) (es : List (List ℕ × EntityTree)) (s : Spot) → SpotOf number e.0 e.1 s → SpotIn number (e ∷ es) s
at_first number e es s h = record { index = 0; entity = e; there = refl; numbered = (let is = h.0 in omega (arith, is)); named = h.1; typed = h.2 }

at_later : (number : ℕ) (e : List ℕ × EntityTree) (es : List (List ℕ × EntityTree)) (s : Spot) → SpotIn (suc number) es s → SpotIn number (e ∷ es) s
at_later number e es s h = record { index = suc h.index; entity = h.entity; there = h.there; numbered = (let is = h.numbered in omega (arith, is)); named = h.named; typed = h.typed }

pub spots_stand : (number : ℕ) (es : List (List ℕ × EntityTree)) → AllByRecursion (λ (e : List ℕ × EntityTree). HasOwnNames e.1) es → AllByRecursion (SpotIn number es) (spots_from number es)
spots_stand number [] h = tt
spots_stand number (e ∷ es) h =
    both (SpotIn number (e ∷ es)) (spots_in number e.0 [] e.1) (spots_from (suc number) es)
    (weaker (SpotOf number e.0 e.1) (SpotIn number (e ∷ es)) (at_first number e es) (spots_in number e.0 [] e.1) (root_spots number e.0 e.1 h.0))
    (weaker (SpotIn (suc number) es) (SpotIn number (e ∷ es)) (at_later number e es) (spots_from (suc number) es) (spots_stand (suc number) es h.1))

-- ---- exports

pub each_apart : (es : List (List ℕ × EntityTree)) → HaveOwnNames (entries_of es) → AllByRecursion (λ (e : List ℕ × EntityTree). HasOwnNames e.1) es
each_apart [] h = tt
each_apart (e ∷ es) h = (h.1, each_apart es h.2)

-- an export stands under its name
pub export_under : (es : List (List ℕ × EntityTree)) → HaveOwnNames (entries_of es) → (k : ℕ) (e : List ℕ × EntityTree) → slice_get es k ≡ Some e → under e.0 (entries_of es) ≡ Some (e.1, true)
export_under [] h k e is = absurd cc
export_under (f ∷ es) h zero e is =
    subst (λ (e : List ℕ × EntityTree). under e.0 (entries_of (f ∷ es)) ≡ Some (e.1, true)) (some_is f e is)
    (ap (λ b. cond b (Some (f.1, true)) (under f.0 (entries_of es))) (itself f.0))
export_under (f ∷ es) h (suc k) e is = by (bytes_eq e.0 f.0) refl (export_under es h.2 k e is)
  where
    by : (b : Bool) → bytes_eq e.0 f.0 ≡ b → under e.0 (entries_of es) ≡ Some (e.1, true) → cond b (Some (f.1, true)) (under e.0 (entries_of es)) ≡ Some (e.1, true)
    by true same there =
        no_truth (sym h.0 ∙ ap (λ (o : Option (EntityTree × Bool)). not (is_some o)) (ap (λ k. under k (entries_of es)) (sym (label_is e.0 f.0 same)) ∙ there))
    by false same there = there
