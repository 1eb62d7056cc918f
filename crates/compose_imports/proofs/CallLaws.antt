-- What those that need an import call in it stands at paths of names that are not empty.
use Rattle.std.proofs.Common.{◌<◌, ℕ, zero, suc, Bool, true, false, List, [], ◌∷◌, ◌++◌, length, map, Option, Some, None, sym, subst}
use Rattle.std.specs.Prelude.{All, bytes_eq, flat_map, is_none, option_to_list, slice_get, if◌then◌else◌}
use Rattle.std.specs.List.{AllByRecursion, fold}
use Rattle.std.specs.Option.{option_map_or}
use Rattle.std.proofs.lemmas.Grind.{flat_map-append}
use Rattle.std.proofs.lemmas.List.Elements.{All-push, All-from_recursion}
use Rattle.comp_entity.specs.Entity.{EntityTree, IsType, IsFunc, IsInstance, IsComponent, IsModule, IsOwnModule, Entries, no_entry, entry, ShapeTree}
use Rattle.comp_entity.specs.Names.{Change, entity_by, entries_by}
use Rattle.comp_entity.specs.Places.{Path, leaves_in, leaves_of}
use Rattle.comp_entity.specs.Views.{entries_of}
use Rattle.compose_left.specs.Origins.{placed}
use Rattle.compose_left.specs.Spots.{named_by, spots_in, spots_of}
use Rattle.compose_left.specs.Wiring.{Wiring, no_shape, wire_into}
use Rattle.compose_left.specs.declared.spots.Spot.{Spot}
use Rattle.compose_left.specs.declared.spots.Thing.{Thing}
use Rattle.compose_order.specs.Agreed.{import_at_number, in_turn}
use Rattle.compose_order.specs.Needs.{LeftTree}
use Rattle.compose_writing.specs.Conditions.{KeepsEntries, KeepsForm}
use Rattle.compose_check.specs.Checked.{IsSound}
use Rattle.compose_check.specs.Composition.{ComponentTree, CompositionTree, shape_numbered, wiring}
use Rattle.compose_check.specs.Open.{Asked, asked_by, asked_by_all, asked_from, left_open, lefts, merged_with, with_asked}
use Rattle.compose_imports.specs.Calls.{HasNamedCalls, IsNamedCall}

all_append : {X : Type 0} (P : X → Type 0) (xs ys : List X) → AllByRecursion P xs → AllByRecursion P ys
    → AllByRecursion P (xs ++ ys)
all_append P [] ys h k = k
all_append P (x ∷ xs) ys h k = (h.0, all_append P xs ys h.1 k)

-- ---- spots of an entity

abbrev IsName : List ℕ → Type 0
IsName name = 0 < length name

abbrev AreNamed : List Spot → Type 0
AreNamed ss = AllByRecursion IsNamedCall ss

abbrev leaf_spots : ℕ → List ℕ → Path × EntityTree → List Spot
leaf_spots number name leaf = spots_of number name leaf.0 leaf.1

module _ (number : ℕ) (name : List ℕ) where
  leaf_named : (path : Path) (e : EntityTree) → All IsName path → AreNamed (spots_of number name path e)
  leaf_named path e h = one (named_by e)
    where
      one : (o : Option Thing)
          → AreNamed
          (map (λ (t : Thing). record { number = number; name = name; path = path; what = t }) (option_to_list o))
      one None = tt
      one (Some t) = (h, tt)

  alone_named : (path : Path) (e : EntityTree) → All IsName path
      → AreNamed (flat_map (leaf_spots number name) ((path, e) ∷ []))
  alone_named path e h = all_append IsNamedCall (spots_of number name path e) [] (leaf_named path e h) tt

  module _ (c : Change) where
    mutual
      entity_named : (d : ℕ) (path : Path) (e : EntityTree) → All IsName path → KeepsForm e
          → AreNamed (flat_map (leaf_spots number name) (leaves_of path (entity_by c d e)))
      entity_named d path (IsInstance es) h k = entries_named d path es h k
      entity_named d path (IsType t) h k = alone_named path (entity_by c d (IsType t)) h
      entity_named d path (IsFunc f) h k = alone_named path (entity_by c d (IsFunc f)) h
      entity_named d path (IsComponent is es) h k = alone_named path (entity_by c d (IsComponent is es)) h
      entity_named d path (IsModule m) h k = alone_named path (IsModule m) h
      entity_named d path IsOwnModule h k = alone_named path IsOwnModule h

      entries_named : (d : ℕ) (path : Path) (es : Entries) → All IsName path → KeepsEntries es
          → AreNamed (flat_map (leaf_spots number name) (leaves_in path (entries_by c d es)))
      entries_named d path no_entry h k = tt
      entries_named d path (entry n e mark es) h k =
          subst AreNamed
          (sym (flat_map-append (leaf_spots number name) (leaves_of (path ++ n ∷ []) (entity_by c d e))
          (leaves_in path (entries_by c d es))))
          (all_append IsNamedCall _ _ (entity_named d (path ++ n ∷ []) e (All-push IsName path n h k.0) k.1)
          (entries_named d path es h k.2))

-- ---- merged imports

abbrev IsAskedNamed : Asked → Type 0
IsAskedNamed x = (number : ℕ) (name : List ℕ) → AreNamed (spots_in number name [] x.1)

named_still : (ls : List LeftTree) (x : Asked) → IsAskedNamed x → AllByRecursion HasNamedCalls ls
    → AllByRecursion HasNamedCalls (with_asked ls x)
named_still [] x k a = (k 0 x.0, tt)
named_still (l ∷ ls) x k a = one (bytes_eq x.0 l.name) (named_still ls x k a.1)
  where
    one : (b : Bool) → AllByRecursion HasNamedCalls (with_asked ls x)
        → AllByRecursion HasNamedCalls (if b then merged_with l x.1 ∷ ls else l ∷ with_asked ls x)
    one true rest = (all_append IsNamedCall l.calls (spots_in 0 l.name [] x.1) a.0 (k 0 l.name), a.1)
    one false rest = (a.0, rest)

merged_named : (xs : List Asked) (ls : List LeftTree) → AllByRecursion IsAskedNamed xs
    → AllByRecursion HasNamedCalls ls → AllByRecursion HasNamedCalls (fold with_asked ls xs)
merged_named [] ls h a = a
merged_named (x ∷ xs) ls h a = merged_named xs (with_asked ls x) h.1 (named_still ls x h.0 a)

-- ---- what is asked

abbrev ShapeKeeps : ShapeTree → Type 0
ShapeKeeps s = KeepsEntries (entries_of s.imports)

no_names : All IsName []
no_names = All-from_recursion IsName [] tt

module _ (w : Wiring) where
  asked_one : (i number : ℕ) (e : List ℕ × EntityTree) → KeepsForm e.1
      → AllByRecursion IsAskedNamed (asked_by w i number e)
  asked_one i number e k = one (is_none (wire_into w.wires i number))
    where
      one : (b : Bool) → AllByRecursion IsAskedNamed (if b then (e.0, placed w i e.1) ∷ [] else [])
      one true = ((λ n name. entity_named n name _ 0 [] e.1 no_names k), tt)
      one false = tt

  asked_imports : (i number : ℕ) (es : List (List ℕ × EntityTree)) → KeepsEntries (entries_of es)
      → AllByRecursion IsAskedNamed (asked_from w i number es)
  asked_imports i number [] k = tt
  asked_imports i number (e ∷ es) k =
      all_append IsAskedNamed _ _ (asked_one i number e k.1) (asked_imports i (suc number) es k.2)

  asked_shapes : (i : ℕ) (ss : List ShapeTree) → AllByRecursion ShapeKeeps ss
      → AllByRecursion IsAskedNamed (asked_by_all w i ss)
  asked_shapes i [] k = tt
  asked_shapes i (s ∷ ss) k =
      all_append IsAskedNamed _ _ (asked_imports i 0 s.imports k.0) (asked_shapes (suc i) ss k.1)

-- ---- shapes of components

got : {X : Type 0} (P : X → Type 0) (xs : List X) (n : ℕ) → AllByRecursion P xs
    → AllByRecursion P (option_to_list (slice_get xs n))
got P [] n h = tt
got P (x ∷ xs) zero h = (h.0, tt)
got P (x ∷ xs) (suc n) h = got P xs n h.1

abbrev KeepsComponent : ComponentTree → Type 0
KeepsComponent k = ShapeKeeps k.shape

shape_keeps : (cs : List ComponentTree) (n : ℕ) → AllByRecursion KeepsComponent cs → ShapeKeeps (shape_numbered cs n)
shape_keeps cs n h = one (slice_get cs n) (got KeepsComponent cs n h)
  where
    one : (o : Option ComponentTree) → AllByRecursion KeepsComponent (option_to_list o)
        → ShapeKeeps (option_map_or (λ (k : ComponentTree). k.shape) o no_shape)
    one None k = tt
    one (Some x) k = k.0

shapes_keep : (cs : List ComponentTree) (ns : List ℕ) → AllByRecursion KeepsComponent cs
    → AllByRecursion ShapeKeeps (map (shape_numbered cs) ns)
shapes_keep cs [] h = tt
shapes_keep cs (n ∷ ns) h = (shape_keeps cs n h, shapes_keep cs ns h)

-- ---- in order

turned : (ls : List LeftTree) (ns : List ℕ) → AllByRecursion HasNamedCalls ls
    → AllByRecursion HasNamedCalls (in_turn ls ns)
turned ls [] h = tt
turned ls (n ∷ ns) h =
    all_append HasNamedCalls (import_at_number ls n) (in_turn ls ns) (got HasNamedCalls ls n h) (turned ls ns h)

pub called_with_a_path : (c : CompositionTree) (order : List ℕ) (out : List LeftTree) → IsSound c order out
    → AllByRecursion (λ (k : ComponentTree). KeepsEntries (entries_of k.shape.imports)) c.components
    → AllByRecursion HasNamedCalls out
called_with_a_path c order out sound keep =
    let w = wiring c in
    let ordered = sound.agree.ordered in
    subst (AllByRecursion HasNamedCalls) (sym ordered.written)
    (turned (lefts w) ordered.order
    (merged_named (left_open w) [] (asked_shapes w 0 w.shapes (shapes_keep c.components c.instances keep)) tt))
