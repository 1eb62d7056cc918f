-- The type at a path of an entity is the one that is named there.
use Rattle.std.proofs.Common.{◌≡◌, ℕ, Bool, true, false, cond, List, [], ◌∷◌, ◌++◌, map, Option, Some, None, refl, sym, ap, ◌∙◌}
use Rattle.std.specs.Prelude.{◌&&◌, bytes_eq, find, option_and_then, option_map}
use Rattle.std.specs.Option.{option_or}
use Rattle.std.specs.Cmp.Lexicographic.{nat_list_eq_equiv, same_text}
use Rattle.std.proofs.lemmas.List.{append-nil, append_assoc, map-append}
use Rattle.std.proofs.lemmas.List.Folds.{find-append}
use Rattle.comp_entity.specs.Entity.{Name, ValueTree, Value, EntityTree, IsType, IsFunc, IsInstance, IsComponent, IsModule, IsOwnModule, Entries, no_entry, entry}
use Rattle.comp_entity.specs.Fits.{place_of, under}
use Rattle.comp_entity.specs.Places.{Path, leaves_in, leaves_of}
use Rattle.compose_left.specs.Origins.{same_path}
use Rattle.compose_left.specs.Spots.{named_type}
use Rattle.compose_needs.specs.declared.leaves.Leaf.{Leaf}
use Rattle.compose_needs.specs.Leaves.{leaf_of, leaves_at}
use Rattle.compose_naming.specs.Bits.{is_at, named_at, type_named}
use Rattle.compose_origins.specs.Placed.{value_at}
use Rattle.compose_settled.proofs.Standing.{Found, some_is}

path_itself : (p : Path) → same_path p p ≡ true
path_itself [] = refl
path_itself (n ∷ p) = λ i. nat_list_eq_equiv.refl n i && path_itself p i

-- no path that begins so is this one
abbrev Misses : Path → Path → Type 0
Misses front path = (x : Path) → same_path (front ++ x) path ≡ false

and_false : (a b : Bool) → b ≡ false → (a && b) ≡ false
and_false true b e = e
and_false false b e = refl

further : (front path : Path) (n : List ℕ) → Misses front path → Misses (front ++ n ∷ []) path
further front path n h x = ap (λ p. same_path p path) (append_assoc front (n ∷ []) x) ∙ h (n ∷ x)

other : (n m : List ℕ) → bytes_eq m n ≡ false → bytes_eq n m ≡ false
other n m e = nat_list_eq_equiv.symm n m ∙ e

apart : (front path : Path) (n m : List ℕ) → bytes_eq m n ≡ false → Misses (front ++ n ∷ []) (front ++ m ∷ path)
apart [] path n m e x = ap (λ b. b && same_path x path) (other n m e)
apart (k ∷ front) path n m e x = and_false (bytes_eq k k) (same_path ((front ++ n ∷ []) ++ x) (front ++ m ∷ path)) (apart front path n m e x)

none_or : (x y : Option Leaf) → x ≡ None → y ≡ None → option_or x y ≡ None
none_or x y p q = λ i. option_or (p i) (q i)

alone : (front path : Path) (e : EntityTree) → Misses front path → find (is_at path) (leaf_of (front, e) ∷ []) ≡ None
alone front path e h = λ i. cond ((ap (λ p. same_path p path) (sym (append-nil front)) ∙ h []) i) (Some (leaf_of (front, e))) None

mutual
  no_leaf : (front path : Path) (e : EntityTree) → Misses front path → find (is_at path) (map leaf_of (leaves_of front e)) ≡ None
  no_leaf front path (IsInstance es) h = no_leaves front path es h
  no_leaf front path (IsType t) h = alone front path (IsType t) h
  no_leaf front path (IsFunc f) h = alone front path (IsFunc f) h
  no_leaf front path (IsComponent is es) h = alone front path (IsComponent is es) h
  no_leaf front path (IsModule m) h = alone front path (IsModule m) h
  no_leaf front path IsOwnModule h = alone front path IsOwnModule h

  no_leaves : (front path : Path) (es : Entries) → Misses front path → find (is_at path) (map leaf_of (leaves_in front es)) ≡ None
  no_leaves front path no_entry h = refl
  no_leaves front path (entry n e mark es) h =
      ap (find (is_at path)) (map-append leaf_of (leaves_of (front ++ n ∷ []) e) (leaves_in front es))
      ∙ find-append (is_at path) (map leaf_of (leaves_of (front ++ n ∷ []) e)) (map leaf_of (leaves_in front es))
      ∙ none_or (find (is_at path) (map leaf_of (leaves_of (front ++ n ∷ []) e))) (find (is_at path) (map leaf_of (leaves_in front es)))
      (no_leaf (front ++ n ∷ []) path e (further front path n h)) (no_leaves front path es h)

-- ---- what is named there

abbrev named_of : Option Leaf → Option Name
named_of o = option_and_then (λ (leaf : Leaf). type_named leaf.named) o

first_some : (x y : Option Leaf) (r : Name) → named_of x ≡ Some r → named_of (option_or x y) ≡ Some r
first_some None y r h = absurd cc
first_some (Some x) y r h = h

typed : (o : Option Name) (r : Name) → o ≡ Some r → type_named (option_map named_type o) ≡ Some r
typed None r h = absurd cc
typed (Some n) r h = h

mutual
  named_from : (front path : Path) (e : EntityTree) (t : ValueTree) (r : Name) → value_at path e ≡ Some t → place_of t ≡ Some r
      → named_of (find (is_at (front ++ path)) (map leaf_of (leaves_of front e))) ≡ Some r
  named_from front [] (IsType (Value u)) t r there named =
      (λ i. named_of (cond ((ap (same_path front) (append-nil front) ∙ path_itself front) i) (Some (leaf_of (front, IsType (Value u)))) None))
      ∙ typed (place_of u) r (ap place_of (some_is u t there) ∙ named)
  named_from front (name ∷ path) (IsInstance es) t r there named = named_in front name path es t r there named
  named_from front [] _ t r there named = absurd cc
  named_from front (name ∷ path) _ t r there named = absurd cc

  named_in : (front : Path) (name : List ℕ) (path : Path) (es : Entries) (t : ValueTree) (r : Name) → value_at (name ∷ path) (IsInstance es) ≡ Some t → place_of t ≡ Some r
      → named_of (find (is_at (front ++ name ∷ path)) (map leaf_of (leaves_in front es))) ≡ Some r
  named_in front name path no_entry t r there named = absurd cc
  named_in front name path (entry n e mark es) t r there named =
      ap (λ ls. named_of (find (is_at (front ++ name ∷ path)) ls)) (map-append leaf_of (leaves_of (front ++ n ∷ []) e) (leaves_in front es))
      ∙ ap named_of (find-append (is_at (front ++ name ∷ path)) (map leaf_of (leaves_of (front ++ n ∷ []) e)) (map leaf_of (leaves_in front es)))
      ∙ by (bytes_eq name n) refl there (λ there. named_from (front ++ n ∷ []) path e t r there named) (λ there. named_in front name path es t r there named)
    where
      by : (b : Bool) → bytes_eq name n ≡ b → option_and_then (λ (e : Found). value_at path e.0) (cond b (Some (e, mark)) (under name es)) ≡ Some t
          → (value_at path e ≡ Some t → named_of (find (is_at ((front ++ n ∷ []) ++ path)) (map leaf_of (leaves_of (front ++ n ∷ []) e))) ≡ Some r)
          → (option_and_then (λ (e : Found). value_at path e.0) (under name es) ≡ Some t → named_of (find (is_at (front ++ name ∷ path)) (map leaf_of (leaves_in front es))) ≡ Some r)
          → named_of (option_or (find (is_at (front ++ name ∷ path)) (map leaf_of (leaves_of (front ++ n ∷ []) e))) (find (is_at (front ++ name ∷ path)) (map leaf_of (leaves_in front es)))) ≡ Some r
      by true is there here later =
          let whole : (front ++ n ∷ []) ++ path ≡ front ++ name ∷ path = append_assoc front (n ∷ []) path ∙ ap (λ m. front ++ m ∷ path) (sym (same_text name n (sym is))) in
          first_some (find (is_at (front ++ name ∷ path)) (map leaf_of (leaves_of (front ++ n ∷ []) e))) (find (is_at (front ++ name ∷ path)) (map leaf_of (leaves_in front es))) r
          (ap (λ q. named_of (find (is_at q) (map leaf_of (leaves_of (front ++ n ∷ []) e)))) (sym whole) ∙ here there)
      by false is there here later =
          ap (λ o. named_of (option_or o (find (is_at (front ++ name ∷ path)) (map leaf_of (leaves_in front es)))))
          (no_leaf (front ++ n ∷ []) (front ++ name ∷ path) e (apart front path n name is)) ∙ later there

pub named_there : (path : Path) (e : EntityTree) (t : ValueTree) (r : Name) → value_at path e ≡ Some t → place_of t ≡ Some r → named_at (leaves_at e) path ≡ Some r
named_there path e t r there named = named_from [] path e t r there named
