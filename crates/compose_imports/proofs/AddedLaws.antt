-- Imports of some things, added one behind the other.
use Rattle.std.proofs.Common.{◌≡◌, ◌∙◌, ◌+◌, ◌<◌, ◌≤◌, ℕ, zero, suc, List, [], ◌∷◌, ◌++◌, length, map, take, drop, get_or, Option, Some, None, refl, sym, ap, subst, arith}
use Rattle.std.specs.Prelude.{option_map, option_to_list, slice_get}
use Rattle.std.specs.Borrow.{Bor}
use Rattle.std.specs.List.{AllByRecursion, flat_map}
use Rattle.std.proofs.lemmas.Grind.{flat_map-append}
use Rattle.std.proofs.lemmas.List.{append-nil, append_assoc, take-append-drop, take_all}
use Rattle.compose_component.specs.declared.component.Component.{Component}
use Rattle.compose_order.specs.Needs.{LeftTree}
use Rattle.compose_writing.specs.Scopes.{WrittenScope}
use Rattle.compose_types.specs.Largest.{scopes_size}
use Rattle.compose_types.specs.Scopes.{State, outermost_scope, scopes}
use Rattle.compose_check.specs.Composition.{ComponentTree, component_tree, composition_tree}
use Rattle.compose_check.specs.declared.composition.Composition.{Composition}
use Rattle.compose_image.specs.Imports.{component_import, write_lefts}
use Rattle.compose_image.specs.Writable.{AreWritable}
use Rattle.compose_imports.specs.Begun.{HasWritten, component_left, imports_at}
use Rattle.compose_imports.specs.declared.begun.Begun.{Begun}
use Rattle.compose_imports.proofs.GrownLaws.{first_refused}
use Rattle.compose_imports.proofs.LeftLaws.{flat_more, flat_next, lefts_join, nothing_written, writable_behind, writable_front}

pub record AreAdded {X : Type 0} (f : X → List LeftTree) (xs : List X) (i : ℕ) (old new : Begun) : Type 0 where
  pub written : (ls : List LeftTree) → HasWritten old ls → HasWritten new (ls ++ flat_map f (take i xs))
  pub rest : AreWritable (flat_map f (drop i xs)) (scopes new.state)
  pub next : write_lefts (flat_map f (take i xs)) (scopes old.state) ≡ Some (scopes new.state)

module _ {X : Type 0} (f : X → List LeftTree) (xs : List X) where
  pub added_none : (b : Begun) → AreWritable (flat_map f xs) (scopes b.state) → AreAdded f xs 0 b b
  added_none b h = record {
    written = λ ls w. subst (HasWritten b) (sym (append-nil ls)) w;
    rest = h;
    next = nothing_written (scopes b.state);
  }

  pub next_writable : (i : ℕ) (d : X) (old mid : Begun) → i < length xs → AreAdded f xs i old mid
      → AreWritable (f (get_or xs i d)) (scopes mid.state)
  next_writable i d old mid lt a =
      writable_front (f (get_or xs i d)) (flat_map f (drop (i + 1) xs)) (scopes mid.state)
      (subst (λ ls. AreWritable ls (scopes mid.state)) (flat_next f xs i d lt) a.rest)

  pub added_next : (i : ℕ) (d : X) (old mid new : Begun) → i < length xs → AreAdded f xs i old mid
      → write_lefts (f (get_or xs i d)) (scopes mid.state) ≡ Some (scopes new.state)
      → ((ls : List LeftTree) → HasWritten mid ls → HasWritten new (ls ++ f (get_or xs i d)))
      → AreAdded f xs (i + 1) old new
  added_next i d old mid new lt a next written = record {
    written = λ ls w.
        subst (HasWritten new)
        (append_assoc ls (flat_map f (take i xs)) (f (get_or xs i d))
        ∙ ap (λ ys. ls ++ ys) (sym (flat_more f xs i d lt)))
        (written (ls ++ flat_map f (take i xs)) (a.written ls w));
    rest =
        writable_behind (f (get_or xs i d)) (flat_map f (drop (i + 1) xs)) (scopes mid.state) (scopes new.state)
        (subst (λ ls. AreWritable ls (scopes mid.state)) (flat_next f xs i d lt) a.rest) next;
    next =
        ap (λ ls. write_lefts ls (scopes old.state)) (flat_more f xs i d lt)
        ∙ lefts_join (flat_map f (take i xs)) (f (get_or xs i d)) (scopes old.state) (scopes mid.state) a.next ∙ next;
  }

  pub all_written : (i : ℕ) (old new : Begun) → length xs ≤ i → AreAdded f xs i old new
      → (ls : List LeftTree) → HasWritten old ls → HasWritten new (ls ++ flat_map f xs)
  all_written i old new le a ls w =
      subst (λ ys. HasWritten new (ls ++ flat_map f ys)) (take_all i xs le) (a.written ls w)

  pub all_next : (i : ℕ) (old new : Begun) → length xs ≤ i → AreAdded f xs i old new
      → write_lefts (flat_map f xs) (scopes old.state) ≡ Some (scopes new.state)
  all_next i old new le a =
      ap (λ ys. write_lefts (flat_map f ys) (scopes old.state)) (sym (take_all i xs le)) ∙ a.next

  -- all of them, from what is written of the first i
  from_next : (i : ℕ) (d : X) (old mid : Begun) → i < length xs → AreAdded f xs i old mid
      → write_lefts (flat_map f xs) (scopes old.state)
      ≡ write_lefts (f (get_or xs i d) ++ flat_map f (drop (i + 1) xs)) (scopes mid.state)
  from_next i d old mid lt a =
      ap (λ ys. write_lefts (flat_map f ys) (scopes old.state)) (sym (take-append-drop i xs))
      ∙ ap (λ ls. write_lefts ls (scopes old.state)) (flat_map-append f (take i xs) (drop i xs))
      ∙ lefts_join (flat_map f (take i xs)) (flat_map f (drop i xs)) (scopes old.state) (scopes mid.state) a.next
      ∙ ap (λ ls. write_lefts ls (scopes mid.state)) (flat_next f xs i d lt)

  -- a number that is refused at the next
  pub next_refused : ((ls : List LeftTree) (ms next : List WrittenScope) → write_lefts ls ms ≡ Some next
      → scopes_size ms ≤ scopes_size next)
      → (n i : ℕ) (d : X) (old mid : Begun) (next : List WrittenScope) → i < length xs → AreAdded f xs i old mid
      → ((ms : List WrittenScope) → write_lefts (f (get_or xs i d)) (scopes mid.state) ≡ Some ms → n ≤ scopes_size ms)
      → write_lefts (flat_map f xs) (scopes old.state) ≡ Some next → n ≤ scopes_size next
  next_refused grow n i d old mid next lt a h e =
      first_refused grow n (f (get_or xs i d)) (flat_map f (drop (i + 1) xs)) (scopes mid.state) next h
      (sym (from_next i d old mid lt a) ∙ e)

pub all_mapped : {X : Type 0} (P : LeftTree → Type 0) (f : X → LeftTree) (xs : List X) (i : ℕ) (d : X)
    → AllByRecursion P (map f xs) → i < length xs → P (f (get_or xs i d))
all_mapped P f [] i d h lt = absurd (omega (arith, lt))
all_mapped P f (x ∷ xs) zero d h lt = h.0
all_mapped P f (x ∷ xs) (suc i) d h lt = all_mapped P f xs i d h.1 (omega (arith, lt))

-- ---- components by their numbers

get_map : {X Y : Type 0} (f : X → Y) (xs : List X) (n : ℕ) → slice_get (map f xs) n ≡ option_map f (slice_get xs n)
get_map f [] n = refl
get_map f (x ∷ xs) zero = refl
get_map f (x ∷ xs) (suc n) = get_map f xs n

get_past : {X : Type 0} (xs : List X) (n : ℕ) → length xs ≤ n → slice_get xs n ≡ None
get_past [] n le = refl
get_past (x ∷ xs) zero le = absurd (omega (arith, le))
get_past (x ∷ xs) (suc n) le = get_past xs n (omega (arith, le))

get_there : {X : Type 0} (xs : List X) (n : ℕ) (d : X) → n < length xs → slice_get xs n ≡ Some (get_or xs n d)
get_there [] n d lt = absurd (omega (arith, lt))
get_there (x ∷ xs) zero d lt = refl
get_there (x ∷ xs) (suc n) d lt = get_there xs n d (omega (arith, lt))

pub imports_none : (k : Composition) (n : ℕ) → length k.components.items ≤ n → imports_at (composition_tree k) n ≡ []
imports_none k n le =
    ap (λ (o : Option ComponentTree). map component_import (option_to_list o))
    (get_map component_tree k.components.items n ∙ ap (option_map component_tree) (get_past k.components.items n le))

pub imports_one : (k : Composition) (n : ℕ) (r : Bor Component) → n < length k.components.items
    → r ≡ get_or k.components.items n r → imports_at (composition_tree k) n ≡ component_left r.now ∷ []
imports_one k n r lt is =
    ap (λ (o : Option ComponentTree). map component_import (option_to_list o))
    (get_map component_tree k.components.items n
    ∙ ap (option_map component_tree) (get_there k.components.items n r lt ∙ ap (λ (x : Bor Component). Some x) (sym is)))

-- ---- the only scope of a state

last_is : (inner : List WrittenScope) (a b : WrittenScope) → inner ++ a ∷ [] ≡ b ∷ [] → a ≡ b
last_is [] a b e = cc
last_is (x ∷ []) a b e = absurd cc
last_is (x ∷ y ∷ inner) a b e = absurd cc

pub outermost_is : (s : State) (m : WrittenScope)
    → (inner : List WrittenScope) × (scopes s ≡ inner ++ outermost_scope s ∷ [])
    → scopes s ≡ m ∷ [] → outermost_scope s ≡ m
outermost_is s m last alone = last_is last.0 (outermost_scope s) m (sym last.1 ∙ alone)
