-- Compositions that can be encoded: imported components hide nothing, and no two imports have one name.
use Rattle.std.proofs.Common.{◌≡◌, ◌||◌, ℕ, Bool, true, false, cond, List, [], ◌∷◌, ◌++◌, map, Option, Some, None, Result, Ok, Err, IfOk, refl, true≢false}
use Rattle.std.specs.Prelude.{bytes_eq, find, flat_map, option_and_then, option_to_list, slice_get}
use Rattle.std.specs.List.{AllByRecursion}
use Rattle.compose_needs.specs.Exports.{component_hides}
use Rattle.compose_order.specs.Needs.{LeftTree}
use Rattle.compose_check.specs.Composition.{ComponentTree, CompositionTree}
use Rattle.compose_image.specs.Imports.{component_import, component_of, imports_of, used, used_components}
use Rattle.compose_naming.specs.Settled.{settled}
use Rattle.compose_image.specs.Writable.{HaveOwnNames, is_of}
use Rattle.compose_encode.specs.Refusing.{first_of, has_name, hidden_at, hidden_in, name_left}
use Rattle.compose_encode.specs.Whole.{HaveComponentNames, hides, shared_name}
use Rattle.compose_encode.proofs.RefusingLaws.{Found, or_none}

pub if_ok : {X E : Type 0} (P Q : X → Type 0) (r : Result X E) → ((x : X) → P x → Q x) → IfOk r P → IfOk r Q
if_ok P Q (Ok x) step h = step x h
if_ok P Q (Err e) step h = tt

module _ (P : ComponentTree → Type 0) where
  all_append : (xs ys : List ComponentTree) → AllByRecursion P xs → AllByRecursion P ys → AllByRecursion P (xs ++ ys)
  all_append [] ys h k = k
  all_append (x ∷ xs) ys h k = (h.0, all_append xs ys h.1 k)

  -- what nothing is found of, of some components by their numbers
  none_found : (f : ComponentTree → Found) → ((k : ComponentTree) → f k ≡ None → P k) → (c : CompositionTree) (ns : List ℕ)
      → first_of (λ n. option_and_then f (slice_get c.components n)) ns ≡ None → AllByRecursion P (flat_map (component_of c) ns)
  none_found f each c [] e = tt
  none_found f each c (n ∷ ns) e =
      let p = or_none (option_and_then f (slice_get c.components n)) (first_of (λ m. option_and_then f (slice_get c.components m)) ns) e in
      all_append (component_of c n) (flat_map (component_of c) ns) (one (slice_get c.components n) p.0) (none_found f each c ns p.1)
    where
      one : (o : Option ComponentTree) → option_and_then f o ≡ None → AllByRecursion P (option_to_list o)
      one None h = tt
      one (Some k) h = (each k h, tt)

-- ---- what imported components hide

abbrev HidesNothing : ComponentTree → Type 0
HidesNothing k = component_hides k.shape ≡ None

pub imported_hide_nothing : (c : CompositionTree) (define : Bool) (export : Option ℕ) → hides c define export ≡ None → define ≡ false
    → AllByRecursion HidesNothing (used_components c)
imported_hide_nothing c true export none is = absurd (true≢false is)
imported_hide_nothing c false export none is =
    none_found HidesNothing hidden_in (λ k h. h) c (used c) (or_none _ (first_of (hidden_at c) (used c)) none).1

-- ---- names of imports

abbrev IsApart : List LeftTree → ComponentTree → Type 0
IsApart ls k = has_name ls k.name ≡ false

unshared : (ls : List LeftTree) (k : ComponentTree) → name_left ls k ≡ None → IsApart ls k
unshared ls k e = by (has_name ls k.name) refl e
  where
    by : (b : Bool) → has_name ls k.name ≡ b → cond b (Some k.name) None ≡ None → has_name ls k.name ≡ false
    by true h k = absurd cc
    by false h k = h

neither : (a b : Bool) → (a || b) ≡ false → (a ≡ false) × (b ≡ false)
neither true b e = absurd (true≢false e)
neither false b e = (refl, e)

-- a name that no left import has is that of none of them as they are written
none_of : (name : List ℕ) (ls : List LeftTree) → has_name ls name ≡ false → find (is_of name) (map settled ls) ≡ None
none_of name [] e = refl
none_of name (l ∷ ls) e =
    let p = neither (bytes_eq name l.name) (has_name ls name) e in
    by (bytes_eq name l.name) p.0 (none_of name ls p.1)
  where
    by : (b : Bool) → b ≡ false → find (is_of name) (map settled ls) ≡ None
        → cond b (Some (settled l)) (find (is_of name) (map settled ls)) ≡ None
    by true h rest = absurd (true≢false h)
    by false h rest = rest

none_behind : (name : List ℕ) (xs ys : List LeftTree) → find (is_of name) xs ≡ None → find (is_of name) ys ≡ None
    → find (is_of name) (xs ++ ys) ≡ None
none_behind name [] ys h k = k
none_behind name (x ∷ xs) ys h k = by (bytes_eq name x.name) h (λ e. none_behind name xs ys e k)
  where
    by : (b : Bool) → cond b (Some x) (find (is_of name) xs) ≡ None
        → (find (is_of name) xs ≡ None → find (is_of name) (xs ++ ys) ≡ None)
        → cond b (Some x) (find (is_of name) (xs ++ ys)) ≡ None
    by true e rest = absurd cc
    by false e rest = rest e

own_behind : (ks : List ComponentTree) (ls : List LeftTree) → AllByRecursion (IsApart ls) ks
    → HaveOwnNames (map component_import ks) → HaveOwnNames (map settled ls)
    → HaveOwnNames (map component_import ks ++ map settled ls)
own_behind [] ls apart own lefts = lefts
own_behind (k ∷ ks) ls apart own lefts = (
  none_behind k.name (map component_import ks) (map settled ls) own.0 (none_of k.name ls apart.0),
  own_behind ks ls apart.1 own.1 lefts,
)

pub own_imports : (c : CompositionTree) (define : Bool) (ls : List LeftTree) → HaveComponentNames c
    → shared_name c define ls ≡ None → HaveOwnNames (map settled ls) → HaveOwnNames (imports_of c define ls)
own_imports c true ls names shared own = own
own_imports c false ls names shared own =
    own_behind (used_components c) ls (none_found (IsApart ls) (name_left ls) (unshared ls) c (used c) shared) names own
