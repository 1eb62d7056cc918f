-- What is looked up in a composition.
use Rattle.std.proofs.Common.{◌≡◌, ◌∙◌, ℕ, zero, suc, ◌+◌, ◌<◌, ◌≤◌, ◌||◌, Bool, true, false, cond, List, [], ◌∷◌, ◌++◌, length, map, take, get_or, Option, Some, None, refl, sym, ap, subst, arith}
use Rattle.std.specs.Borrow.{Bor}
use Rattle.std.specs.Prelude.{◌==◌, bytes_eq, filter, flat_map, is_none, is_some, option_map, option_to_list, slice_get, slice_index, unwrap_or, if◌then◌else◌}
use Rattle.std.specs.List.{AllByRecursion, list_any, range_with_len}
use Rattle.std.proofs.lemmas.Bool.{eq-eqb}
use Rattle.std.proofs.lemmas.List.{length-map, map-append, take_more}
use Rattle.comp_encoder.specs.Writing.{described_sort, numbered}
use Rattle.comp_format.specs.Items.{ItemTree, Custom, CoreModule, CoreMade, CoreTy, Component, Instance, Aliased, Ty, Canonical, Import, Export}
use Rattle.std.specs.Option.{option_map_or}
use Rattle.comp_entity.specs.Entity.{EntityTree, ShapeTree}
use Rattle.comp_entity.specs.Views.{entity_tree, named_entities}
use Rattle.comp_entity.specs.declared.entity.Entity.{Entity}
use Rattle.comp_format.specs.declared.types.Arg.{Arg}
use Rattle.compose_component.specs.declared.component.Component.{Component as ComponentOf}
use Rattle.compose_left.specs.Wiring.{no_shape, wire_into}
use Rattle.compose_left.specs.declared.wiring.Wire.{Wire}
use Rattle.compose_check.specs.Composition.{ComponentTree, CompositionTree, HasEnds, component_tree, composition_tree, goes_to, shape_numbered, source_of, wiring}
use Rattle.compose_check.specs.declared.composition.Composition.{Composition}
use Rattle.compose_image.specs.Imports.{component_of, is_used, used}
use Rattle.compose_image.specs.Instances.{Written, args_of, comes_from, component_index, first_ones, given_arg, given_args, import_index, no_entity, open_arg, open_from, open_imports, rank, shape_of, wires_of}
use Rattle.compose_encode.specs.Encodable.{HasName, HaveNames}
use Rattle.compose_imports.specs.Imported.{found_import}
use Rattle.compose_encode.specs.Looked.{AreTables, lent_tree}
use Rattle.compose_encode.specs.declared.tables.Tables.{Tables}

pub get_map : {X Y : Type 0} (f : X → Y) (xs : List X) (n : ℕ) → slice_get (map f xs) n ≡ option_map f (slice_get xs n)
get_map f [] n = refl
get_map f (x ∷ xs) zero = refl
get_map f (x ∷ xs) (suc n) = get_map f xs n

get_past : {X : Type 0} (xs : List X) (n : ℕ) → length xs ≤ n → slice_get xs n ≡ None
get_past [] n le = refl
get_past (x ∷ xs) zero le = absurd (omega (arith, le))
get_past (x ∷ xs) (suc n) le = get_past xs n (omega (arith, le))

pub get_there : {X : Type 0} (xs : List X) (n : ℕ) (d : X) → n < length xs → slice_get xs n ≡ Some (get_or xs n d)
get_there [] n d lt = absurd (omega (arith, lt))
get_there (x ∷ xs) zero d lt = refl
get_there (x ∷ xs) (suc n) d lt = get_there xs n d (omega (arith, lt))

pub component_is : (k : Composition) (n : ℕ) (r : Bor ComponentOf) → slice_get k.components.items n ≡ Some r → component_of (composition_tree k) n ≡ component_tree r ∷ []
component_is k n r at = ap option_to_list (get_map component_tree k.components.items n ∙ ap (option_map component_tree) at)

pub component_none : (k : Composition) (n : ℕ) → length k.components.items ≤ n → component_of (composition_tree k) n ≡ []
component_none k n le = ap option_to_list (get_map component_tree k.components.items n ∙ ap (option_map component_tree) (get_past k.components.items n le))

-- ---- the component of an instance

pub all_at : {X : Type 0} (P : X → Type 0) (xs : List X) (i : ℕ) (d : X) → AllByRecursion P xs → i < length xs → P (get_or xs i d)
all_at P [] i d h lt = absurd (omega (arith, lt))
all_at P (x ∷ xs) zero d h lt = h.0
all_at P (x ∷ xs) (suc i) d h lt = all_at P xs i d h.1 (omega (arith, lt))

any_at : (ns : List ℕ) (i n : ℕ) → i < length ns → get_or ns i 0 ≡ n → list_any (λ m. m == n) ns ≡ true
any_at [] i n lt e = absurd (omega (arith, lt))
any_at (m ∷ ns) zero n lt e = ap (λ b. b || list_any (λ m. m == n) ns) (eq-eqb m n e)
any_at (m ∷ ns) (suc i) n lt e = or_true (m == n) (any_at ns i n (omega (arith, lt)) e)
  where
    or_true : (b : Bool) → list_any (λ m. m == n) ns ≡ true → (b || list_any (λ m. m == n) ns) ≡ true
    or_true true h = refl
    or_true false h = h

some_pass : (p : ℕ → Bool) (len a n m : ℕ) → n < len → a + n ≡ m → p m ≡ true → 0 < length (filter p (range_with_len a len))
some_pass p zero a n m lt at e = absurd (omega (arith, lt))
some_pass p (suc len) a zero m lt at e =
    let same : m ≡ a = omega (arith, at) in
    let here : p a ≡ true = ap p (sym same) ∙ e in
    subst (λ b. 0 < length (cond b (a ∷ filter p (range_with_len (a + 1) len)) (filter p (range_with_len (a + 1) len)))) (sym here) (omega arith)
some_pass p (suc len) a (suc n) m lt at e = one (p a) (some_pass p len (a + 1) n m (omega (arith, lt)) (omega (arith, at)) e)
  where
    one : (b : Bool) → 0 < length (filter p (range_with_len (a + 1) len)) → 0 < length (cond b (a ∷ filter p (range_with_len (a + 1) len)) (filter p (range_with_len (a + 1) len)))
    one true h = omega arith
    one false h = h

pub index_is : (t : Tables) (define : Bool) (imports : List ItemTree) (i number : ℕ) → AreTables t define imports → i < length (lent_tree t).instances → number ≡ get_or (lent_tree t).instances i 0
    → t.first + slice_index t.ranks.items number ≡ component_index (lent_tree t) define imports i
index_is t define imports i number h lt is =
    let c = lent_tree t in
    let below : number < length c.components = subst (λ n. n < length c.components) (sym is) (all_at (λ n. n < length c.components) c.instances i 0 h.made lt) in
    let made : is_used c number ≡ true = any_at c.instances i number lt (sym is) in
    let there : unwrap_or (slice_get c.instances i) 0 ≡ number = ap (λ (o : Option ℕ). unwrap_or o 0) (get_there c.instances i 0 lt) ∙ sym is in
    (λ k. h.first (some_pass (is_used c) (length c.components) 0 number number below (omega arith) made) k + (h.ranks number below made ∙ ap (λ n. rank n (used c)) (sym there)) k)

-- ---- imports by their names

pub found_index : (name : List ℕ) (front items : List ItemTree) → unwrap_or (found_import name front items) 0 ≡ import_index name front items
unfolding found_import import_index
found_index name front [] = refl
found_index name front (Import i ∷ items) = one (bytes_eq name i.name) (found_index name (front ++ Import i ∷ []) items)
  where
    one : (b : Bool) → unwrap_or (found_import name (front ++ Import i ∷ []) items) 0 ≡ import_index name (front ++ Import i ∷ []) items
        → unwrap_or (cond b (Some (numbered (described_sort i.ty) front)) (found_import name (front ++ Import i ∷ []) items)) 0 ≡ cond b (numbered (described_sort i.ty) front) (import_index name (front ++ Import i ∷ []) items)
    one true h = refl
    one false h = h
found_index name front (Custom n bytes ∷ items) = found_index name (front ++ Custom n bytes ∷ []) items
found_index name front (CoreModule bytes ∷ items) = found_index name (front ++ CoreModule bytes ∷ []) items
found_index name front (CoreMade x ∷ items) = found_index name (front ++ CoreMade x ∷ []) items
found_index name front (CoreTy x ∷ items) = found_index name (front ++ CoreTy x ∷ []) items
found_index name front (Component bytes ∷ items) = found_index name (front ++ Component bytes ∷ []) items
found_index name front (Instance x ∷ items) = found_index name (front ++ Instance x ∷ []) items
found_index name front (Aliased x ∷ items) = found_index name (front ++ Aliased x ∷ []) items
found_index name front (Ty x ∷ items) = found_index name (front ++ Ty x ∷ []) items
found_index name front (Canonical x ∷ items) = found_index name (front ++ Canonical x ∷ []) items
found_index name front (Export x ∷ items) = found_index name (front ++ Export x ∷ []) items

pub none_of : (o : Option Wire) → is_some o ≡ false → is_none o ≡ true
none_of None e = refl
none_of (Some x) e = absurd cc

-- the imports so far to which nothing is given, one more
pub open_push : (c : CompositionTree) (i a n : ℕ) (es : List (List ℕ × EntityTree)) (e : List ℕ × EntityTree) → a + length es ≡ n
    → open_from c i a (es ++ e ∷ []) ≡ open_from c i a es ++ (if is_none (wire_into c.wires i n) then e ∷ [] else [])
open_push c i a n [] e at = let same : a ≡ n = omega (arith, at) in one (λ k. is_none (wire_into c.wires i (same k)))
  where
    one : {b d : Bool} → b ≡ d → (cond b (e ∷ []) [] ++ []) ≡ ([] ++ cond d (e ∷ []) [])
    one {b} {d} k = nil b ∙ ap (λ x. cond x (e ∷ []) []) k
      where
        nil : (b : Bool) → (cond b (e ∷ []) [] ++ []) ≡ cond b (e ∷ []) []
        nil true = refl
        nil false = refl
open_push c i a n (x ∷ es) e at =
    ap (λ l. (if is_none (wire_into c.wires i a) then x ∷ [] else []) ++ l) (open_push c i (suc a) n es e (omega (arith, at)))
    ∙ front (is_none (wire_into c.wires i a))
  where
    front : (b : Bool) → cond b (x ∷ []) [] ++ (open_from c i (suc a) es ++ (if is_none (wire_into c.wires i n) then e ∷ [] else []))
        ≡ (cond b (x ∷ []) [] ++ open_from c i (suc a) es) ++ (if is_none (wire_into c.wires i n) then e ∷ [] else [])
    front true = refl
    front false = refl

take_long : {X : Type 0} (xs : List X) (i : ℕ) → i ≤ length xs → length (take i xs) ≡ i
take_long xs zero le = refl
take_long [] (suc i) le = absurd (omega (arith, le))
take_long (x ∷ xs) (suc i) le = ap suc (take_long xs i (omega (arith, le)))

pub open_more : (c : CompositionTree) (inst i : ℕ) (es : List (List ℕ × Entity)) (x : List ℕ × Entity) → i < length es → x ≡ get_or es i x
    → open_from c inst 0 (named_entities (take (i + 1) es)) ≡ open_from c inst 0 (named_entities (take i es)) ++ (if is_none (wire_into c.wires inst i) then (x.0, entity_tree x.1) ∷ [] else [])
open_more c inst i es x lt is =
    let f : List ℕ × Entity → List ℕ × EntityTree = λ e. (e.0, entity_tree e.1) in
    let le : i ≤ length es = omega (arith, lt) in
    let count : 0 + length (named_entities (take i es)) ≡ i = omega (arith, length-map (take i es) f, take_long es i le) in
    ap (λ ys. open_from c inst 0 (named_entities ys)) (take_more es i x lt ∙ ap (λ y. take i es ++ y ∷ []) (sym is))
    ∙ ap (open_from c inst 0) (map-append f (take i es) (x ∷ [])) ∙ open_push c inst 0 i (named_entities (take i es)) (x.0, entity_tree x.1) count

pub get_same : (xs : List ℕ) (i d e : ℕ) → i < length xs → get_or xs i d ≡ get_or xs i e
get_same [] i d e lt = absurd (omega (arith, lt))
get_same (x ∷ xs) zero d e lt = refl
get_same (x ∷ xs) (suc i) d e lt = get_same xs i d e (omega (arith, lt))

-- ---- names

all_append : {X : Type 0} (P : X → Type 0) (xs ys : List X) → AllByRecursion P xs → AllByRecursion P ys → AllByRecursion P (xs ++ ys)
all_append P [] ys h k = k
all_append P (x ∷ xs) ys h k = (h.0, all_append P xs ys h.1 k)

all_filter : {X : Type 0} (P : X → Type 0) (q : X → Bool) (xs : List X) → AllByRecursion P xs → AllByRecursion P (filter q xs)
all_filter P q [] h = tt
all_filter P q (x ∷ xs) h = one (q x) (all_filter P q xs h.1)
  where
    one : (b : Bool) → AllByRecursion P (filter q xs) → AllByRecursion P (cond b (x ∷ filter q xs) (filter q xs))
    one true k = (h.0, k)
    one false k = k

all_flat : {X Y : Type 0} (P : Y → Type 0) (f : X → List Y) (xs : List X) → ((x : X) → AllByRecursion P (f x)) → AllByRecursion P (flat_map f xs)
all_flat P f [] h = tt
all_flat P f (x ∷ xs) h = all_append P (f x) (flat_map f xs) (h x) (all_flat P f xs h)

all_map : {X Y : Type 0} (P : Y → Type 0) (Q : X → Type 0) (f : X → Y) (xs : List X) → ((x : X) → Q x → P (f x)) → AllByRecursion Q xs → AllByRecursion P (map f xs)
all_map P Q f [] h k = tt
all_map P Q f (x ∷ xs) h k = (h x k.0, all_map P Q f xs h k.1)

abbrev one_of : {X : Type 0} → X → Option X
one_of x = Some x

some_is : {X : Type 0} (a b : X) → one_of a ≡ one_of b → a ≡ b
some_is a b e = cc

all_got : {X : Type 0} (P : X → Type 0) (xs : List X) (n : ℕ) (x : X) → AllByRecursion P xs → slice_get xs n ≡ Some x → P x
all_got P [] n x h e = absurd cc
all_got P (y ∷ xs) zero x h e = subst P (some_is y x e) h.0
all_got P (y ∷ xs) (suc n) x h e = all_got P xs n x h.1 e

pub ends_into : (c : CompositionTree) (i : ℕ) → AllByRecursion (HasEnds (wiring c)) c.wires → AllByRecursion (HasEnds (wiring c)) (wires_of c i)
ends_into c i h =
    let ws = filter (goes_to i) c.wires in
    all_flat (HasEnds (wiring c)) (λ source. filter (comes_from source) ws) (first_ones [] (map source_of ws)) (λ source. all_filter (HasEnds (wiring c)) (comes_from source) ws (all_filter (HasEnds (wiring c)) (goes_to i) c.wires h))

shape_names : (c : CompositionTree) (i : ℕ) → AllByRecursion HaveNames c.components → AllByRecursion HasName (shape_of c i).imports
shape_names c i h = subst (λ (o : Option ShapeTree). AllByRecursion HasName (unwrap_or o no_shape).imports) (sym (get_map (shape_numbered c.components) c.instances i)) (one (slice_get c.instances i))
  where
    two : (o : Option ComponentTree) (n : ℕ) → slice_get c.components n ≡ o → AllByRecursion HasName (option_map_or (λ (k : ComponentTree). k.shape) o no_shape).imports
    two None n e = tt
    two (Some k) n e = all_got HaveNames c.components n k h e

    one : (o : Option ℕ) → AllByRecursion HasName (unwrap_or (option_map (shape_numbered c.components) o) no_shape).imports
    one None = tt
    one (Some n) = two (slice_get c.components n) n refl

import_named : (es : List (List ℕ × EntityTree)) (n : ℕ) → AllByRecursion HasName es → n < length es → 0 < length (unwrap_or (slice_get es n) no_entity).0
import_named [] n h lt = absurd (omega (arith, lt))
import_named (e ∷ es) zero h lt = h.0
import_named (e ∷ es) (suc n) h lt = import_named es n h.1 (omega (arith, lt))

open_named : (c : CompositionTree) (i n : ℕ) (es : List (List ℕ × EntityTree)) → AllByRecursion HasName es → AllByRecursion HasName (open_from c i n es)
open_named c i n [] h = tt
open_named c i n (e ∷ es) h = one (is_none (wire_into c.wires i n)) (open_named c i (suc n) es h.1)
  where
    one : (b : Bool) → AllByRecursion HasName (open_from c i (suc n) es) → AllByRecursion HasName (cond b (e ∷ []) [] ++ open_from c i (suc n) es)
    one true k = (h.0, k)
    one false k = k

abbrev pub IsNamedArg : Arg → Type 0
IsNamedArg arg = 0 < length arg.name

given_named : (c : CompositionTree) (w : Written) (wire : Wire) (o : Option ℕ) → AllByRecursion HaveNames c.components → HasEnds (wiring c) wire → IsNamedArg (given_arg c w wire o)
given_named c w wire None h k = import_named (shape_of c wire.target).imports wire.import (shape_names c wire.target h) k.import
given_named c w wire (Some export) h k = import_named (shape_of c wire.target).imports wire.import (shape_names c wire.target h) k.import

-- no argument has an empty name
pub args_named : (c : CompositionTree) (imports : List ItemTree) (w : Written) (i : ℕ) → AllByRecursion (HasEnds (wiring c)) c.wires → AllByRecursion HaveNames c.components → AllByRecursion IsNamedArg (args_of c imports w i)
args_named c imports w i ends named =
    all_append IsNamedArg (given_args c w i) (map (open_arg imports) (open_imports c i))
    (all_map IsNamedArg (HasEnds (wiring c)) (λ wire. given_arg c w wire wire.export) (wires_of c i) (λ wire k. given_named c w wire wire.export named k) (ends_into c i ends))
    (all_map IsNamedArg HasName (open_arg imports) (open_imports c i) (λ e k. k) (open_named c i 0 (shape_of c i).imports (shape_names c i named)))

pub used_below : (c : CompositionTree) → AllByRecursion (λ n. n < length c.components) (used c)
used_below c = all_filter (λ n. n < length c.components) (is_used c) (range_with_len 0 (length c.components)) (below 0 (length c.components) (length c.components) (omega arith))
  where
    below : (a n end : ℕ) → a + n ≤ end → AllByRecursion (λ m. m < end) (range_with_len a n)
    below a zero end le = tt
    below a (suc n) end le = (omega (arith, le), below (a + 1) n end (omega (arith, le)))
