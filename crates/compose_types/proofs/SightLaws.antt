-- What is known behind entities, and what they mention, one after the other.
use Rattle.std.proofs.Common.{◌≡◌, ℕ, suc, ◌+◌, ◌<◌, ◌≤◌, ◌||◌, ◌&&◌, Bool, true, false, length, take, drop, drop-cons, get_or, arith, Vec, List, [], ◌∷◌, ◌++◌, map, Option, Some, None, refl, sym, ap, ◌∙◌, append_assoc, append-nil}
use Rattle.std.specs.Prelude.{Box, flat_map, is_some, option_map, option_and_then, option_to_list, if◌then◌else◌}
use Rattle.std.specs.Borrow.{Bor}
use Rattle.std.specs.Global.{Global}
use Rattle.std.specs.List.{list_all, list_any}
use Rattle.std.proofs.lemmas.List.Folds.{list_all-append, list_any-append}
use Rattle.std.proofs.lemmas.List.{drop_all, take_more}
use Rattle.std.proofs.lemmas.Option.{option_and_then_some}
use Rattle.comp_entity.specs.declared.entity.Entity.{Entity}
use Rattle.comp_entity.specs.declared.entity.Entity.TheVariants as entity
use Rattle.comp_entity.specs.declared.entity.InstanceShape.{InstanceShape}
use Rattle.comp_entity.specs.declared.entity.ComponentShape.{ComponentShape}
use Rattle.comp_entity.specs.declared.entity.FuncShape.{FuncShape}
use Rattle.comp_entity.specs.declared.entity.TypeShape.{TypeShape}
use Rattle.comp_entity.specs.declared.entity.TypeShape.TheVariants as shape
use Rattle.comp_entity.specs.declared.entity.ValueShape.{ValueShape}
use Rattle.comp_entity.specs.declared.entity.ValueShape.TheVariants as made
use Rattle.comp_entity.specs.Entity.{Name, ValueTree, Primitive, TupleOf, RecordOf, VariantOf, ListOf, FlagsOf, EnumOf, OptionOf, ResultOf, Own, Borrow, TypeShapeTree, Value, Resource, Func, Instance, Component, EntityTree, IsType, IsFunc, IsInstance, IsComponent, IsModule, IsOwnModule, Entries, no_entry, entry}
use Rattle.comp_entity.specs.Fits.{place_of}
use Rattle.comp_entity.specs.Names.{Mention, OfResource, OfPlace, in_value, in_values, in_cases, in_payload, in_func}
use Rattle.comp_entity.specs.Places.{names_itself, named_value, same_mention}
use Rattle.comp_entity.specs.Views.{Sides, component_sides, entity_tree, type_tree, entries_of, named_entities, value_tree, values_of, fields_of, cases_of, func_tree}
use Rattle.compose_writing.specs.Conditions.{with_these, all_known, unnamed, if_scope, known_behind, type_known_behind, entries_known_behind, is_known, are_known, sides_known}
use Rattle.compose_writing.specs.Keys.{from_within}
use Rattle.compose_meaning.specs.Readable.{brought_keys, keys_among}
use Rattle.compose_types.specs.Sights.{sees, sight_step, part_known, field_known, held_known, case_known}
use Rattle.compose_types.specs.declared.sights.Sight.{Sight, fold-roll-Sight}
use Rattle.compose_types.specs.declared.sights.Sight.TheOpen as seen_layer
use Rattle.compose_types.specs.declared.sights.Sight.TheVariants as seen
use Rattle.compose_types.specs.Values.{field_tree, case_tree, held_tree, boxed_tree}
use Rattle.compose_types.proofs.EntityLaws.{component_is, shape_instance}
use Rattle.compose_types.proofs.NoteLaws.{entity_instance}
use Rattle.compose_types.proofs.ValueLaws.{tree_record, tree_result, tree_variant, tree_tuple}

-- ---- what is known behind an entity

abbrev some_or : {A : Type 0} → A → Option A → A
some_or d None = d
some_or d (Some x) = x

some_is : {A : Type 0} (x y : A) → Some x ≡ Some y → x ≡ y
some_is x y h = ap (some_or x) h

all_next : (b : Bool) (f next : Mention → Bool) → (if b then Some f else None) ≡ Some next → f ≡ next
all_next true f next h = some_is f next h
all_next false f next h = absurd cc

scope_next : (known next : Mention → Bool) (within : Option (Mention → Bool)) → if_scope known within ≡ Some next → known ≡ next
scope_next known next None h = absurd cc
scope_next known next (Some inner) h = some_is known next h

none_more : (a : Bool) → a || false ≡ a
none_more true = refl
none_more false = refl

one_more : (a b c : Bool) → (a || b) || c ≡ a || (b || c)
one_more true b c = refl
one_more false b c = refl

with_none : (known : Mention → Bool) → with_these known [] ≡ known
with_none known = λ i key. none_more (known key) i

with_both : (known : Mention → Bool) (a b : List Mention) → with_these (with_these known a) b ≡ with_these known (a ++ b)
with_both known a b = λ i key. (one_more (known key) (list_any (λ k. same_mention k key) a) (list_any (λ k. same_mention k key) b) ∙ ap (λ c. known key || c) (sym (list_any-append (λ k. same_mention k key) a b))) i

type_then : (t : TypeShapeTree) (known next : Mention → Bool) → type_known_behind known t ≡ Some next → next ≡ with_these known (names_itself (IsType t))
type_then (Value t) known next h = sym (all_next (all_known known (in_value 0 (unnamed t))) (with_these known (named_value (place_of t))) next h)
type_then (Resource r) known next h = sym (some_is (with_these known (OfResource r ∷ [])) next h)
type_then (Func f) known next h = sym (all_next (all_known known (in_func 0 f)) known next h) ∙ sym (with_none known)
type_then (Instance es) known next h = sym (scope_next known next (entries_known_behind (from_within 1 known) es) h) ∙ sym (with_none known)
type_then (Component is es) known next h =
    sym (scope_next known next (option_and_then (λ next. entries_known_behind next es) (entries_known_behind (from_within 2 known) is)) h) ∙ sym (with_none known)

mutual
  pub known_then : (e : EntityTree) (known next : Mention → Bool) → known_behind known e ≡ Some next → next ≡ with_these known (brought_keys e)
  known_then (IsType t) known next h = type_then t known next h
  known_then (IsFunc f) known next h = sym (all_next (all_known known (in_func 0 f)) known next h) ∙ sym (with_none known)
  known_then (IsInstance es) known next h = entries_then es known next h
  known_then (IsComponent is es) known next h =
      sym (scope_next known next (option_and_then (λ next. entries_known_behind next es) (entries_known_behind (from_within 2 known) is)) h) ∙ sym (with_none known)
  known_then (IsModule m) known next h = sym (some_is known next h) ∙ sym (with_none known)
  known_then IsOwnModule known next h = absurd cc

  pub entries_then : (es : Entries) (known next : Mention → Bool) → entries_known_behind known es ≡ Some next → next ≡ with_these known (keys_among es)
  entries_then no_entry known next h = sym (some_is known next h) ∙ sym (with_none known)
  entries_then (entry name e mark es) known next h =
      option_and_then_some (λ next. entries_known_behind next es) (known_behind known e) next h (λ mid first later.
      entries_then es mid next later ∙ ap (λ f. with_these f (keys_among es)) (known_then e known mid first) ∙ with_both known (brought_keys e) (keys_among es))

-- ---- entries, one after the other

brought_push : (xs : List (List ℕ × Entity)) (x : List ℕ × Entity) → keys_among (entries_of (named_entities (xs ++ x ∷ []))) ≡ keys_among (entries_of (named_entities xs)) ++ brought_keys (entity_tree x.1)
brought_push [] x = append-nil (brought_keys (entity_tree x.1))
brought_push (y ∷ xs) x = ap (λ ks. brought_keys (entity_tree y.1) ++ ks) (brought_push xs x) ∙ sym (append_assoc (brought_keys (entity_tree y.1)) (keys_among (entries_of (named_entities xs))) (brought_keys (entity_tree x.1)))

-- what is known behind the first so many entries
abbrev pub known_after : (Mention → Bool) → List (List ℕ × Entity) → ℕ → Mention → Bool
known_after known xs i = with_these known (keys_among (entries_of (named_entities (take i xs))))

abbrev pub from_there : (Mention → Bool) → List (List ℕ × Entity) → ℕ → Bool
from_there known xs i = are_known (known_after known xs i) (entries_of (named_entities (drop i xs)))

module _ (known : Mention → Bool) (xs : List (List ℕ × Entity)) where
  pub seen_begin : from_there known xs 0 ≡ are_known known (entries_of (named_entities xs))
  seen_begin = ap (λ f. are_known f (entries_of (named_entities xs))) (with_none known)

  pub seen_end : (i : ℕ) → length xs ≤ i → from_there known xs i ≡ true
  seen_end i le =
      let none : drop i xs ≡ [] = rw drop_all refl in
      ap (λ ys. are_known (known_after known xs i) (entries_of (named_entities ys))) none

  cut : (i : ℕ) (x : List ℕ × Entity) → i < length xs → x ≡ get_or xs i x → drop i xs ≡ x ∷ drop (i + 1) xs
  cut i x lt is =
      let more_by_one : suc i ≡ i + 1 = omega arith in
      drop-cons xs i x lt ∙ ap (λ z. z ∷ drop (suc i) xs) (sym is) ∙ ap (λ n. x ∷ drop n xs) more_by_one

  after_one : (i : ℕ) (x : List ℕ × Entity) → i < length xs → x ≡ get_or xs i x → with_these (known_after known xs i) (brought_keys (entity_tree x.1)) ≡ known_after known xs (i + 1)
  after_one i x lt is =
      with_both known (keys_among (entries_of (named_entities (take i xs)))) (brought_keys (entity_tree x.1))
      ∙ ap (with_these known) (sym (brought_push (take i xs) x) ∙ ap (λ ys. keys_among (entries_of (named_entities ys))) (ap (λ z. take i xs ++ z ∷ []) is ∙ sym (take_more xs i x lt)))

  pub seen_stop : (i : ℕ) (x : List ℕ × Entity) → i < length xs → x ≡ get_or xs i x → is_some (known_behind (known_after known xs i) (entity_tree x.1)) ≡ false → from_there known xs i ≡ false
  seen_stop i x lt is h = ap (λ ys. are_known (known_after known xs i) (entries_of (named_entities ys))) (cut i x lt is) ∙ nothing (known_behind (known_after known xs i) (entity_tree x.1)) h
    where
      nothing : (o : Option (Mention → Bool)) → is_some o ≡ false → is_some (option_and_then (λ next. entries_known_behind next (entries_of (named_entities (drop (i + 1) xs)))) o) ≡ false
      nothing None h = refl
      nothing (Some f) h = absurd cc

  pub seen_step : (i : ℕ) (x : List ℕ × Entity) → i < length xs → x ≡ get_or xs i x → is_some (known_behind (known_after known xs i) (entity_tree x.1)) ≡ true → from_there known xs (i + 1) ≡ from_there known xs i
  seen_step i x lt is h =
      sym (ap (λ ys. are_known (known_after known xs i) (entries_of (named_entities ys))) (cut i x lt is) ∙ something (known_behind (known_after known xs i) (entity_tree x.1)) refl h)
    where
      something : (o : Option (Mention → Bool)) → known_behind (known_after known xs i) (entity_tree x.1) ≡ o → is_some o ≡ true
          → is_some (option_and_then (λ next. entries_known_behind next (entries_of (named_entities (drop (i + 1) xs)))) o) ≡ from_there known xs (i + 1)
      something None e h = absurd cc
      something (Some f) e h = ap (λ f. are_known f (entries_of (named_entities (drop (i + 1) xs)))) (known_then (entity_tree x.1) (known_after known xs i) f e ∙ after_one i x lt is)

-- the exports of a component behind its imports
pub sides_seen : (known : Mention → Bool) (is es : Entries) → are_known (from_within 2 known) is ≡ true → are_known (with_these (from_within 2 known) (keys_among is)) es ≡ sides_known known is es
sides_seen known is es h = something (entries_known_behind (from_within 2 known) is) refl h
  where
    something : (o : Option (Mention → Bool)) → entries_known_behind (from_within 2 known) is ≡ o → is_some o ≡ true
        → are_known (with_these (from_within 2 known) (keys_among is)) es ≡ is_some (option_and_then (λ next. entries_known_behind next es) o)
    something None e h = absurd cc
    something (Some f) e h = ap (λ f. are_known f es) (sym (entries_then is (from_within 2 known) f e))

pub sides_unseen : (known : Mention → Bool) (is es : Entries) → are_known (from_within 2 known) is ≡ false → sides_known known is es ≡ false
sides_unseen known is es h = nothing (entries_known_behind (from_within 2 known) is) h
  where
    nothing : (o : Option (Mention → Bool)) → is_some o ≡ false → is_some (option_and_then (λ next. entries_known_behind next es) o) ≡ false
    nothing None h = refl
    nothing (Some f) h = absurd cc

-- ---- what stands before, looked through

pub instance_brings : (e : Entity) (t : InstanceShape) → e ≡ entity.Instance t → brought_keys (entity_tree e) ≡ keys_among (entries_of (named_entities t.exports.items))
instance_brings e t is = ap brought_keys (ap entity_tree is ∙ entity_instance t)

module _ (p : Mention → Bool) (xs : List (List ℕ × Entity)) where
  abbrev pub some_from : ℕ → Bool
  some_from i = list_any p (keys_among (entries_of (named_entities (drop i xs))))

  first_or_rest : (i : ℕ) (x : List ℕ × Entity) → i < length xs → x ≡ get_or xs i x → some_from i ≡ list_any p (brought_keys (entity_tree x.1)) || some_from (i + 1)
  first_or_rest i x lt is =
      ap (λ ys. list_any p (keys_among (entries_of (named_entities ys)))) (cut (λ m. true) xs i x lt is)
      ∙ list_any-append p (brought_keys (entity_tree x.1)) (keys_among (entries_of (named_entities (drop (i + 1) xs))))

  pub brings_found : (i : ℕ) (x : List ℕ × Entity) → i < length xs → x ≡ get_or xs i x → list_any p (brought_keys (entity_tree x.1)) ≡ true → some_from i ≡ true
  brings_found i x lt is h = first_or_rest i x lt is ∙ ap (λ b. b || some_from (i + 1)) h

  pub brings_later : (i : ℕ) (x : List ℕ × Entity) → i < length xs → x ≡ get_or xs i x → list_any p (brought_keys (entity_tree x.1)) ≡ false → some_from (i + 1) ≡ some_from i
  brings_later i x lt is h = sym (first_or_rest i x lt is ∙ ap (λ b. b || some_from (i + 1)) h)

  pub brings_end : (i : ℕ) → length xs ≤ i → some_from i ≡ false
  brings_end i le =
      let none : drop i xs ≡ [] = rw drop_all refl in
      ap (λ ys. list_any p (keys_among (entries_of (named_entities ys)))) none

-- ---- parts of value types

module _ (known : Mention → Bool) where
  parts_known : (ts : List ValueShape) → all_known known (in_values 0 (values_of (map value_tree ts))) ≡ list_all (part_known known) ts
  parts_known [] = refl
  parts_known (t ∷ ts) = list_all-append (λ m. known m.1) (in_value 0 (value_tree t)) (in_values 0 (values_of (map value_tree ts))) ∙ ap (λ b. part_known known t && b) (parts_known ts)

  fields_known : (fs : List (List ℕ × ValueShape)) → all_known known (in_cases 0 (fields_of (map field_tree fs))) ≡ list_all (field_known known) fs
  fields_known [] = refl
  fields_known (f ∷ fs) = list_all-append (λ m. known m.1) (in_value 0 (value_tree f.1)) (in_cases 0 (fields_of (map field_tree fs))) ∙ ap (λ b. field_known known f && b) (fields_known fs)

  cases_known : (cs : List (List ℕ × Option ValueShape)) → all_known known (in_cases 0 (cases_of (map case_tree cs))) ≡ list_all (case_known known) cs
  cases_known [] = refl
  cases_known (c ∷ cs) = list_all-append (λ m. known m.1) (in_payload 0 (held_tree c.1)) (in_cases 0 (cases_of (map case_tree cs))) ∙ ap (λ b. case_known known c && b) (cases_known cs)

  pub tuple_seen : (ty : ValueShape) (ts : Vec ValueShape Global) → ty ≡ made.TupleOf ts → all_known known (in_value 0 (unnamed (value_tree ty))) ≡ list_all (part_known known) ts.items
  tuple_seen ty ts is = rw (is, tree_tuple ts) (parts_known ts.items)

  pub record_seen : (ty : ValueShape) (p : Option Name) (fs : Vec (List ℕ × ValueShape) Global) → ty ≡ made.RecordOf p fs → all_known known (in_value 0 (unnamed (value_tree ty))) ≡ list_all (field_known known) fs.items
  record_seen ty p fs is = rw (is, tree_record p fs) (fields_known fs.items)

  pub variant_seen : (ty : ValueShape) (p : Option Name) (cs : Vec (List ℕ × Option ValueShape) Global) → ty ≡ made.VariantOf p cs → all_known known (in_value 0 (unnamed (value_tree ty))) ≡ list_all (case_known known) cs.items
  variant_seen ty p cs is = rw (is, tree_variant p cs) (cases_known cs.items)

  pub result_seen : (ty : ValueShape) (ok err : Option (Box ValueShape Global)) → ty ≡ made.ResultOf ok err
      → all_known known (in_value 0 (unnamed (value_tree ty))) ≡ all_known known (in_payload 0 (boxed_tree ok)) && all_known known (in_payload 0 (boxed_tree err))
  result_seen ty ok err is = rw (is, tree_result ok err) (list_all-append (λ m. known m.1) (in_payload 0 (boxed_tree ok)) (in_payload 0 (boxed_tree err)))

  params_known : (fs : List (List ℕ × ValueShape)) → all_known known (flat_map (λ p. in_value 0 p.1) (map field_tree fs)) ≡ list_all (field_known known) fs
  params_known [] = refl
  params_known (f ∷ fs) =
      list_all-append (λ m. known m.1) (in_value 0 (value_tree f.1)) (flat_map (λ p. in_value 0 p.1) (map field_tree fs)) ∙ ap (λ b. field_known known f && b) (params_known fs)

  result_known : (r : Option ValueShape) → all_known known (flat_map (in_value 0) (option_to_list (option_map value_tree r))) ≡ held_known known r
  result_known None = refl
  result_known (Some t) = ap (all_known known) (append-nil (in_value 0 (value_tree t)))

  pub func_seen : (f : FuncShape) → all_known known (in_func 0 (func_tree f)) ≡ list_all (field_known known) f.params.items && held_known known f.result
  func_seen f =
      list_all-append (λ m. known m.1) (flat_map (λ p. in_value 0 p.1) (map field_tree f.params.items)) (flat_map (in_value 0) (option_to_list (option_map value_tree f.result)))
      ∙ ap (λ b. b && all_known known (flat_map (in_value 0) (option_to_list (option_map value_tree f.result)))) (params_known f.params.items)
      ∙ ap (λ b. list_all (field_known known) f.params.items && b) (result_known f.result)

  pub named_seen : (t : ValueTree) (n : Name) → place_of t ≡ Some n → all_known known (in_value 0 t) ≡ known (OfPlace n) && all_known known (in_value 0 (unnamed t))
  named_seen (Primitive p) n h = absurd cc
  named_seen (TupleOf ts) n h = absurd cc
  named_seen (RecordOf None cs) n h = absurd cc
  named_seen (RecordOf (Some p) cs) n h = ap (λ p. known (OfPlace p) && all_known known (in_cases 0 cs)) (some_is p n h)
  named_seen (VariantOf None cs) n h = absurd cc
  named_seen (VariantOf (Some p) cs) n h = ap (λ p. known (OfPlace p) && all_known known (in_cases 0 cs)) (some_is p n h)
  named_seen (ListOf t) n h = absurd cc
  named_seen (FlagsOf None ls) n h = absurd cc
  named_seen (FlagsOf (Some p) ls) n h = ap (λ p. known (OfPlace p) && true) (some_is p n h)
  named_seen (EnumOf None ls) n h = absurd cc
  named_seen (EnumOf (Some p) ls) n h = ap (λ p. known (OfPlace p) && true) (some_is p n h)
  named_seen (OptionOf t) n h = absurd cc
  named_seen (ResultOf ok err) n h = absurd cc
  named_seen (Own r) n h = absurd cc
  named_seen (Borrow r) n h = absurd cc

  pub unnamed_seen : (t : ValueTree) → place_of t ≡ None → all_known known (in_value 0 t) ≡ all_known known (in_value 0 (unnamed t))
  unnamed_seen (Primitive p) h = refl
  unnamed_seen (TupleOf ts) h = refl
  unnamed_seen (RecordOf None cs) h = refl
  unnamed_seen (RecordOf (Some p) cs) h = absurd cc
  unnamed_seen (VariantOf None cs) h = refl
  unnamed_seen (VariantOf (Some p) cs) h = absurd cc
  unnamed_seen (ListOf t) h = refl
  unnamed_seen (FlagsOf None ls) h = refl
  unnamed_seen (FlagsOf (Some p) ls) h = absurd cc
  unnamed_seen (EnumOf None ls) h = refl
  unnamed_seen (EnumOf (Some p) ls) h = absurd cc
  unnamed_seen (OptionOf t) h = refl
  unnamed_seen (ResultOf ok err) h = refl
  unnamed_seen (Own r) h = refl
  unnamed_seen (Borrow r) h = refl

-- ---- what is seen from entities in code

pub sees_within : (width : ℕ) (around : Bor Sight) → sees (seen.Within width around) ≡ from_within width (sees around.now)
sees_within width around = ap sees (sym (seen.rolls-Within width around)) ∙ fold-roll-Sight (Mention → Bool) sight_step (seen_layer.Within width around)

pub sees_behind : (entries : Bor (List (List ℕ × Entity))) (around : Bor Sight) → sees (seen.Behind entries around) ≡ with_these (sees around.now) (keys_among (entries_of (named_entities entries.now)))
sees_behind entries around = ap sees (sym (seen.rolls-Behind entries around)) ∙ fold-roll-Sight (Mention → Bool) sight_step (seen_layer.Behind entries around)

pub instance_seen : (known : Mention → Bool) (e : Entity) (t : InstanceShape) (xs : List (List ℕ × Entity)) → e ≡ entity.Instance t → xs ≡ t.exports.items → are_known known (entries_of (named_entities xs)) ≡ is_known known (entity_tree e)
instance_seen known e t xs is at = ap (λ ys. are_known known (entries_of (named_entities ys))) at ∙ sym (ap (is_known known) (ap entity_tree is ∙ entity_instance t))

pub instance_type_seen : (known inner : Mention → Bool) (s : TypeShape) (t : InstanceShape) (xs : List (List ℕ × Entity)) → s ≡ shape.Instance t → xs ≡ t.exports.items → inner ≡ from_within 1 known
    → are_known inner (entries_of (named_entities xs)) ≡ is_some (type_known_behind known (type_tree s))
instance_type_seen known inner s t xs is at within =
    ap (λ f. are_known f (entries_of (named_entities xs))) within ∙ ap (λ ys. are_known (from_within 1 known) (entries_of (named_entities ys))) at
    ∙ scope_is (entries_known_behind (from_within 1 known) (entries_of (named_entities t.exports.items)))
    ∙ sym (ap (λ s. is_some (type_known_behind known s)) (ap type_tree is ∙ shape_instance t))
  where
    scope_is : (o : Option (Mention → Bool)) → is_some o ≡ is_some (if_scope known o)
    scope_is None = refl
    scope_is (Some f) = refl

pub component_seen : (known inner outer : Mention → Bool) (c : ComponentShape) (a b d : List (List ℕ × Entity)) → a ≡ c.imports.items → d ≡ c.imports.items → b ≡ c.exports.items → inner ≡ from_within 2 known
    → outer ≡ with_these inner (keys_among (entries_of (named_entities d))) → are_known inner (entries_of (named_entities a)) ≡ true
    → are_known outer (entries_of (named_entities b)) ≡ sides_known known (component_sides c).imports (component_sides c).exports
component_seen known inner outer c a b d a_is d_is b_is inner_is outer_is h =
    let is = entries_of (named_entities c.imports.items) in
    let es = entries_of (named_entities c.exports.items) in
    let there : are_known (from_within 2 known) is ≡ true = sym (ap (λ f. are_known f (entries_of (named_entities a))) inner_is ∙ ap (λ xs. are_known (from_within 2 known) (entries_of (named_entities xs))) a_is) ∙ h in
    ap (λ f. are_known f (entries_of (named_entities b))) (outer_is ∙ ap (λ f. with_these f (keys_among (entries_of (named_entities d)))) inner_is)
    ∙ ap (λ xs. are_known (with_these (from_within 2 known) (keys_among (entries_of (named_entities xs)))) (entries_of (named_entities b))) d_is
    ∙ ap (λ xs. are_known (with_these (from_within 2 known) (keys_among is)) (entries_of (named_entities xs))) b_is
    ∙ sides_seen known is es there ∙ sym (ap (λ (s : Sides). sides_known known s.imports s.exports) (component_is c))

module _ (known outer : Mention → Bool) (xs : List (List ℕ × Entity)) (i : ℕ) (x : List ℕ × Entity) (r : Bool) (behind : outer ≡ known_after known xs i) (lt : i < length xs) (is : x ≡ get_or xs i x) (told : r ≡ is_known outer (entity_tree x.1)) (so_far : from_there known xs i ≡ from_there known xs 0) where
  there : (b : Bool) → r ≡ b → is_some (known_behind (known_after known xs i) (entity_tree x.1)) ≡ b
  there b h = sym (ap (λ f. is_known f (entity_tree x.1)) behind) ∙ sym told ∙ h

  pub entry_unseen : r ≡ false → false ≡ are_known known (entries_of (named_entities xs))
  entry_unseen h = sym (sym (seen_begin known xs) ∙ sym so_far ∙ seen_stop known xs i x lt is (there false h))

  pub entry_seen : r ≡ true → from_there known xs (i + 1) ≡ from_there known xs 0
  entry_seen h = seen_step known xs i x lt is (there true h) ∙ so_far
