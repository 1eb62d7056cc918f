-- A number that is refused while values and functions are written stands in what would be written.
use Rattle.std.proofs.Common.{◌≡◌, ℕ, suc, ◌<◌, length, get_or, drop, drop-cons, Vec, List, [], ◌∷◌, ◌++◌, Option, Some, None, refl, sym, ap, ◌∙◌}
use Rattle.std.specs.Global.{Global}
use Rattle.std.specs.Prelude.{Box, option_and_then}
use Rattle.comp_format.specs.declared.types.DefinedType.{DefinedType}
use Rattle.comp_format.specs.declared.types.Primitive.{Primitive as PrimitiveType}
use Rattle.comp_format.specs.declared.types.DefinedType.TheVariants as defined
use Rattle.comp_format.specs.declared.types.ValType.{ValType}
use Rattle.comp_format.specs.declared.types.ValType.TheVariants as value
use Rattle.comp_format.specs.Definitions as tree
use Rattle.comp_format.specs.Definitions.{TypeTree}
use Rattle.comp_entity.specs.declared.entity.FuncShape.{FuncShape}
use Rattle.comp_entity.specs.declared.entity.ValueShape.{ValueShape, fold-roll-ValueShape}
use Rattle.comp_entity.specs.declared.entity.ValueShape.TheOpen as layer
use Rattle.comp_entity.specs.declared.entity.ValueShape.TheVariants as made
use Rattle.comp_entity.specs.Entity.{Name, ValueTree, Primitive, TupleOf, RecordOf, VariantOf, ListOf, FlagsOf, EnumOf, OptionOf, ResultOf, Own, Borrow, present}
use Rattle.comp_entity.specs.Fits.{place_of}
use Rattle.comp_entity.specs.Names.{OfResource, OfPlace}
use Rattle.comp_entity.specs.Views.{value_tree, value_step, func_tree}
use Rattle.compose_writing.specs.Scopes.{WrittenScope, Wrote, wrote_as, add_type, on_top, then_type, type_index}
use Rattle.compose_writing.specs.WriteValues.{as_part, named_part, then_defined, write_defined, write_func, write_own, write_params, write_payload, write_result, write_value}
use Rattle.compose_types.specs.Largest.{IsWithin, written_size}
use Rattle.compose_types.specs.Values.{boxed_tree, held_tree, primitive_of, write_case, write_each, write_field, write_part}
use Rattle.compose_types.proofs.LargestLaws.{within_as, within_same, within_then}
use Rattle.compose_types.proofs.ValueLaws.{cases_written, fields_written, params_written, parts_written, result_written, then_each, tree_list, tree_option, tree_record, tree_result, tree_tuple, tree_variant}
use Rattle.compose_types.proofs.GrowLaws.{all_same}
use Rattle.compose_types.proofs.WriteGrowLaws.{Growing, growing_added, growing_as, growing_then, payload_grows, result_grows, value_grows}

-- ---- one after the other

each_grows : {X Y : Type 0} (one : X → List WrittenScope → Wrote Y) → ((x : X) (ms : List WrittenScope) → Growing ms (one x ms)) → (xs : List X) (ms : List WrittenScope) → Growing ms (write_each one xs ms)
unfolding write_each
each_grows one grows [] ms = all_same ms
each_grows one grows (x ∷ xs) ms =
    growing_then (λ y. wrote_as (λ ys. y.1 ∷ ys) (write_each one xs y.0)) ms (one x ms) (grows x ms)
    (λ y. growing_as (λ ys. y.1 ∷ ys) y.0 (write_each one xs y.0) (each_grows one grows xs y.0))

pub each_refused : {X Y : Type 0} (n : ℕ) (one : X → List WrittenScope → Wrote Y) → ((x : X) (ms : List WrittenScope) → Growing ms (one x ms)) → (xs : List X) (i : ℕ) (x : X) (done : List Y) (ms : List WrittenScope) (all : Wrote (List Y))
    → i < length xs → x ≡ get_or xs i x → then_each done (write_each one (drop i xs) ms) ≡ all → IsWithin n written_size (one x ms) → IsWithin n written_size all
unfolding then_each write_each
each_refused n one grows xs i x done ms all lt is h k =
    let cut : drop i xs ≡ x ∷ drop (suc i) xs = drop-cons xs i x lt ∙ ap (λ z. z ∷ drop (suc i) xs) (sym is) in
    let rest = drop (suc i) xs in
    within_same n written_size (then_each done (write_each one (x ∷ rest) ms)) all (sym (ap (λ ys. then_each done (write_each one ys ms)) cut) ∙ h)
    (within_as n (λ ys. done ++ ys) (write_each one (x ∷ rest) ms)
    (within_then n (λ y. wrote_as (λ ys. y.1 ∷ ys) (write_each one rest y.0)) (one x ms) k
    (λ y. growing_as (λ ys. y.1 ∷ ys) y.0 (write_each one rest y.0) (each_grows one grows rest y.0))))

pub part_grows : (t : ValueShape) (ms : List WrittenScope) → Growing ms (write_part t ms)
part_grows t ms = value_grows (value_tree t) ms

pub field_grows : (f : List ℕ × ValueShape) (ms : List WrittenScope) → Growing ms (write_field f ms)
field_grows f ms = growing_as (λ t. (f.0, t)) ms (write_value (value_tree f.1) ms) (value_grows (value_tree f.1) ms)

pub case_grows : (c : List ℕ × Option ValueShape) (ms : List WrittenScope) → Growing ms (write_case c ms)
case_grows c ms = growing_as (λ t. (c.0, t)) ms (write_payload (held_tree c.1) ms) (payload_grows (held_tree c.1) ms)

pub field_refused : (n : ℕ) (f : List ℕ × ValueShape) (ms : List WrittenScope) → IsWithin n written_size (write_value (value_tree f.1) ms) → IsWithin n written_size (write_field f ms)
field_refused n f ms h = within_as n (λ t. (f.0, t)) (write_value (value_tree f.1) ms) h

pub payload_refused : (n : ℕ) (t : ValueTree) (ms : List WrittenScope) → IsWithin n written_size (write_value t ms) → IsWithin n written_size (write_payload (present t) ms)
unfolding write_defined
payload_refused n t ms h = within_as n Some (write_value t ms) h

pub held_refused : (n : ℕ) (held : Option ValueShape) (t : ValueShape) (ms : List WrittenScope) → held ≡ Some t → IsWithin n written_size (write_value (value_tree t) ms) → IsWithin n written_size (write_payload (held_tree held) ms)
held_refused n held t ms is h = rw is (payload_refused n (value_tree t) ms h)

pub boxed_refused : (n : ℕ) (held : Option (Box ValueShape Global)) (t : Box ValueShape Global) (ms : List WrittenScope) → held ≡ Some t → IsWithin n written_size (write_value (value_tree t.value) ms) → IsWithin n written_size (write_payload (boxed_tree held) ms)
boxed_refused n held t ms is h = rw is (payload_refused n (value_tree t.value) ms h)

pub case_refused : (n : ℕ) (c : List ℕ × Option ValueShape) (t : ValueShape) (ms : List WrittenScope) → c.1 ≡ Some t → IsWithin n written_size (write_value (value_tree t) ms) → IsWithin n written_size (write_case c ms)
case_refused n c t ms is h = within_as n (λ t. (c.0, t)) (write_payload (held_tree c.1) ms) (held_refused n c.1 t ms is h)

-- ---- a value type

tree_own : (r : Name) → value_tree (made.Own r) ≡ Own r
tree_own r = ap value_tree (sym (made.rolls-Own r)) ∙ fold-roll-ValueShape ValueTree value_step (layer.Own r)

tree_borrow : (r : Name) → value_tree (made.Borrow r) ≡ Borrow r
tree_borrow r = ap value_tree (sym (made.rolls-Borrow r)) ∙ fold-roll-ValueShape ValueTree value_step (layer.Borrow r)

module _ (n : ℕ) (ty : ValueShape) (ms : List WrittenScope) where
  pub tuple_refused : (ts : Vec ValueShape Global) → ty ≡ made.TupleOf ts → IsWithin n written_size (write_each write_part ts.items ms) → IsWithin n written_size (write_defined (value_tree ty) ms)
  unfolding write_defined
  tuple_refused ts is h = rw (is, tree_tuple ts) (within_as n defined.TupleOf _ (within_same n written_size _ _ (sym (parts_written ts.items ms)) h))

  pub record_refused : (p : Option Name) (fs : Vec (List ℕ × ValueShape) Global) → ty ≡ made.RecordOf p fs → IsWithin n written_size (write_each write_field fs.items ms) → IsWithin n written_size (write_defined (value_tree ty) ms)
  unfolding write_defined
  record_refused p fs is h = rw (is, tree_record p fs) (within_as n defined.RecordOf _ (within_same n written_size _ _ (sym (fields_written fs.items ms)) h))

  pub variant_refused : (p : Option Name) (cs : Vec (List ℕ × Option ValueShape) Global) → ty ≡ made.VariantOf p cs → IsWithin n written_size (write_each write_case cs.items ms) → IsWithin n written_size (write_defined (value_tree ty) ms)
  unfolding write_defined
  variant_refused p cs is h = rw (is, tree_variant p cs) (within_as n defined.VariantOf _ (within_same n written_size _ _ (sym (cases_written cs.items ms)) h))

  pub list_refused : (t : Box ValueShape Global) → ty ≡ made.ListOf t → IsWithin n written_size (write_value (value_tree t.value) ms) → IsWithin n written_size (write_defined (value_tree ty) ms)
  unfolding write_defined
  list_refused t is h = rw (is, tree_list t) (within_as n defined.ListOf (write_value (value_tree t.value) ms) h)

  pub option_refused : (t : Box ValueShape Global) → ty ≡ made.OptionOf t → IsWithin n written_size (write_value (value_tree t.value) ms) → IsWithin n written_size (write_defined (value_tree ty) ms)
  unfolding write_defined
  option_refused t is h = rw (is, tree_option t) (within_as n defined.OptionOf (write_value (value_tree t.value) ms) h)

  pub ok_refused : (ok err : Option (Box ValueShape Global)) → ty ≡ made.ResultOf ok err → IsWithin n written_size (write_payload (boxed_tree ok) ms) → IsWithin n written_size (write_defined (value_tree ty) ms)
  unfolding write_defined
  ok_refused ok err is h =
      rw (is, tree_result ok err) (within_then n (λ x. wrote_as (defined.ResultOf x.1) (write_payload (boxed_tree err) x.0)) (write_payload (boxed_tree ok) ms) h
      (λ x. growing_as (defined.ResultOf x.1) x.0 (write_payload (boxed_tree err) x.0) (payload_grows (boxed_tree err) x.0)))

  pub err_refused : (ok err : Option (Box ValueShape Global)) (next : List WrittenScope) (t : Option ValType) → ty ≡ made.ResultOf ok err → write_payload (boxed_tree ok) ms ≡ Some (next, t) → IsWithin n written_size (write_payload (boxed_tree err) next) → IsWithin n written_size (write_defined (value_tree ty) ms)
  unfolding write_defined
  err_refused ok err next t is first h =
      rw (is, tree_result ok err, first) (within_as n (defined.ResultOf t) (write_payload (boxed_tree err) next) h)

  pub own_refused : (r : Name) → ty ≡ made.Own r → IsWithin n written_size (type_index (OfResource r) ms) → IsWithin n written_size (write_defined (value_tree ty) ms)
  unfolding write_defined
  own_refused r is h = rw (is, tree_own r) (within_as n defined.Own (type_index (OfResource r) ms) h)

  pub borrow_refused : (r : Name) → ty ≡ made.Borrow r → IsWithin n written_size (type_index (OfResource r) ms) → IsWithin n written_size (write_defined (value_tree ty) ms)
  unfolding write_defined
  borrow_refused r is h = rw (is, tree_borrow r) (within_as n defined.Borrow (type_index (OfResource r) ms) h)

-- ---- a type of values as a part, or as it stands

defined_refused : (n : ℕ) (w : Wrote DefinedType) → IsWithin n written_size w → IsWithin n written_size (then_defined w)
defined_refused n w h =
    within_then n (λ x. on_top (add_type x.1) x.0) (wrote_as tree.Defined w) (within_as n tree.Defined w h) (λ x. growing_added x.1 x.0)

pub own_type_refused : (n : ℕ) (t : ValueTree) (ms : List WrittenScope) → IsWithin n written_size (write_defined t ms) → IsWithin n written_size (write_own t ms)
own_type_refused n t ms h = defined_refused n (write_defined t ms) h

pub own_added_refused : (n : ℕ) (t : ValueTree) (ms next : List WrittenScope) (d : DefinedType) → write_defined t ms ≡ Some (next, d) → IsWithin n written_size (then_defined (Some (next, d))) → IsWithin n written_size (write_own t ms)
own_added_refused n t ms next d is h = within_same n written_size (then_defined (Some (next, d))) (write_own t ms) (sym (ap then_defined is)) h

-- a type that is not primitive, as a part
part_is : (t : ValueTree) (own : Wrote DefinedType) (ms : List WrittenScope) → None ≡ primitive_of t → as_part t own ms ≡ named_part (place_of t) own ms
part_is (Primitive p) own ms other = absurd cc
part_is (TupleOf parts) own ms other = refl
part_is (RecordOf place fields) own ms other = refl
part_is (VariantOf place cases) own ms other = refl
part_is (ListOf t) own ms other = refl
part_is (FlagsOf place labels) own ms other = refl
part_is (EnumOf place labels) own ms other = refl
part_is (OptionOf t) own ms other = refl
part_is (ResultOf ok err) own ms other = refl
part_is (Own r) own ms other = refl
part_is (Borrow r) own ms other = refl

pub primitive_written : (t : ValueTree) (p : PrimitiveType) (ms : List WrittenScope) → Some p ≡ primitive_of t → write_value t ms ≡ Some (ms, value.Primitive p)
primitive_written (Primitive q) p ms is = let same : q ≡ p = cc in ap (λ r. Some (ms, value.Primitive r)) same
primitive_written (TupleOf parts) p ms is = absurd cc
primitive_written (RecordOf place fields) p ms is = absurd cc
primitive_written (VariantOf place cases) p ms is = absurd cc
primitive_written (ListOf t) p ms is = absurd cc
primitive_written (FlagsOf place labels) p ms is = absurd cc
primitive_written (EnumOf place labels) p ms is = absurd cc
primitive_written (OptionOf t) p ms is = absurd cc
primitive_written (ResultOf ok err) p ms is = absurd cc
primitive_written (Own r) p ms is = absurd cc
primitive_written (Borrow r) p ms is = absurd cc

module _ (t : ValueTree) (ms : List WrittenScope) (other : None ≡ primitive_of t) where
  as_named : (place : Option Name) → place ≡ place_of t → named_part place (write_defined t ms) ms ≡ write_value t ms
  as_named place is = ap (λ p. named_part p (write_defined t ms) ms) is ∙ sym (part_is t (write_defined t ms) ms other)

  pub place_written : (place : Name) (next : List WrittenScope) (i : ℕ) → Some place ≡ place_of t → type_index (OfPlace place) ms ≡ Some (next, i) → write_value t ms ≡ Some (next, value.Index i)
  place_written place next i is h = sym (as_named (Some place) is) ∙ ap (wrote_as value.Index) h

  pub part_written : (mid next : List WrittenScope) (d : DefinedType) (i : ℕ) → None ≡ place_of t → write_defined t ms ≡ Some (mid, d) → then_defined (Some (mid, d)) ≡ Some (next, i) → write_value t ms ≡ Some (next, value.Index i)
  part_written mid next d i is first h = sym (as_named None is) ∙ ap (λ w. wrote_as value.Index (then_defined w)) first ∙ ap (wrote_as value.Index) h

  pub place_refused : (n : ℕ) (place : Name) → Some place ≡ place_of t → IsWithin n written_size (type_index (OfPlace place) ms) → IsWithin n written_size (write_value t ms)
  place_refused n place is h =
      within_same n written_size (named_part (Some place) (write_defined t ms) ms) (write_value t ms) (as_named (Some place) is)
      (within_as n value.Index (type_index (OfPlace place) ms) h)

  pub part_refused : (n : ℕ) → None ≡ place_of t → IsWithin n written_size (write_own t ms) → IsWithin n written_size (write_value t ms)
  part_refused n is h =
      within_same n written_size (named_part None (write_defined t ms) ms) (write_value t ms) (as_named None is) (within_as n value.Index (write_own t ms) h)

-- ---- functions

module _ (n : ℕ) (f : FuncShape) (ms : List WrittenScope) where
  -- the type of a function behind its parameters
  typed : List WrittenScope × List (List ℕ × ValType) → Wrote TypeTree
  typed ps = wrote_as (λ r. tree.Func (record { params = ps.1; result = r })) (write_result (func_tree f).result ps.0)

  typed_grows : (ps : List WrittenScope × List (List ℕ × ValType)) → Growing ps.0 (typed ps)
  unfolding typed
  typed_grows ps = growing_as (λ r. tree.Func (record { params = ps.1; result = r })) ps.0 (write_result (func_tree f).result ps.0) (result_grows (func_tree f).result ps.0)

  type_within : (w : Wrote TypeTree) → IsWithin n written_size w → IsWithin n written_size (then_type w)
  type_within w h = within_then n (λ x. on_top (add_type x.1) x.0) w h (λ x. growing_added x.1 x.0)

  pub params_refused : IsWithin n written_size (write_each write_field f.params.items ms) → IsWithin n written_size (write_func (func_tree f) ms)
  unfolding write_func typed
  params_refused h =
      let params = write_params (func_tree f).params ms in
      type_within (option_and_then typed params)
      (within_then n typed params (within_same n written_size (write_each write_field f.params.items ms) params (sym (params_written f.params.items ms)) h) typed_grows)

  pub result_refused : (next : List WrittenScope) (ps : List (List ℕ × ValType)) → write_each write_field f.params.items ms ≡ Some (next, ps) → IsWithin n written_size (write_payload (held_tree f.result) next) → IsWithin n written_size (write_func (func_tree f) ms)
  unfolding write_func typed
  result_refused next ps first h =
      within_same n written_size (then_type (typed (next, ps))) (write_func (func_tree f) ms)
      (sym (ap (λ w. then_type (option_and_then typed w)) (params_written f.params.items ms ∙ first)))
      (type_within (typed (next, ps))
      (within_as n (λ r. tree.Func (record { params = ps; result = r })) (write_result (func_tree f).result next)
      (within_same n written_size (write_payload (held_tree f.result) next) (write_result (func_tree f).result next) (sym (result_written f.result next)) h)))

  pub func_refused : (next last : List WrittenScope) (ps : List (List ℕ × ValType)) (r : Option ValType) → write_each write_field f.params.items ms ≡ Some (next, ps) → write_payload (held_tree f.result) next ≡ Some (last, r)
      → IsWithin n written_size (on_top (add_type (tree.Func (record { params = ps; result = r }))) last) → IsWithin n written_size (write_func (func_tree f) ms)
  unfolding write_func typed
  func_refused next last ps r first second h =
      within_same n written_size (on_top (add_type (tree.Func (record { params = ps; result = r }))) last) (write_func (func_tree f) ms)
      (sym (ap (λ w. then_type (option_and_then typed w)) (params_written f.params.items ms ∙ first) ∙ ap (λ w. then_type (wrote_as (λ r. tree.Func (record { params = ps; result = r })) w)) (result_written f.result next ∙ second))) h
