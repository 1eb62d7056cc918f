-- The parts of values and functions are written, where the whole is.
use Rattle.std.proofs.Common.{◌≡◌, ℕ, ◌<◌, length, get_or, drop, Vec, List, Option, Some, None}
use Rattle.std.specs.Global.{Global}
use Rattle.std.specs.Prelude.{Box, IsSome}
use Rattle.comp_format.specs.declared.types.ValType.{ValType}
use Rattle.comp_entity.specs.declared.entity.FuncShape.{FuncShape}
use Rattle.comp_entity.specs.declared.entity.ValueShape.{ValueShape}
use Rattle.comp_entity.specs.declared.entity.ValueShape.TheVariants as made
use Rattle.comp_entity.specs.Entity.{Name, ValueTree}
use Rattle.comp_entity.specs.Fits.{place_of}
use Rattle.comp_entity.specs.Names.{OfResource, OfPlace}
use Rattle.comp_entity.specs.Views.{value_tree, func_tree}
use Rattle.compose_writing.specs.Conditions.{KeepsValue, KeepsPayload}
use Rattle.compose_writing.specs.Scopes.{WrittenScope, Wrote, type_index}
use Rattle.compose_writing.specs.WriteValues.{write_defined, write_func, write_own, write_payload, write_value}
use Rattle.compose_types.specs.Largest.{written_size}
use Rattle.compose_types.specs.Values.{boxed_tree, held_tree, primitive_of, write_case, write_each, write_field, write_part}
use Rattle.compose_types.proofs.ValueLaws.{then_each, tree_list, tree_option, tree_result}
use Rattle.compose_types.proofs.ValueLargestLaws.{borrow_refused, boxed_refused, case_grows, case_refused, each_refused, err_refused, field_grows, field_refused, held_refused, list_refused, ok_refused, option_refused, own_refused, own_type_refused, params_refused, part_grows, part_refused, place_refused, record_refused, result_refused, tuple_refused, variant_refused}
use Rattle.compose_types.proofs.WriteGrowLaws.{Growing}
use Rattle.compose_types.proofs.PossibleLaws.{written_before}

-- ---- forms of parts

pub list_keeps : (ty : ValueShape) (t : Box ValueShape Global) → ty ≡ made.ListOf t → KeepsValue (value_tree ty) → KeepsValue (value_tree t.value)
list_keeps ty t is k = rw (is, tree_list t) at k

pub option_keeps : (ty : ValueShape) (t : Box ValueShape Global) → ty ≡ made.OptionOf t → KeepsValue (value_tree ty) → KeepsValue (value_tree t.value)
option_keeps ty t is k = rw (is, tree_option t) at k

pub result_keeps : (ty : ValueShape) (ok err : Option (Box ValueShape Global)) → ty ≡ made.ResultOf ok err → KeepsValue (value_tree ty) → KeepsPayload (boxed_tree ok) × KeepsPayload (boxed_tree err)
result_keeps ty ok err is k = rw (is, tree_result ok err) at k

pub boxed_keeps : (held : Option (Box ValueShape Global)) (t : Box ValueShape Global) → held ≡ Some t → KeepsPayload (boxed_tree held) → KeepsValue (value_tree t.value)
boxed_keeps held t is k = rw is at k

-- ---- one after the other

module _ {X Y : Type 0} (one : X → List WrittenScope → Wrote Y) (grows : (x : X) (ms : List WrittenScope) → Growing ms (one x ms)) where
  each_possible : (xs : List X) (i : ℕ) (x : X) (done : List Y) (ms : List WrittenScope) (all : Wrote (List Y)) → i < length xs → x ≡ get_or xs i x → then_each done (write_each one (drop i xs) ms) ≡ all → IsSome all → IsSome (one x ms)
  each_possible xs i x done ms all lt is h some =
      written_before written_size written_size (one x ms) all (λ n k. each_refused n one grows xs i x done ms all lt is h k) some

module _ (i : ℕ) (ms : List WrittenScope) where
  pub part_possible : (xs : List ValueShape) (x : ValueShape) (done : List ValType) (all : Wrote (List ValType)) → i < length xs → x ≡ get_or xs i x → then_each done (write_each write_part (drop i xs) ms) ≡ all → IsSome all → IsSome (write_value (value_tree x) ms)
  part_possible xs x done all lt is h some = each_possible write_part part_grows xs i x done ms all lt is h some

  pub field_possible : (xs : List (List ℕ × ValueShape)) (x : List ℕ × ValueShape) (done : List (List ℕ × ValType)) (all : Wrote (List (List ℕ × ValType))) → i < length xs → x ≡ get_or xs i x → then_each done (write_each write_field (drop i xs) ms) ≡ all → IsSome all
      → IsSome (write_value (value_tree x.1) ms)
  field_possible xs x done all lt is h some =
      written_before written_size written_size (write_value (value_tree x.1) ms) (write_field x ms) (λ n k. field_refused n x ms k) (each_possible write_field field_grows xs i x done ms all lt is h some)

  pub case_possible : (xs : List (List ℕ × Option ValueShape)) (x : List ℕ × Option ValueShape) (t : ValueShape) (done : List (List ℕ × Option ValType)) (all : Wrote (List (List ℕ × Option ValType))) → i < length xs → x ≡ get_or xs i x → x.1 ≡ Some t
      → then_each done (write_each write_case (drop i xs) ms) ≡ all → IsSome all → IsSome (write_value (value_tree t) ms)
  case_possible xs x t done all lt is held h some =
      written_before written_size written_size (write_value (value_tree t) ms) (write_case x ms) (λ n k. case_refused n x t ms held k) (each_possible write_case case_grows xs i x done ms all lt is h some)

pub boxed_possible : (held : Option (Box ValueShape Global)) (t : Box ValueShape Global) (ms : List WrittenScope) → held ≡ Some t → IsSome (write_payload (boxed_tree held) ms) → IsSome (write_value (value_tree t.value) ms)
boxed_possible held t ms is some =
    written_before written_size written_size (write_value (value_tree t.value) ms) (write_payload (boxed_tree held) ms) (λ n h. boxed_refused n held t ms is h) some

pub held_possible : (held : Option ValueShape) (t : ValueShape) (ms : List WrittenScope) → held ≡ Some t → IsSome (write_payload (held_tree held) ms) → IsSome (write_value (value_tree t) ms)
held_possible held t ms is some =
    written_before written_size written_size (write_value (value_tree t) ms) (write_payload (held_tree held) ms) (λ n h. held_refused n held t ms is h) some

-- ---- a value type

module _ (ty : ValueShape) (ms : List WrittenScope) (some : IsSome (write_defined (value_tree ty) ms)) where
  pub tuple_possible : (ts : Vec ValueShape Global) → ty ≡ made.TupleOf ts → IsSome (write_each write_part ts.items ms)
  tuple_possible ts is =
      written_before written_size written_size (write_each write_part ts.items ms) (write_defined (value_tree ty) ms) (λ n h. tuple_refused n ty ms ts is h) some

  pub record_possible : (p : Option Name) (fs : Vec (List ℕ × ValueShape) Global) → ty ≡ made.RecordOf p fs → IsSome (write_each write_field fs.items ms)
  record_possible p fs is =
      written_before written_size written_size (write_each write_field fs.items ms) (write_defined (value_tree ty) ms) (λ n h. record_refused n ty ms p fs is h) some

  pub variant_possible : (p : Option Name) (cs : Vec (List ℕ × Option ValueShape) Global) → ty ≡ made.VariantOf p cs → IsSome (write_each write_case cs.items ms)
  variant_possible p cs is =
      written_before written_size written_size (write_each write_case cs.items ms) (write_defined (value_tree ty) ms) (λ n h. variant_refused n ty ms p cs is h) some

  pub list_possible : (t : Box ValueShape Global) → ty ≡ made.ListOf t → IsSome (write_value (value_tree t.value) ms)
  list_possible t is =
      written_before written_size written_size (write_value (value_tree t.value) ms) (write_defined (value_tree ty) ms) (λ n h. list_refused n ty ms t is h) some

  pub option_possible : (t : Box ValueShape Global) → ty ≡ made.OptionOf t → IsSome (write_value (value_tree t.value) ms)
  option_possible t is =
      written_before written_size written_size (write_value (value_tree t.value) ms) (write_defined (value_tree ty) ms) (λ n h. option_refused n ty ms t is h) some

  pub ok_possible : (ok err : Option (Box ValueShape Global)) → ty ≡ made.ResultOf ok err → IsSome (write_payload (boxed_tree ok) ms)
  ok_possible ok err is =
      written_before written_size written_size (write_payload (boxed_tree ok) ms) (write_defined (value_tree ty) ms) (λ n h. ok_refused n ty ms ok err is h) some

  pub err_possible : (ok err : Option (Box ValueShape Global)) (next : List WrittenScope) (t : Option ValType) → ty ≡ made.ResultOf ok err → write_payload (boxed_tree ok) ms ≡ Some (next, t) → IsSome (write_payload (boxed_tree err) next)
  err_possible ok err next t is first =
      written_before written_size written_size (write_payload (boxed_tree err) next) (write_defined (value_tree ty) ms) (λ n h. err_refused n ty ms ok err next t is first h) some

  pub own_possible : (r : Name) → ty ≡ made.Own r → IsSome (type_index (OfResource r) ms)
  own_possible r is =
      written_before written_size written_size (type_index (OfResource r) ms) (write_defined (value_tree ty) ms) (λ n h. own_refused n ty ms r is h) some

  pub borrow_possible : (r : Name) → ty ≡ made.Borrow r → IsSome (type_index (OfResource r) ms)
  borrow_possible r is =
      written_before written_size written_size (type_index (OfResource r) ms) (write_defined (value_tree ty) ms) (λ n h. borrow_refused n ty ms r is h) some

-- ---- a type of values as a part, or as it stands

pub own_type_possible : (t : ValueTree) (ms : List WrittenScope) → IsSome (write_own t ms) → IsSome (write_defined t ms)
own_type_possible t ms some = written_before written_size written_size (write_defined t ms) (write_own t ms) (λ n h. own_type_refused n t ms h) some

module _ (t : ValueTree) (ms : List WrittenScope) (other : None ≡ primitive_of t) (some : IsSome (write_value t ms)) where
  pub place_possible : (place : Name) → Some place ≡ place_of t → IsSome (type_index (OfPlace place) ms)
  place_possible place is =
      written_before written_size written_size (type_index (OfPlace place) ms) (write_value t ms) (λ n h. place_refused t ms other n place is h) some

  pub unnamed_possible : None ≡ place_of t → IsSome (write_defined t ms)
  unnamed_possible is =
      written_before written_size written_size (write_defined t ms) (write_value t ms) (λ n h. part_refused t ms other n is (own_type_refused n t ms h)) some

-- ---- functions

module _ (f : FuncShape) (ms : List WrittenScope) (some : IsSome (write_func (func_tree f) ms)) where
  pub params_possible : IsSome (write_each write_field f.params.items ms)
  params_possible =
      written_before written_size written_size (write_each write_field f.params.items ms) (write_func (func_tree f) ms) (λ n h. params_refused n f ms h) some

  pub result_possible : (next : List WrittenScope) (ps : List (List ℕ × ValType)) → write_each write_field f.params.items ms ≡ Some (next, ps) → IsSome (write_payload (held_tree f.result) next)
  result_possible next ps first =
      written_before written_size written_size (write_payload (held_tree f.result) next) (write_func (func_tree f) ms) (λ n h. result_refused n f ms next ps first h) some
