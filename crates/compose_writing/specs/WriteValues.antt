-- Value types and functions, as they are written: a type that a place named and that is mentioned stands where a scope
-- knows it, and the parts of any other are written just before it (Component Model, Binary.md, "Type Definitions").
use Rattle.std.specs.Prelude.{ℕ, List, [], ◌∷◌, Option, Some, None, option_and_then}
use Rattle.comp_format.specs.declared.types.ValType.{ValType}
use Rattle.comp_format.specs.declared.types.ValType.TheVariants as value
use Rattle.comp_format.specs.declared.types.DefinedType.{DefinedType}
use Rattle.comp_format.specs.declared.types.DefinedType.TheVariants as defined
use Rattle.comp_format.specs.Definitions as tree
use Rattle.comp_entity.specs.Entity.{Name, ValueTree, Primitive, TupleOf, RecordOf, VariantOf, ListOf, FlagsOf, EnumOf, OptionOf, ResultOf, Own, Borrow, ValueTrees, none, more, Cases, no_case, labelled, Payload, absent, present, FuncTree}
use Rattle.comp_entity.specs.Names.{OfResource, OfPlace}
use Rattle.comp_entity.specs.Fits.{place_of}
use Rattle.compose_writing.specs.Scopes.{WrittenScope, Wrote, wrote_as, then_type, type_index}

-- a type of values behind the others of the innermost scope
abbrev pub then_defined : Wrote DefinedType → Wrote ℕ
then_defined w = then_type (wrote_as tree.Defined w)

-- As a part of another type stands a primitive type itself, the type that a place named by its index, and any other by
-- the index of the type that is written for it.
abbrev pub named_part : Option Name → Wrote DefinedType → List WrittenScope → Wrote ValType
named_part (Some n) own ms = wrote_as value.Index (type_index (OfPlace n) ms)
named_part None own ms = wrote_as value.Index (then_defined own)

abbrev pub as_part : ValueTree → Wrote DefinedType → List WrittenScope → Wrote ValType
as_part (Primitive p) own ms = Some (ms, value.Primitive p)
as_part t own ms = named_part (place_of t) own ms

unfoldable mutual
  -- a value type as it stands, behind its parts
  pub write_defined : ValueTree → List WrittenScope → Wrote DefinedType
  write_defined (Primitive p) ms = Some (ms, defined.Primitive p)
  write_defined (TupleOf parts) ms = wrote_as defined.TupleOf (write_parts parts ms)
  write_defined (RecordOf place fields) ms = wrote_as defined.RecordOf (write_fields fields ms)
  write_defined (VariantOf place cases) ms = wrote_as defined.VariantOf (write_cases cases ms)
  write_defined (ListOf t) ms = wrote_as defined.ListOf (as_part t (write_defined t ms) ms)
  write_defined (FlagsOf place labels) ms = Some (ms, defined.FlagsOf labels)
  write_defined (EnumOf place labels) ms = Some (ms, defined.EnumOf labels)
  write_defined (OptionOf t) ms = wrote_as defined.OptionOf (as_part t (write_defined t ms) ms)
  write_defined (ResultOf ok err) ms =
      option_and_then (λ x. wrote_as (defined.ResultOf x.1) (write_payload err x.0)) (write_payload ok ms)
  write_defined (Own r) ms = wrote_as defined.Own (type_index (OfResource r) ms)
  write_defined (Borrow r) ms = wrote_as defined.Borrow (type_index (OfResource r) ms)

  pub write_parts : ValueTrees → List WrittenScope → Wrote (List ValType)
  write_parts none ms = Some (ms, [])
  write_parts (more t ts) ms =
      option_and_then (λ x. wrote_as (λ us. x.1 ∷ us) (write_parts ts x.0)) (as_part t (write_defined t ms) ms)

  -- the fields of a record, each of which has a type
  pub write_fields : Cases → List WrittenScope → Wrote (List (List ℕ × ValType))
  write_fields no_case ms = Some (ms, [])
  write_fields (labelled label absent fields) ms = None
  write_fields (labelled label (present t) fields) ms =
      option_and_then (λ x. wrote_as (λ us. (label, x.1) ∷ us) (write_fields fields x.0)) (as_part t (write_defined t ms) ms)

  pub write_cases : Cases → List WrittenScope → Wrote (List (List ℕ × Option ValType))
  write_cases no_case ms = Some (ms, [])
  write_cases (labelled label payload cases) ms =
      option_and_then (λ x. wrote_as (λ us. (label, x.1) ∷ us) (write_cases cases x.0)) (write_payload payload ms)

  pub write_payload : Payload → List WrittenScope → Wrote (Option ValType)
  write_payload absent ms = Some (ms, None)
  write_payload (present t) ms = wrote_as Some (as_part t (write_defined t ms) ms)

-- a value type as a part of another type
abbrev pub write_value : ValueTree → List WrittenScope → Wrote ValType
write_value t ms = as_part t (write_defined t ms) ms

unfoldable pub write_params : List (List ℕ × ValueTree) → List WrittenScope → Wrote (List (List ℕ × ValType))
write_params [] ms = Some (ms, [])
write_params (p ∷ ps) ms = option_and_then (λ x. wrote_as (λ us. (p.0, x.1) ∷ us) (write_params ps x.0)) (write_value p.1 ms)

unfoldable pub write_result : Option ValueTree → List WrittenScope → Wrote (Option ValType)
write_result None ms = Some (ms, None)
write_result (Some t) ms = wrote_as Some (write_value t ms)

-- the index of a function's type: its parameters, then its result, then the type
unfoldable pub write_func : FuncTree → List WrittenScope → Wrote ℕ
write_func f ms = then_type (option_and_then
    (λ ps. wrote_as (λ r. tree.Func (record { params = ps.1; result = r })) (write_result f.result ps.0))
    (write_params f.params ms))

-- the index of a value type that gets a name: the type itself, as it stands
abbrev pub write_own : ValueTree → List WrittenScope → Wrote ℕ
write_own t ms = then_defined (write_defined t ms)
