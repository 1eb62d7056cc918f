-- Types of values and of functions, their indices followed, each with whether all its parts have the naming bit
-- (Component Model, Explainer.md, "Type Definitions").
use Rattle.std.specs.Prelude.{ℕ, Bool, true, ◌&&◌, List, [], ◌∷◌, Option, Some, None, Result, Ok, Err}
use Rattle.warg_values.specs.Reading.{◌>>=◌}
use Rattle.comp_format.specs.declared.types.ValType.{ValType}
use Rattle.comp_format.specs.declared.types.ValType.TheVariants as value
use Rattle.comp_format.specs.declared.types.DefinedType.{DefinedType}
use Rattle.comp_format.specs.declared.types.DefinedType.TheVariants as defined
use Rattle.comp_format.specs.declared.types.FuncType.{FuncType}
use Rattle.comp_entity.specs.Entity.{Name, ValueTree, Primitive, TupleOf, RecordOf, VariantOf, ListOf, FlagsOf, EnumOf, OptionOf, ResultOf, Own, Borrow, ValueTrees, none, more, Cases, no_case, labelled, Payload, absent, present, FuncTree, Value, Resource, IsType}
use Rattle.comp_entity.specs.Bounds.{ShapeFault, Index}
use Rattle.comp_scope.specs.Spaces.{Spaces, Standing, at_index, is_named}

-- the value type that a type index stands for, with its naming bit
abbrev pub as_value : Standing → Result (ValueTree × Bool) ShapeFault
as_value (IsType (Value t), named) = Ok (t, named && is_named t)
as_value _ = Err Index

-- the resource that a type index stands for, with its naming bit
abbrev pub as_resource : Standing → Result (Name × Bool) ShapeFault
as_resource (IsType (Resource r), named) = Ok (r, named)
as_resource _ = Err Index

unfoldable pub part_of : Spaces → ValType → Result (ValueTree × Bool) ShapeFault
part_of s (value.Primitive p) = Ok (Primitive p, true)
part_of s (value.Index i) = at_index s.types i >>= as_value

unfoldable pub payload_of : Spaces → Option ValType → Result (Payload × Bool) ShapeFault
payload_of s None = Ok (absent, true)
payload_of s (Some t) = part_of s t >>= λ v. Ok (present v.0, v.1)

unfoldable pub resource_of : Spaces → ℕ → Result (Name × Bool) ShapeFault
resource_of s i = at_index s.types i >>= as_resource

unfoldable pub parts_of : Spaces → List ValType → Result (ValueTrees × Bool) ShapeFault
parts_of s [] = Ok (none, true)
parts_of s (t ∷ ts) = part_of s t >>= λ v. parts_of s ts >>= λ vs. Ok (more v.0 vs.0, v.1 && vs.1)

unfoldable pub fields_of : Spaces → List (List ℕ × ValType) → Result (Cases × Bool) ShapeFault
fields_of s [] = Ok (no_case, true)
fields_of s (f ∷ fs) = part_of s f.1 >>= λ v. fields_of s fs >>= λ vs. Ok (labelled f.0 (present v.0) vs.0, v.1 && vs.1)

unfoldable pub cases_of : Spaces → List (List ℕ × Option ValType) → Result (Cases × Bool) ShapeFault
cases_of s [] = Ok (no_case, true)
cases_of s (c ∷ cs) = payload_of s c.1 >>= λ p. cases_of s cs >>= λ ps. Ok (labelled c.0 p.0 ps.0, p.1 && ps.1)

unfoldable pub value_of : Spaces → DefinedType → Result (ValueTree × Bool) ShapeFault
value_of s (defined.Primitive p) = Ok (Primitive p, true)
value_of s (defined.RecordOf fields) = fields_of s fields >>= λ x. Ok (RecordOf None x.0, x.1)
value_of s (defined.VariantOf cases) = cases_of s cases >>= λ x. Ok (VariantOf None x.0, x.1)
value_of s (defined.ListOf t) = part_of s t >>= λ x. Ok (ListOf x.0, x.1)
value_of s (defined.TupleOf parts) = parts_of s parts >>= λ x. Ok (TupleOf x.0, x.1)
value_of s (defined.FlagsOf labels) = Ok (FlagsOf None labels, true)
value_of s (defined.EnumOf labels) = Ok (EnumOf None labels, true)
value_of s (defined.OptionOf t) = part_of s t >>= λ x. Ok (OptionOf x.0, x.1)
value_of s (defined.ResultOf ok err) = payload_of s ok >>= λ x. payload_of s err >>= λ y. Ok (ResultOf x.0 y.0, x.1 && y.1)
value_of s (defined.Own i) = resource_of s i >>= λ r. Ok (Own r.0, r.1)
value_of s (defined.Borrow i) = resource_of s i >>= λ r. Ok (Borrow r.0, r.1)

unfoldable pub params_of : Spaces → List (List ℕ × ValType) → Result (List (List ℕ × ValueTree) × Bool) ShapeFault
params_of s [] = Ok ([], true)
params_of s (p ∷ ps) = part_of s p.1 >>= λ v. params_of s ps >>= λ vs. Ok ((p.0, v.0) ∷ vs.0, v.1 && vs.1)

unfoldable pub result_of : Spaces → Option ValType → Result (Option ValueTree × Bool) ShapeFault
result_of s None = Ok (None, true)
result_of s (Some t) = part_of s t >>= λ v. Ok (Some v.0, v.1)

unfoldable pub func_of : Spaces → FuncType → Result (FuncTree × Bool) ShapeFault
func_of s f =
    params_of s f.params >>= λ ps. result_of s f.result >>= λ r. Ok (record { params = ps.0; result = r.0 }, ps.1 && r.1)
