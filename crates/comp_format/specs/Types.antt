-- Value types, types of values and types of functions as bytes (Component Model, Binary.md, "Type Definitions").
use Rattle.std.specs.Prelude.{◌≡◌, ℕ, ◌<◌, ◌≤◌, List, [], ◌∷◌, ◌++◌, length, Option, Some, None, Ok, Err, nat_lt, ◌==◌, if◌then◌else◌}
use Rattle.warg_values.specs.Reading.{◌>>=◌}
use Rattle.comp_format.specs.declared.types.Primitive.{Primitive}
use Rattle.comp_format.specs.declared.types.Primitive.TheVariants as primitive
use Rattle.comp_format.specs.declared.types.ValType.{ValType}
use Rattle.comp_format.specs.declared.types.ValType.TheVariants as value
use Rattle.comp_format.specs.declared.types.DefinedType.{DefinedType}
use Rattle.comp_format.specs.declared.types.DefinedType.TheVariants as defined
use Rattle.comp_format.specs.declared.types.FuncType.{FuncType}
use Rattle.comp_format.specs.Fault.{Form, NotCarried}
use Rattle.comp_format.specs.Numbers.{FormOf, Byte, Then, Number, SignedIndex, number_at, signed_index_at, number_text, signed_index_text}
use Rattle.comp_format.specs.Vectors.{ReaderOf, Vector, Optional, Labelled, vector_at, byte_at, mark_at, known_or, optional_at, labelled_vector_at, under_label, label_alone, vector_text, name_text, optional_text}

-- the byte of a primitive
abbrev pub primitive_code : Primitive → ℕ
primitive_code primitive.Bool = 0x7f
primitive_code primitive.S8 = 0x7e
primitive_code primitive.U8 = 0x7d
primitive_code primitive.S16 = 0x7c
primitive_code primitive.U16 = 0x7b
primitive_code primitive.S32 = 0x7a
primitive_code primitive.U32 = 0x79
primitive_code primitive.S64 = 0x78
primitive_code primitive.U64 = 0x77
primitive_code primitive.F32 = 0x76
primitive_code primitive.F64 = 0x75
primitive_code primitive.Char = 0x74
primitive_code primitive.Text = 0x73

abbrev pub PrimitiveForm : FormOf Primitive
PrimitiveForm p = Byte (primitive_code p)

abbrev pub ValForm : FormOf ValType
ValForm (value.Primitive p) = PrimitiveForm p
ValForm (value.Index i) = SignedIndex i

-- the label of a part
abbrev pub label_of : {X : Type 0} → List ℕ × X → List ℕ
label_of part = part.0

-- a field behind its label, and a case
abbrev pub FieldForm : FormOf (List ℕ × ValType)
FieldForm field = ValForm field.1

abbrev pub CaseForm : FormOf (List ℕ × Option ValType)
CaseForm a_case = Then (Optional ValForm a_case.1) (Byte 0)

-- labels that differ
abbrev pub Labels : FormOf (List (List ℕ))
Labels = Labelled (λ label. label) (λ label bytes rest. bytes ≡ rest)

abbrev pub DefinedForm : FormOf DefinedType
DefinedForm (defined.Primitive p) bytes rest = PrimitiveForm p bytes rest
DefinedForm (defined.RecordOf fields) bytes rest = (0 < length fields) × Then (Byte 0x72) (Labelled label_of FieldForm fields) bytes rest
DefinedForm (defined.VariantOf cases) bytes rest = (0 < length cases) × Then (Byte 0x71) (Labelled label_of CaseForm cases) bytes rest
DefinedForm (defined.ListOf t) bytes rest = Then (Byte 0x70) (ValForm t) bytes rest
DefinedForm (defined.TupleOf parts) bytes rest = (0 < length parts) × Then (Byte 0x6f) (Vector ValForm parts) bytes rest
DefinedForm (defined.FlagsOf labels) bytes rest = (0 < length labels) × (length labels ≤ 32) × Then (Byte 0x6e) (Labels labels) bytes rest
DefinedForm (defined.EnumOf labels) bytes rest = (0 < length labels) × Then (Byte 0x6d) (Labels labels) bytes rest
DefinedForm (defined.OptionOf t) bytes rest = Then (Byte 0x6b) (ValForm t) bytes rest
DefinedForm (defined.ResultOf ok err) bytes rest = Then (Byte 0x6a) (Then (Optional ValForm ok) (Optional ValForm err)) bytes rest
DefinedForm (defined.Own i) bytes rest = Then (Byte 0x69) (Number i) bytes rest
DefinedForm (defined.Borrow i) bytes rest = Then (Byte 0x68) (Number i) bytes rest

-- the result of a function
abbrev pub ResultForm : FormOf (Option ValType)
ResultForm (Some t) = Then (Byte 0) (ValForm t)
ResultForm None = Then (Byte 1) (Byte 0)

-- a type of functions, behind its byte
abbrev pub FuncForm : FormOf FuncType
FuncForm f = Then (Labelled label_of FieldForm f.params) (ResultForm f.result)

-- reading
abbrev pub primitive_of : ℕ → Option Primitive
primitive_of b =
    if b == 0x7f then Some primitive.Bool
    else if b == 0x7e then Some primitive.S8
    else if b == 0x7d then Some primitive.U8
    else if b == 0x7c then Some primitive.S16
    else if b == 0x7b then Some primitive.U16
    else if b == 0x7a then Some primitive.S32
    else if b == 0x79 then Some primitive.U32
    else if b == 0x78 then Some primitive.S64
    else if b == 0x77 then Some primitive.U64
    else if b == 0x76 then Some primitive.F32
    else if b == 0x75 then Some primitive.F64
    else if b == 0x74 then Some primitive.Char
    else if b == 0x73 then Some primitive.Text
    else None

-- A primitive where the byte is one, and else an index. The byte of error contexts is not carried.
abbrev pub or_index : Option Primitive → ℕ → ReaderOf ValType
or_index (Some p) b rest = Ok (value.Primitive p, rest)
or_index None b rest = if b == 0x64 then Err NotCarried else (signed_index_at (b ∷ rest) >>= λ i. Ok (value.Index i.0, i.1))

unfoldable pub value_at : ReaderOf ValType
value_at [] = Err Form
value_at (b ∷ rest) = or_index (primitive_of b) b rest

unfoldable pub field_at : List ℕ → ReaderOf (List ℕ × ValType)
field_at label = under_label value_at label

unfoldable pub case_at : List ℕ → ReaderOf (List ℕ × Option ValType)
case_at label bytes = optional_at value_at bytes >>= λ t. mark_at 0 t.1 >>= λ after. Ok ((label, t.0), after)

unfoldable pub record_at : ReaderOf DefinedType
record_at bytes = labelled_vector_at field_at bytes >>= λ fields. if length fields.0 == 0 then Err Form else Ok (defined.RecordOf fields.0, fields.1)

unfoldable pub variant_at : ReaderOf DefinedType
variant_at bytes = labelled_vector_at case_at bytes >>= λ cases. if length cases.0 == 0 then Err Form else Ok (defined.VariantOf cases.0, cases.1)

unfoldable pub tuple_at : ReaderOf DefinedType
tuple_at bytes = vector_at value_at bytes >>= λ parts. if length parts.0 == 0 then Err Form else Ok (defined.TupleOf parts.0, parts.1)

unfoldable pub flags_at : ReaderOf DefinedType
flags_at bytes = number_at bytes >>= λ count.
    if count.0 == 0 then Err Form
    else if nat_lt 32 count.0 then Err Form
    else (labelled_vector_at label_alone bytes >>= λ labels. Ok (defined.FlagsOf labels.0, labels.1))

unfoldable pub enum_at : ReaderOf DefinedType
enum_at bytes = labelled_vector_at label_alone bytes >>= λ labels. if length labels.0 == 0 then Err Form else Ok (defined.EnumOf labels.0, labels.1)

unfoldable pub result_at : ReaderOf DefinedType
result_at bytes = optional_at value_at bytes >>= λ ok. optional_at value_at ok.1 >>= λ err. Ok (defined.ResultOf ok.0 err.0, err.1)

-- a type of values behind its first byte
unfoldable pub defined_of : ℕ → ReaderOf DefinedType
defined_of b rest =
    if b == 0x72 then record_at rest
    else if b == 0x71 then variant_at rest
    else if b == 0x70 then (value_at rest >>= λ t. Ok (defined.ListOf t.0, t.1))
    else if b == 0x6f then tuple_at rest
    else if b == 0x6e then flags_at rest
    else if b == 0x6d then enum_at rest
    else if b == 0x6b then (value_at rest >>= λ t. Ok (defined.OptionOf t.0, t.1))
    else if b == 0x6a then result_at rest
    else if b == 0x69 then (number_at rest >>= λ i. Ok (defined.Own i.0, i.1))
    else if b == 0x68 then (number_at rest >>= λ i. Ok (defined.Borrow i.0, i.1))
    else (known_or NotCarried (primitive_of b) rest >>= λ p. Ok (defined.Primitive p.0, p.1))

unfoldable pub result_type_at : ReaderOf (Option ValType)
result_type_at bytes = byte_at bytes >>= λ b.
    if b.0 == 0 then (value_at b.1 >>= λ t. Ok (Some t.0, t.1))
    else if b.0 == 1 then (mark_at 0 b.1 >>= λ after. Ok (None, after))
    else Err Form

unfoldable pub func_at : ReaderOf FuncType
func_at bytes = do
  params ← labelled_vector_at field_at bytes
  result ← result_type_at params.1
  Ok (record { params = params.0; result = result.0 }, result.1)

-- writing
abbrev pub value_text : ValType → List ℕ
value_text (value.Primitive p) = primitive_code p ∷ []
value_text (value.Index i) = signed_index_text i

abbrev pub field_text : List ℕ × ValType → List ℕ
field_text field = name_text field.0 ++ value_text field.1

abbrev pub case_text : List ℕ × Option ValType → List ℕ
case_text a_case = name_text a_case.0 ++ (optional_text value_text a_case.1 ++ 0 ∷ [])

abbrev pub defined_text : DefinedType → List ℕ
defined_text (defined.Primitive p) = primitive_code p ∷ []
defined_text (defined.RecordOf fields) = 0x72 ∷ vector_text field_text fields
defined_text (defined.VariantOf cases) = 0x71 ∷ vector_text case_text cases
defined_text (defined.ListOf t) = 0x70 ∷ value_text t
defined_text (defined.TupleOf parts) = 0x6f ∷ vector_text value_text parts
defined_text (defined.FlagsOf labels) = 0x6e ∷ vector_text name_text labels
defined_text (defined.EnumOf labels) = 0x6d ∷ vector_text name_text labels
defined_text (defined.OptionOf t) = 0x6b ∷ value_text t
defined_text (defined.ResultOf ok err) = 0x6a ∷ (optional_text value_text ok ++ optional_text value_text err)
defined_text (defined.Own i) = 0x69 ∷ number_text i
defined_text (defined.Borrow i) = 0x68 ∷ number_text i

abbrev pub result_text : Option ValType → List ℕ
result_text (Some t) = 0 ∷ value_text t
result_text None = 1 ∷ 0 ∷ []

abbrev pub func_text : FuncType → List ℕ
func_text f = vector_text field_text f.params ++ result_text f.result
