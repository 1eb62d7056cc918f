-- Types: what is read is a form, each form is read so, and what is written is a form.
use Rattle.std.proofs.Common.{◌≡◌, ◌⊎◌, ℕ, ◌<◌, ◌≤◌, false, eqb, ltb, List, [], ◌∷◌, ◌++◌, length, Option, Some, None, Ok, refl, sym, ap, subst, ◌∙◌, append_assoc, arith, inl, inr}
use Rattle.std.specs.Prelude.{IfSome}
use Rattle.std.proofs.lemmas.Bool.{eqb-false, ne_eqb, ltb-false, le-ltb}
use Rattle.std.proofs.lemmas.List.Elements.{recursion_from_All}
use Rattle.warg_values.specs.ReadingLaws.{bind_ok, ok_is, guard_ok, pick}
use Rattle.comp_format.specs.declared.types.Primitive.{Primitive}
use Rattle.comp_format.specs.declared.types.Primitive.TheVariants as primitive
use Rattle.comp_format.specs.declared.types.ValType.{ValType}
use Rattle.comp_format.specs.declared.types.ValType.TheVariants as value
use Rattle.comp_format.specs.declared.types.DefinedType.{DefinedType}
use Rattle.comp_format.specs.declared.types.DefinedType.TheVariants as defined
use Rattle.comp_format.specs.declared.types.FuncType.{FuncType}
use Rattle.comp_format.specs.Fault.{Form, NotCarried}
use Rattle.comp_format.specs.Numbers.{number_at, number_text, signed_index_at}
use Rattle.comp_format.specs.Vectors.{Name, vector_at, byte_at, mark_at, known_or, optional_at, labelled_vector_at, label_alone, vector_text, name_text, optional_text}
use Rattle.comp_format.specs.Types.{ValForm, FieldForm, CaseForm, Labels, DefinedForm, ResultForm, FuncForm, label_of, primitive_code, primitive_of, or_index, value_at, field_at, case_at, record_at, variant_at, tuple_at, flags_at, enum_at, result_at, defined_of, result_type_at, func_at, value_text, field_text, case_text, defined_text, result_text, func_text}
use Rattle.comp_format.specs.Fits.{FitsName, FitsVal, FitsField, FitsCase, FitsDefined, FitsFunc}
use Rattle.comp_format.specs.NumberLaws.{number_form, number_again, number_written, signed_index_form, signed_index_again, signed_index_written, signed_first}
use Rattle.comp_format.specs.VectorLaws.{IsSound, IsComplete, vector_form, vector_again, vector_written, name_written, byte_form, mark_form, known_ok, some_is, behind, optional_form, optional_again, optional_written, labelled_form, labelled_again, labelled_written, under_label_form, under_label_again, label_alone_form, label_alone_again}

pub primitive_sound : (b : ℕ) (p : Primitive) → primitive_of b ≡ Some p → b ≡ primitive_code p
primitive_sound b p e =
    pick b 0x7f _ _ _ e (λ h k. h ∙ ap primitive_code (some_is primitive.Bool p k)) (λ e.
    pick b 0x7e _ _ _ e (λ h k. h ∙ ap primitive_code (some_is primitive.S8 p k)) (λ e.
    pick b 0x7d _ _ _ e (λ h k. h ∙ ap primitive_code (some_is primitive.U8 p k)) (λ e.
    pick b 0x7c _ _ _ e (λ h k. h ∙ ap primitive_code (some_is primitive.S16 p k)) (λ e.
    pick b 0x7b _ _ _ e (λ h k. h ∙ ap primitive_code (some_is primitive.U16 p k)) (λ e.
    pick b 0x7a _ _ _ e (λ h k. h ∙ ap primitive_code (some_is primitive.S32 p k)) (λ e.
    pick b 0x79 _ _ _ e (λ h k. h ∙ ap primitive_code (some_is primitive.U32 p k)) (λ e.
    pick b 0x78 _ _ _ e (λ h k. h ∙ ap primitive_code (some_is primitive.S64 p k)) (λ e.
    pick b 0x77 _ _ _ e (λ h k. h ∙ ap primitive_code (some_is primitive.U64 p k)) (λ e.
    pick b 0x76 _ _ _ e (λ h k. h ∙ ap primitive_code (some_is primitive.F32 p k)) (λ e.
    pick b 0x75 _ _ _ e (λ h k. h ∙ ap primitive_code (some_is primitive.F64 p k)) (λ e.
    pick b 0x74 _ _ _ e (λ h k. h ∙ ap primitive_code (some_is primitive.Char p k)) (λ e.
    pick b 0x73 _ _ _ e (λ h k. h ∙ ap primitive_code (some_is primitive.Text p k)) (λ e. absurd cc)))))))))))))

pub primitive_complete : (p : Primitive) → primitive_of (primitive_code p) ≡ Some p
primitive_complete primitive.Bool = refl
primitive_complete primitive.S8 = refl
primitive_complete primitive.U8 = refl
primitive_complete primitive.S16 = refl
primitive_complete primitive.U16 = refl
primitive_complete primitive.S32 = refl
primitive_complete primitive.U32 = refl
primitive_complete primitive.S64 = refl
primitive_complete primitive.U64 = refl
primitive_complete primitive.F32 = refl
primitive_complete primitive.F64 = refl
primitive_complete primitive.Char = refl
primitive_complete primitive.Text = refl

-- ---- value types

value_of_form : (o : Option Primitive) (b : ℕ) (rest : List ℕ) (x : ValType × List ℕ) → primitive_of b ≡ o → or_index o b rest ≡ Ok x → ValForm x.0 (b ∷ rest) x.1
value_of_form (Some p) b rest x is e =
    subst (λ (y : ValType × List ℕ). ValForm y.0 (b ∷ rest) y.1) (ok_is (value.Primitive p, rest) x e) (ap (λ (c : ℕ). c ∷ rest) (primitive_sound b p is))
value_of_form None b rest x is e =
    pick b 0x64 _ _ _ e (λ h k. absurd cc) (λ e.
    let i = bind_ok (signed_index_at (b ∷ rest)) _ x e in
    subst (λ (y : ValType × List ℕ). ValForm y.0 (b ∷ rest) y.1) (ok_is (value.Index i.0.0, i.0.1) x i.2) (signed_index_form (b ∷ rest) i.0 i.1))

pub value_form : IsSound value_at ValForm
unfolding value_at
value_form [] x e = absurd cc
value_form (b ∷ rest) x e = value_of_form (primitive_of b) b rest x refl e

-- an index's first byte is no primitive's, nor that of error contexts
no_primitive : (b : ℕ) → (b < 64) ⊎ (128 ≤ b) → (primitive_of b ≡ None) × (eqb b 0x64 ≡ false)
no_primitive b h =
    let apart : (c : ℕ) → 64 ≤ c → c < 128 → eqb b c ≡ false = λ c low high. ne_eqb b c (λ e. elim h [ inl below ↦ omega (arith, e, below, low, high) | inr above ↦ omega (arith, e, above, low, high) ]) in (
      rw (
        apart 0x7f (omega arith) (omega arith),
        apart 0x7e (omega arith) (omega arith),
        apart 0x7d (omega arith) (omega arith),
        apart 0x7c (omega arith) (omega arith),
        apart 0x7b (omega arith) (omega arith),
        apart 0x7a (omega arith) (omega arith),
        apart 0x79 (omega arith) (omega arith),
        apart 0x78 (omega arith) (omega arith),
        apart 0x77 (omega arith) (omega arith),
        apart 0x76 (omega arith) (omega arith),
        apart 0x75 (omega arith) (omega arith),
        apart 0x74 (omega arith) (omega arith),
        apart 0x73 (omega arith) (omega arith),
      ) refl,
      apart 0x64 (omega arith) (omega arith),
    )

pub value_again : IsComplete value_at ValForm
unfolding value_at
value_again (value.Primitive p) bytes rest h = rw (h, primitive_complete p) refl
value_again (value.Index i) bytes rest h =
    let first = signed_first 5 i bytes rest h.form in
    let not = no_primitive first.0 first.3 in
    let read : signed_index_at (first.0 ∷ first.1) ≡ Ok (i, rest) = ap signed_index_at (sym first.2) ∙ signed_index_again i bytes rest h in
    ap value_at first.2 ∙ rw (not.0, not.1, read) refl

pub value_written : (v : ValType) (rest : List ℕ) → FitsVal v → ValForm v (value_text v ++ rest) rest
value_written (value.Primitive p) rest fits = refl
value_written (value.Index i) rest fits = signed_index_written i rest fits

-- ---- fields and cases

pub field_form : (name bytes : List ℕ) (x : (List ℕ × ValType) × List ℕ) → field_at name bytes ≡ Ok x → (name ≡ label_of x.0) × FieldForm x.0 bytes x.1
unfolding field_at
field_form name bytes x e = under_label_form value_at ValForm value_form name bytes x e

pub field_again : (x : List ℕ × ValType) (bytes rest : List ℕ) → FieldForm x bytes rest → field_at (label_of x) bytes ≡ Ok (x, rest)
unfolding field_at
field_again x bytes rest h = under_label_again value_at ValForm value_again x bytes rest h

pub field_written : (x : List ℕ × ValType) (rest : List ℕ) → FitsField x → (after : List ℕ) × Name x.0 (field_text x ++ rest) after × FieldForm x after rest
field_written x rest fits =
    (value_text x.1 ++ rest, rw append_assoc (name_written x.0 (value_text x.1 ++ rest) fits.0), value_written x.1 rest fits.1)

case_form : (name bytes : List ℕ) (x : (List ℕ × Option ValType) × List ℕ) → case_at name bytes ≡ Ok x → (name ≡ label_of x.0) × CaseForm x.0 bytes x.1
unfolding case_at
case_form name bytes x e =
    let t = bind_ok (optional_at value_at bytes) _ x e in
    let after = bind_ok (mark_at 0 t.0.1) _ x t.2 in
    subst (λ (y : (List ℕ × Option ValType) × List ℕ). (name ≡ y.0.0) × CaseForm y.0 bytes y.1) (ok_is ((name, t.0.0), after.0) x after.2)
    (refl, (t.0.1, optional_form value_at ValForm value_form bytes t.0 t.1, mark_form 0 t.0.1 after.0 after.1))

case_again : (x : List ℕ × Option ValType) (bytes rest : List ℕ) → CaseForm x bytes rest → case_at (label_of x) bytes ≡ Ok (x, rest)
unfolding case_at mark_at
case_again x bytes rest h = rw (optional_again value_at ValForm value_again x.1 bytes h.0 h.1, h.2) refl

case_written : (x : List ℕ × Option ValType) (rest : List ℕ) → FitsCase x → (after : List ℕ) × Name x.0 (case_text x ++ rest) after × CaseForm x after rest
case_written x rest fits =
    let ends : List ℕ = 0 ∷ rest in
    let types : List ℕ = optional_text value_text x.1 ++ ends in
    let regrouped : case_text x ++ rest ≡ name_text x.0 ++ types = simp append_assoc in (
      types,
      subst (λ (bytes : List ℕ). Name x.0 bytes types) (sym regrouped) (name_written x.0 types fits.0),
      (ends, optional_written value_at ValForm value_text FitsVal value_written x.1 ends fits.1, refl),
    )

-- ---- labels alone

labels_form : IsSound (labelled_vector_at label_alone) Labels
labels_form = labelled_form (λ label. label) label_alone (λ label bytes rest. bytes ≡ rest) label_alone_form

labels_again : IsComplete (labelled_vector_at label_alone) Labels
labels_again = labelled_again (λ label. label) label_alone (λ label bytes rest. bytes ≡ rest) label_alone_again

label_written : (name rest : List ℕ) → FitsName name → (after : List ℕ) × Name name (name_text name ++ rest) after × (after ≡ rest)
label_written name rest fits = (rest, name_written name rest fits, refl)

-- ---- types of values

-- a type behind its byte
Behind : ℕ → List ℕ → DefinedType × List ℕ → Type 0
Behind b rest x = DefinedForm x.0 (b ∷ rest) x.1

some_from : (n : ℕ) → eqb n 0 ≡ false → 0 < n
some_from n e = let not_zero = eqb-false n 0 e in omega (arith, not_zero)

some_to : (n : ℕ) → 0 < n → eqb n 0 ≡ false
some_to n lt = ne_eqb n 0 (omega (arith, lt))

record_form : (rest : List ℕ) (x : DefinedType × List ℕ) → record_at rest ≡ Ok x → Behind 0x72 rest x
unfolding record_at Behind
record_form rest x e =
    let fields = bind_ok (labelled_vector_at field_at rest) _ x e in
    let some = guard_ok (eqb (length fields.0.0) 0) Form _ x fields.2 in
    subst (Behind 0x72 rest) (ok_is (defined.RecordOf fields.0.0, fields.0.1) x some.1)
    (some_from _ some.0, (rest, refl, labelled_form label_of field_at FieldForm field_form rest fields.0 fields.1))

variant_form : (rest : List ℕ) (x : DefinedType × List ℕ) → variant_at rest ≡ Ok x → Behind 0x71 rest x
unfolding variant_at Behind
variant_form rest x e =
    let cases = bind_ok (labelled_vector_at case_at rest) _ x e in
    let some = guard_ok (eqb (length cases.0.0) 0) Form _ x cases.2 in
    subst (Behind 0x71 rest) (ok_is (defined.VariantOf cases.0.0, cases.0.1) x some.1)
    (some_from _ some.0, (rest, refl, labelled_form label_of case_at CaseForm case_form rest cases.0 cases.1))

tuple_form : (rest : List ℕ) (x : DefinedType × List ℕ) → tuple_at rest ≡ Ok x → Behind 0x6f rest x
unfolding tuple_at Behind
tuple_form rest x e =
    let parts = bind_ok (vector_at value_at rest) _ x e in
    let some = guard_ok (eqb (length parts.0.0) 0) Form _ x parts.2 in
    subst (Behind 0x6f rest) (ok_is (defined.TupleOf parts.0.0, parts.0.1) x some.1)
    (some_from _ some.0, (rest, refl, vector_form value_at ValForm value_form rest parts.0 parts.1))

flags_form : (rest : List ℕ) (x : DefinedType × List ℕ) → flags_at rest ≡ Ok x → Behind 0x6e rest x
unfolding flags_at Behind
flags_form rest x e =
    let count = bind_ok (number_at rest) _ x e in
    let some = guard_ok (eqb count.0.0 0) Form _ x count.2 in
    let few = guard_ok (ltb 32 count.0.0) Form _ x some.1 in
    let labels = bind_ok (labelled_vector_at label_alone rest) _ x few.1 in
    let form : Labels labels.0.0 rest labels.0.1 = labels_form rest labels.0 labels.1 in
    let counted : count.0 ≡ (length labels.0.0, form.1.0) = ok_is count.0 (length labels.0.0, form.1.0) (sym count.1 ∙ number_again (length labels.0.0) rest form.1.0 form.1.1) in
    let same : count.0.0 ≡ length labels.0.0 = ap (λ (n : ℕ × List ℕ). n.0) counted in
    subst (Behind 0x6e rest) (ok_is (defined.FlagsOf labels.0.0, labels.0.1) x labels.2)
    (omega (arith, some_from _ some.0, same), omega (arith, ltb-false 32 count.0.0 few.0, same), (rest, refl, form))

enum_form : (rest : List ℕ) (x : DefinedType × List ℕ) → enum_at rest ≡ Ok x → Behind 0x6d rest x
unfolding enum_at Behind
enum_form rest x e =
    let labels = bind_ok (labelled_vector_at label_alone rest) _ x e in
    let some = guard_ok (eqb (length labels.0.0) 0) Form _ x labels.2 in
    subst (Behind 0x6d rest) (ok_is (defined.EnumOf labels.0.0, labels.0.1) x some.1)
    (some_from _ some.0, (rest, refl, labels_form rest labels.0 labels.1))

result_form : (rest : List ℕ) (x : DefinedType × List ℕ) → result_at rest ≡ Ok x → Behind 0x6a rest x
unfolding result_at Behind
result_form rest x e =
    let ok = bind_ok (optional_at value_at rest) _ x e in
    let err = bind_ok (optional_at value_at ok.0.1) _ x ok.2 in
    subst (Behind 0x6a rest) (ok_is (defined.ResultOf ok.0.0 err.0.0, err.0.1) x err.2)
    (rest, refl, (ok.0.1, optional_form value_at ValForm value_form rest ok.0 ok.1, optional_form value_at ValForm value_form ok.0.1 err.0 err.1))

-- a reading that the byte chose
chosen : (b mark : ℕ) (rest : List ℕ) (y x : DefinedType × List ℕ) → b ≡ mark → y ≡ x → Behind mark rest y → Behind b rest x
unfolding Behind
chosen b mark rest y x is same form = subst (Behind b rest) same (subst (λ (c : ℕ). Behind c rest y) (sym is) form)

pub defined_form : (b : ℕ) (rest : List ℕ) (x : DefinedType × List ℕ) → defined_of b rest ≡ Ok x → DefinedForm x.0 (b ∷ rest) x.1
unfolding defined_of Behind
defined_form b rest x e =
    pick b 0x72 _ _ _ e (λ h k. chosen b 0x72 rest x x h refl (record_form rest x k)) (λ e.
    pick b 0x71 _ _ _ e (λ h k. chosen b 0x71 rest x x h refl (variant_form rest x k)) (λ e.
    pick b 0x70 _ _ _ e (λ h k.
    let t = bind_ok (value_at rest) _ x k in
    chosen b 0x70 rest (defined.ListOf t.0.0, t.0.1) x h (ok_is _ x t.2) (rest, refl, value_form rest t.0 t.1)) (λ e.
    pick b 0x6f _ _ _ e (λ h k. chosen b 0x6f rest x x h refl (tuple_form rest x k)) (λ e.
    pick b 0x6e _ _ _ e (λ h k. chosen b 0x6e rest x x h refl (flags_form rest x k)) (λ e.
    pick b 0x6d _ _ _ e (λ h k. chosen b 0x6d rest x x h refl (enum_form rest x k)) (λ e.
    pick b 0x6b _ _ _ e (λ h k.
    let t = bind_ok (value_at rest) _ x k in
    chosen b 0x6b rest (defined.OptionOf t.0.0, t.0.1) x h (ok_is _ x t.2) (rest, refl, value_form rest t.0 t.1)) (λ e.
    pick b 0x6a _ _ _ e (λ h k. chosen b 0x6a rest x x h refl (result_form rest x k)) (λ e.
    pick b 0x69 _ _ _ e (λ h k.
    let i = bind_ok (number_at rest) _ x k in
    chosen b 0x69 rest (defined.Own i.0.0, i.0.1) x h (ok_is _ x i.2) (rest, refl, number_form rest i.0 i.1)) (λ e.
    pick b 0x68 _ _ _ e (λ h k.
    let i = bind_ok (number_at rest) _ x k in
    chosen b 0x68 rest (defined.Borrow i.0.0, i.0.1) x h (ok_is _ x i.2) (rest, refl, number_form rest i.0 i.1)) (λ e.
    let p = bind_ok (known_or NotCarried (primitive_of b) rest) _ x e in
    let known = known_ok NotCarried (primitive_of b) rest p.0 p.1 in
    subst (λ (y : DefinedType × List ℕ). DefinedForm y.0 (b ∷ rest) y.1) (ok_is (defined.Primitive p.0.0, p.0.1) x p.2)
    (ap (λ (c : ℕ). c ∷ rest) (primitive_sound b p.0.0 known.0) ∙ ap (λ (r : List ℕ). primitive_code p.0.0 ∷ r) known.1)))))))))))

defined_primitive : (p : Primitive) (rest : List ℕ) → defined_of (primitive_code p) rest ≡ Ok (defined.Primitive p, rest)
unfolding defined_of
defined_primitive primitive.Bool rest = refl
defined_primitive primitive.S8 rest = refl
defined_primitive primitive.U8 rest = refl
defined_primitive primitive.S16 rest = refl
defined_primitive primitive.U16 rest = refl
defined_primitive primitive.S32 rest = refl
defined_primitive primitive.U32 rest = refl
defined_primitive primitive.S64 rest = refl
defined_primitive primitive.U64 rest = refl
defined_primitive primitive.F32 rest = refl
defined_primitive primitive.F64 rest = refl
defined_primitive primitive.Char rest = refl
defined_primitive primitive.Text rest = refl

-- a type's byte, and its reading behind it
pub defined_again : (d : DefinedType) (bytes rest : List ℕ) → DefinedForm d bytes rest → (b : ℕ) × (after : List ℕ) × (bytes ≡ b ∷ after) × (0x68 ≤ b) × (b < 128) × (defined_of b after ≡ Ok (d, rest))
unfolding defined_of record_at variant_at tuple_at flags_at enum_at result_at
defined_again (defined.Primitive p) bytes rest h = (primitive_code p, rest, h, (code_bounds p).0, (code_bounds p).1, defined_primitive p rest)
  where
    code_bounds : (p : Primitive) → (0x68 ≤ primitive_code p) × (primitive_code p < 128)
    code_bounds primitive.Bool = (omega arith, omega arith)
    code_bounds primitive.S8 = (omega arith, omega arith)
    code_bounds primitive.U8 = (omega arith, omega arith)
    code_bounds primitive.S16 = (omega arith, omega arith)
    code_bounds primitive.U16 = (omega arith, omega arith)
    code_bounds primitive.S32 = (omega arith, omega arith)
    code_bounds primitive.U32 = (omega arith, omega arith)
    code_bounds primitive.S64 = (omega arith, omega arith)
    code_bounds primitive.U64 = (omega arith, omega arith)
    code_bounds primitive.F32 = (omega arith, omega arith)
    code_bounds primitive.F64 = (omega arith, omega arith)
    code_bounds primitive.Char = (omega arith, omega arith)
    code_bounds primitive.Text = (omega arith, omega arith)
defined_again (defined.RecordOf fields) bytes rest h =
    (0x72, h.1.0, h.1.1, omega arith, omega arith, rw (labelled_again label_of field_at FieldForm field_again fields h.1.0 rest h.1.2, some_to (length fields) h.0) refl)
defined_again (defined.VariantOf cases) bytes rest h =
    (0x71, h.1.0, h.1.1, omega arith, omega arith, rw (labelled_again label_of case_at CaseForm case_again cases h.1.0 rest h.1.2, some_to (length cases) h.0) refl)
defined_again (defined.ListOf t) bytes rest h = (0x70, h.0, h.1, omega arith, omega arith, rw (value_again t h.0 rest h.2) refl)
defined_again (defined.TupleOf parts) bytes rest h =
    (0x6f, h.1.0, h.1.1, omega arith, omega arith, rw (vector_again value_at ValForm value_again parts h.1.0 rest h.1.2, some_to (length parts) h.0) refl)
defined_again (defined.FlagsOf labels) bytes rest h =
    (0x6e, h.2.0, h.2.1, omega arith, omega arith, rw (number_again (length labels) h.2.0 h.2.2.1.0 h.2.2.1.1, labels_again labels h.2.0 rest h.2.2, some_to (length labels) h.0, le-ltb 32 (length labels) h.1) refl)
defined_again (defined.EnumOf labels) bytes rest h = (0x6d, h.1.0, h.1.1, omega arith, omega arith, rw (labels_again labels h.1.0 rest h.1.2, some_to (length labels) h.0) refl)
defined_again (defined.OptionOf t) bytes rest h = (0x6b, h.0, h.1, omega arith, omega arith, rw (value_again t h.0 rest h.2) refl)
defined_again (defined.ResultOf ok err) bytes rest h =
    (0x6a, h.0, h.1, omega arith, omega arith, rw (optional_again value_at ValForm value_again ok h.0 h.2.0 h.2.1, optional_again value_at ValForm value_again err h.2.0 rest h.2.2) refl)
defined_again (defined.Own i) bytes rest h = (0x69, h.0, h.1, omega arith, omega arith, rw (number_again i h.0 rest h.2) refl)
defined_again (defined.Borrow i) bytes rest h = (0x68, h.0, h.1, omega arith, omega arith, rw (number_again i h.0 rest h.2) refl)

pub defined_written : (d : DefinedType) (rest : List ℕ) → FitsDefined d → DefinedForm d (defined_text d ++ rest) rest
defined_written (defined.Primitive p) rest fits = refl
defined_written (defined.RecordOf fields) rest fits =
    (fits.0, (vector_text field_text fields ++ rest, refl, labelled_written label_of field_at FieldForm field_text FitsField field_written fields rest fits.1))
defined_written (defined.VariantOf cases) rest fits =
    (fits.0, (vector_text case_text cases ++ rest, refl, labelled_written label_of case_at CaseForm case_text FitsCase case_written cases rest fits.1))
defined_written (defined.ListOf t) rest fits = (value_text t ++ rest, refl, value_written t rest fits)
defined_written (defined.TupleOf parts) rest fits =
    (fits.0, (vector_text value_text parts ++ rest, refl, vector_written value_at ValForm value_text FitsVal value_written parts rest fits.1 (recursion_from_All FitsVal parts fits.2)))
defined_written (defined.FlagsOf labels) rest fits =
    (fits.0, fits.1, (vector_text name_text labels ++ rest, refl, labelled_written (λ label. label) label_alone (λ label bytes rest. bytes ≡ rest) name_text FitsName label_written labels rest fits.2))
defined_written (defined.EnumOf labels) rest fits =
    (fits.0, (vector_text name_text labels ++ rest, refl, labelled_written (λ label. label) label_alone (λ label bytes rest. bytes ≡ rest) name_text FitsName label_written labels rest fits.1))
defined_written (defined.OptionOf t) rest fits = (value_text t ++ rest, refl, value_written t rest fits)
defined_written (defined.ResultOf ok err) rest fits = (
  (optional_text value_text ok ++ optional_text value_text err) ++ rest,
  refl,
  (optional_text value_text err ++ rest, rw append_assoc (optional_written value_at ValForm value_text FitsVal value_written ok (optional_text value_text err ++ rest) fits.0), optional_written value_at ValForm value_text FitsVal value_written err rest fits.1),
)
defined_written (defined.Own i) rest fits = (number_text i ++ rest, refl, number_written i rest fits)
defined_written (defined.Borrow i) rest fits = (number_text i ++ rest, refl, number_written i rest fits)

-- ---- types of functions

result_type_form : IsSound result_type_at ResultForm
unfolding result_type_at
result_type_form bytes x e =
    let b = bind_ok (byte_at bytes) _ x e in
    let front = byte_form bytes b.0 b.1 in
    pick b.0.0 0 _ _ _ b.2 (λ h k.
    let t = bind_ok (value_at b.0.1) _ x k in
    behind ResultForm 0 bytes b.0 (Some t.0.0, t.0.1) x front h (ok_is _ x t.2) (b.0.1, refl, value_form b.0.1 t.0 t.1)) (λ e.
    pick b.0.0 1 _ _ _ e (λ h k.
    let m = bind_ok (mark_at 0 b.0.1) _ x k in
    behind ResultForm 1 bytes b.0 (None, m.0) x front h (ok_is _ x m.2) (b.0.1, refl, mark_form 0 b.0.1 m.0 m.1)) (λ e. absurd cc))

result_type_again : IsComplete result_type_at ResultForm
unfolding result_type_at mark_at
result_type_again (Some t) bytes rest h = rw (h.1, value_again t h.0 rest h.2) refl
result_type_again None bytes rest h = rw (h.1, h.2) refl

result_written : (r : Option ValType) (rest : List ℕ) → IfSome r FitsVal → ResultForm r (result_text r ++ rest) rest
result_written (Some t) rest fits = (value_text t ++ rest, refl, value_written t rest fits)
result_written None rest fits = (0 ∷ rest, refl, refl)

pub func_form : IsSound func_at FuncForm
unfolding func_at
func_form bytes x e =
    let params = bind_ok (labelled_vector_at field_at bytes) _ x e in
    let result = bind_ok (result_type_at params.0.1) _ x params.2 in
    let made : FuncType × List ℕ = (record { params = params.0.0; result = result.0.0 }, result.0.1) in
    subst (λ (y : FuncType × List ℕ). FuncForm y.0 bytes y.1) (ok_is made x result.2)
    (params.0.1, labelled_form label_of field_at FieldForm field_form bytes params.0 params.1, result_type_form params.0.1 result.0 result.1)

pub func_again : IsComplete func_at FuncForm
unfolding func_at
func_again f bytes rest h = rw (labelled_again label_of field_at FieldForm field_again f.params bytes h.0 h.1, result_type_again f.result h.0 rest h.2) refl

pub func_written : (f : FuncType) (rest : List ℕ) → FitsFunc f → FuncForm f (func_text f ++ rest) rest
func_written f rest fits =
    (result_text f.result ++ rest, rw append_assoc (labelled_written label_of field_at FieldForm field_text FitsField field_written f.params (result_text f.result ++ rest) fits.params), result_written f.result rest fits.result)
