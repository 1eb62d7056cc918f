-- What is written for value types stands for them.
use Rattle.std.proofs.Common.{◌≡◌, ℕ, Bool, true, false, ◌&&◌, List, [], ◌∷◌, Option, Some, None, Ok, Err, refl, sym, ap, subst, ◌∙◌}
use Rattle.std.specs.Prelude.{slice_get, option_and_then, Result}
use Rattle.std.proofs.lemmas.Option.{option_and_then_some, same_Some}
use Rattle.warg_values.specs.Reading.{◌>>=◌}
use Rattle.comp_format.specs.declared.types.ValType.{ValType}
use Rattle.comp_format.specs.declared.types.ValType.TheVariants as value
use Rattle.comp_format.specs.declared.types.DefinedType.{DefinedType}
use Rattle.comp_format.specs.declared.types.DefinedType.TheVariants as defined
use Rattle.comp_format.specs.Definitions as tree
use Rattle.comp_format.specs.Definitions.{DeclTree, TypeTree}
use Rattle.comp_entity.specs.Entity.{Name, ValueTree, Primitive, TupleOf, RecordOf, VariantOf, ListOf, FlagsOf, EnumOf, OptionOf, ResultOf, Own, Borrow, ValueTrees, none, more, Cases, no_case, labelled, Payload, absent, present, TypeShapeTree, Value, Resource, Func, Instance, Component, EntityTree, IsType}
use Rattle.comp_entity.specs.Names.{outside, value_by, values_by, cases_by, payload_by, without_places, bare, OfResource, OfPlace}
use Rattle.comp_entity.specs.NameLaws.{value_twice}
use Rattle.comp_entity.specs.Fits.{place_of}
use Rattle.comp_entity.specs.Bounds.{ShapeFault}
use Rattle.comp_scope.specs.Spaces.{Spaces, Known, Standing, at_index, item_or_fault, added, is_named, entity_is_named}
use Rattle.comp_scope.specs.Values.{as_value, as_resource, part_of, payload_of, resource_of, parts_of, fields_of, cases_of, value_of}
use Rattle.comp_scope.specs.Types.{with_decls}
use Rattle.compose_writing.specs.Scopes.{WrittenScope, Wrote, wrote_as, add_type, on_top, type_index}
use Rattle.compose_writing.specs.WriteValues.{then_defined, named_part, write_defined, write_parts, write_fields, write_cases, write_payload, write_value}
use Rattle.compose_meaning.specs.Meaning.{Meaning, placing, placed_value, Meant, meant, Means, place_bit, own_bit, parts_bit, cases_bit, payload_bit, value_bit, IsNamed, OneTree, OneTrees, OneTreeCases, OneTreePayload}
use Rattle.compose_meaning.specs.Stands.{Grown, AllGrown, spaces_of, Kept, MayBring}
use Rattle.compose_meaning.proofs.ListLaws.{wrote_some}
use Rattle.compose_meaning.proofs.NameLaws.{placing_bare, from_here}
use Rattle.compose_meaning.proofs.SpaceLaws.{Went, at_once, then_went, so, OnTop, on_top_then, on_top_both, TypeAt, Adds, added_type}
use Rattle.compose_meaning.proofs.KnownLaws.{still_brings, index_reads}

-- ---- what types read as

-- what is read is this, the places of named types set aside, and has this bit
abbrev pub Read : {X : Type 0} → (X → X) → Result (X × Bool) ShapeFault → X → Bool → Type 0
Read plain r x b = (what : _) × (r ≡ Ok (what, b)) × (plain what ≡ x)

abbrev pub plain_value : ValueTree → ValueTree
plain_value t = value_by without_places 0 t

abbrev pub plain_values : ValueTrees → ValueTrees
plain_values ts = values_by without_places 0 ts

abbrev pub plain_cases : Cases → Cases
plain_cases cs = cases_by without_places 0 cs

abbrev pub plain_payload : Payload → Payload
plain_payload p = payload_by without_places 0 p

pub part_grown : (s t : Spaces) → Grown s t → (v : ValType) (x : ValueTree × Bool) → part_of s v ≡ Ok x → part_of t v ≡ Ok x
unfolding part_of
part_grown s t g (value.Primitive p) x h = h
part_grown s t g (value.Index i) x h = one (slice_get s.types i) refl h
  where
    one : (o : Option Standing) → slice_get s.types i ≡ o → (item_or_fault o >>= as_value) ≡ Ok x → (at_index t.types i >>= as_value) ≡ Ok x
    one None is h = absurd cc
    one (Some e) is h = rw (g.types i e is) h

payload_grown : (s t : Spaces) → Grown s t → (v : Option ValType) (x : Payload × Bool) → payload_of s v ≡ Ok x → payload_of t v ≡ Ok x
unfolding payload_of
payload_grown s t g None x h = h
payload_grown s t g (Some v) x h = one (part_of s v) refl h
  where
    one : (r : Result (ValueTree × Bool) ShapeFault) → part_of s v ≡ r → (r >>= λ v. Ok (present v.0, v.1)) ≡ Ok x → (part_of t v >>= λ v. Ok (present v.0, v.1)) ≡ Ok x
    one (Err f) is h = absurd cc
    one (Ok y) is h = rw (part_grown s t g v y is) h

-- what a type that is known is
pub means_here : (what : Meant) (s : Standing) → Means 0 what s → bare s.0 ≡ what.entity
means_here what s m = ap bare (sym (from_here s.0)) ∙ m.is

pub type_value : (t : ValueTree) (s : Standing) (ty : TypeShapeTree) → s.0 ≡ IsType ty → bare s.0 ≡ IsType (Value t) → (v : ValueTree) × (s.0 ≡ IsType (Value v)) × (plain_value v ≡ t)
type_value t s ty is h = one ty is (subst (λ e. bare e ≡ IsType (Value t)) is h)
  where
    of_value : EntityTree → Option ValueTree
    of_value (IsType (Value v)) = Some v
    of_value _ = None

    one : (ty : TypeShapeTree) → s.0 ≡ IsType ty → bare (IsType ty) ≡ IsType (Value t) → (v : ValueTree) × (s.0 ≡ IsType (Value v)) × (plain_value v ≡ t)
    one (Value v) is h = (v, is, same_Some _ _ (ap of_value h))
    one (Resource r) is h = absurd cc
    one (Func f) is h = absurd cc
    one (Instance es) is h = absurd cc
    one (Component es fs) is h = absurd cc

pub type_resource : (n : Name) (s : Standing) (ty : TypeShapeTree) → s.0 ≡ IsType ty → bare s.0 ≡ IsType (Resource n) → s.0 ≡ IsType (Resource n)
type_resource n s ty is h = one ty is (subst (λ e. bare e ≡ IsType (Resource n)) is h)
  where
    one : (ty : TypeShapeTree) → s.0 ≡ IsType ty → bare (IsType ty) ≡ IsType (Resource n) → s.0 ≡ IsType (Resource n)
    one (Value v) is h = absurd cc
    one (Resource r) is h = is ∙ h
    one (Func f) is h = absurd cc
    one (Instance es) is h = absurd cc
    one (Component es fs) is h = absurd cc

pub and_true : (b : Bool) → (b && true) ≡ b
and_true true = refl
and_true false = refl

-- ---- what has no place

unplaced_named : (f : Name → Name) (t : ValueTree) → place_of t ≡ None → is_named (value_by (placing f) 0 t) ≡ is_named t
unplaced_named f (Primitive p) h = refl
unplaced_named f (TupleOf parts) h = refl
unplaced_named f (RecordOf None fields) h = refl
unplaced_named f (RecordOf (Some n) fields) h = absurd cc
unplaced_named f (VariantOf None cases) h = refl
unplaced_named f (VariantOf (Some n) cases) h = absurd cc
unplaced_named f (ListOf t) h = refl
unplaced_named f (FlagsOf None labels) h = refl
unplaced_named f (FlagsOf (Some n) labels) h = absurd cc
unplaced_named f (EnumOf None labels) h = refl
unplaced_named f (EnumOf (Some n) labels) h = absurd cc
unplaced_named f (OptionOf t) h = refl
unplaced_named f (ResultOf ok err) h = refl
unplaced_named f (Own r) h = refl
unplaced_named f (Borrow r) h = refl

plain_named : (t : ValueTree) → place_of t ≡ None → is_named (plain_value t) ≡ is_named t
plain_named (Primitive p) h = refl
plain_named (TupleOf parts) h = refl
plain_named (RecordOf None fields) h = refl
plain_named (RecordOf (Some n) fields) h = absurd cc
plain_named (VariantOf None cases) h = refl
plain_named (VariantOf (Some n) cases) h = absurd cc
plain_named (ListOf t) h = refl
plain_named (FlagsOf None labels) h = refl
plain_named (FlagsOf (Some n) labels) h = absurd cc
plain_named (EnumOf None labels) h = refl
plain_named (EnumOf (Some n) labels) h = absurd cc
plain_named (OptionOf t) h = refl
plain_named (ResultOf ok err) h = refl
plain_named (Own r) h = refl
plain_named (Borrow r) h = refl

-- ---- what is ready to be written into

-- scopes are open, and what may be mentioned may be brought in
pub record Ready (mean : Meaning) (ms : List WrittenScope) (ks : List Known) : Type 0 where
  pub is_open : OnTop (λ s. Unit {0}) ks
  pub brings : MayBring mean.may_mention (meant mean) ms ks

module _ (mean : Meaning) where
  abbrev pub Written : List Known → List WrittenScope → List WrittenScope → (List Known → Type 0) → Type 0
  Written ks ms later Q = Went 0 (meant mean) ks ms later Q

  pub still_ready : (ks : List Known) (ms later : List WrittenScope) (Q : List Known → Type 0) → Ready mean ms ks → (w : Written ks ms later Q) → Ready mean later w.scopes
  unfolding OnTop
  still_ready ks ms later Q r w = record { is_open = one ks w.scopes w.grown r.is_open; brings = still_brings mean.may_mention (meant mean) ms later ks w.scopes w.same w.grown r.brings }
    where
      one : (ks ls : List Known) → AllGrown (spaces_of ks) (spaces_of ls) → OnTop (λ s. Unit {0}) ks → OnTop (λ s. Unit {0}) ls
      one [] ls g o = elim o [ ]
      one (k ∷ ks) [] g o = elim g [ ]
      one (k ∷ ks) (l ∷ ls) g o = tt

  unfoldable pub PartIs : ValType → ValueTree → List Known → Type 0
  PartIs v t = OnTop (λ s. Read plain_value (part_of s v) (placed_value mean t) (value_bit mean.bit t))

  unfoldable pub PayloadIs : Option ValType → Payload → List Known → Type 0
  PayloadIs v p = OnTop (λ s. Read plain_payload (payload_of s v) (payload_by (placing mean.resource) 0 p) (payload_bit mean.bit p))

  unfoldable pub PartsAre : List ValType → ValueTrees → List Known → Type 0
  PartsAre vs ts = OnTop (λ s. Read plain_values (parts_of s vs) (values_by (placing mean.resource) 0 ts) (parts_bit mean.bit ts))

  unfoldable pub FieldsAre : List (List ℕ × ValType) → Cases → List Known → Type 0
  FieldsAre fs cs = OnTop (λ s. Read plain_cases (fields_of s fs) (cases_by (placing mean.resource) 0 cs) (cases_bit mean.bit cs))

  unfoldable pub CasesAre : List (List ℕ × Option ValType) → Cases → List Known → Type 0
  CasesAre fs cs = OnTop (λ s. Read plain_cases (cases_of s fs) (cases_by (placing mean.resource) 0 cs) (cases_bit mean.bit cs))

  abbrev pub ReadsAs : Spaces → DefinedType → ValueTree → Type 0
  ReadsAs s d t = (what : ValueTree) × (value_of s d ≡ Ok (what, own_bit mean.bit t)) × (plain_value what ≡ placed_value mean t) × (place_of what ≡ None)

  unfoldable pub DefinedIs : DefinedType → ValueTree → List Known → Type 0
  DefinedIs d t = OnTop (λ s. ReadsAs s d t)

  -- a type of values that stands for a tree adds that tree
  pub defined_adds : (d : DefinedType) (t : ValueTree) (ks : List Known) → DefinedIs d t ks
      → (what : ValueTree) × (plain_value what ≡ placed_value mean t) × (place_of what ≡ None) × Adds (tree.Ty (tree.Defined d)) (IsType (Value what), own_bit mean.bit t) ks
  unfolding OnTop DefinedIs Adds with_decls added
  defined_adds d t [] h = elim h [ ]
  defined_adds d t (k ∷ ks) h = (h.0, h.2, h.3, (λ outer g. rw h.1 refl))

  -- what was written for a type of values, behind the others
  pub then_defined_reads : (t : ValueTree) (ms : List WrittenScope) (ks : List Known) (x : List WrittenScope × ℕ) → ((y : List WrittenScope × DefinedType) → write_defined t ms ≡ Some y → Written ks ms y.0 (DefinedIs y.1 t)) → then_defined (write_defined t ms) ≡ Some x
      → (what : ValueTree) × (plain_value what ≡ placed_value mean t) × (place_of what ≡ None) × Written ks ms x.0 (TypeAt x.1 (IsType (Value what), own_bit mean.bit t))
  then_defined_reads t ms ks x own h = option_and_then_some _ (wrote_as tree.Defined (write_defined t ms)) x h (λ z a b. wrote_some tree.Defined (write_defined t ms) z a (λ y e f.
      let w = own y e in
      let adds = defined_adds y.1 t w.scopes w.says in (
        adds.0,
        adds.1,
        adds.2,
        then_went 0 (meant mean) ks ms y.0 x.0 _ _ w
            (added_type 0 (meant mean) (tree.Ty (tree.Defined y.1)) y.0 w.scopes x _ w.kept (subst (λ (z : List WrittenScope × TypeTree). on_top (add_type z.1) z.0 ≡ Some x) (sym f) b) adds.3),
      )))

  index_part : (i : ℕ) (t what : ValueTree) (b : Bool) → plain_value what ≡ placed_value mean t → (b && is_named what) ≡ value_bit mean.bit t → (ks : List Known) → TypeAt i (IsType (Value what), b) ks → PartIs (value.Index i) t ks
  unfolding TypeAt OnTop PartIs part_of
  index_part i t what b is bit [] h = elim h [ ]
  index_part i t what b is bit (k ∷ ks) h = (what, rw h (ap (λ b. Ok (what, b)) bit), is)

  -- a part of another type
  pub named_reads : (t : ValueTree) (o : Option Name) → place_of t ≡ o → (ms : List WrittenScope) (ks : List Known) (x : List WrittenScope × ValType) → Kept 0 (meant mean) ms ks → Ready mean ms ks → IsNamed mean t o
      → ((y : List WrittenScope × DefinedType) → write_defined t ms ≡ Some y → Written ks ms y.0 (DefinedIs y.1 t)) → named_part o (write_defined t ms) ms ≡ Some x → Written ks ms x.0 (PartIs x.1 t)
  named_reads t (Some n) place ms ks x k r named own h = wrote_some value.Index (type_index (OfPlace n) ms) x h (λ y a b.
      let w = index_reads mean.may_mention (meant mean) (OfPlace n) ms ks y k r.brings named.0 a in
      let v = type_value (placed_value mean (mean.tree n)) w.0 w.1.ty w.1.is_type (means_here (meant mean (OfPlace n)) w.0 w.1) in
      let is : plain_value v.0 ≡ placed_value mean t = v.2 ∙ ap (placed_value mean) (sym named.1) ∙ value_twice (placing mean.resource) without_places (placing mean.resource) (placing_bare mean.resource) 0 t in
      let bit : (w.0.1 && is_named v.0) ≡ value_bit mean.bit t = ap (λ b. w.0.1 && b) (ap entity_is_named (sym v.1) ∙ w.1.is_named) ∙ and_true w.0.1 ∙ w.1.bit ∙ ap (λ o. place_bit mean.bit o (own_bit mean.bit t && is_named t)) (sym place) in
      let at : (ls : List Known) → TypeAt y.1 w.0 ls → TypeAt y.1 (IsType (Value v.0), w.0.1) ls = λ ls. subst (λ e. TypeAt y.1 (e, w.0.1) ls) v.1 in
      subst (λ (x : List WrittenScope × ValType). Written ks ms x.0 (PartIs x.1 t)) b
      (so 0 (meant mean) ks ms y.0 _ _ w.2 (λ ls h. index_part y.1 t v.0 w.0.1 is bit ls (at ls h))))
  named_reads t None place ms ks x k r named own h = wrote_some value.Index (then_defined (write_defined t ms)) x h (λ y a b.
      let w = then_defined_reads t ms ks y own a in
      let same : is_named w.0 ≡ is_named t = sym (plain_named w.0 w.2) ∙ ap is_named w.1 ∙ unplaced_named mean.resource t place in
      let bit : (own_bit mean.bit t && is_named w.0) ≡ value_bit mean.bit t = ap (λ b. own_bit mean.bit t && b) same ∙ ap (λ o. place_bit mean.bit o (own_bit mean.bit t && is_named t)) (sym place) in
      subst (λ (x : List WrittenScope × ValType). Written ks ms x.0 (PartIs x.1 t)) b
      (so 0 (meant mean) ks ms y.0 _ _ w.3 (index_part y.1 t w.0 (own_bit mean.bit t) w.1 bit)))

  part_reads : (t : ValueTree) (ms : List WrittenScope) (ks : List Known) (x : List WrittenScope × ValType) → Kept 0 (meant mean) ms ks → Ready mean ms ks → OneTree mean t
      → ((y : List WrittenScope × DefinedType) → write_defined t ms ≡ Some y → Written ks ms y.0 (DefinedIs y.1 t)) → write_value t ms ≡ Some x → Written ks ms x.0 (PartIs x.1 t)
  unfolding PartIs part_of own_bit
  part_reads (Primitive p) ms ks x k r one own h =
      subst (λ (x : List WrittenScope × ValType). Written ks ms x.0 (PartIs x.1 (Primitive p))) (same_Some _ _ h)
      (at_once 0 (meant mean) ks ms _ k (on_top_then _ _ (λ s u. (Primitive p, refl, refl)) ks r.is_open))
  part_reads (TupleOf parts) ms ks x k r one own h = named_reads (TupleOf parts) None refl ms ks x k r tt own h
  part_reads (RecordOf p fields) ms ks x k r one own h = named_reads (RecordOf p fields) p refl ms ks x k r one.0 own h
  part_reads (VariantOf p cases) ms ks x k r one own h = named_reads (VariantOf p cases) p refl ms ks x k r one.0 own h
  part_reads (ListOf t) ms ks x k r one own h = named_reads (ListOf t) None refl ms ks x k r tt own h
  part_reads (FlagsOf p labels) ms ks x k r one own h = named_reads (FlagsOf p labels) p refl ms ks x k r one own h
  part_reads (EnumOf p labels) ms ks x k r one own h = named_reads (EnumOf p labels) p refl ms ks x k r one own h
  part_reads (OptionOf t) ms ks x k r one own h = named_reads (OptionOf t) None refl ms ks x k r tt own h
  part_reads (ResultOf ok err) ms ks x k r one own h = named_reads (ResultOf ok err) None refl ms ks x k r tt own h
  part_reads (Own n) ms ks x k r one own h = named_reads (Own n) None refl ms ks x k r tt own h
  part_reads (Borrow n) ms ks x k r one own h = named_reads (Borrow n) None refl ms ks x k r tt own h

  -- ---- a type behind its parts

  tuple_is : (vs : List ValType) (ts : ValueTrees) (ks : List Known) → PartsAre vs ts ks → DefinedIs (defined.TupleOf vs) (TupleOf ts) ks
  unfolding PartsAre DefinedIs value_of own_bit
  tuple_is vs ts ks h = on_top_then _ _ (λ s a. (TupleOf a.0, rw a.1 refl, ap TupleOf a.2, refl)) ks h

  record_is : (fs : List (List ℕ × ValType)) (p : Option Name) (cs : Cases) (ks : List Known) → FieldsAre fs cs ks → DefinedIs (defined.RecordOf fs) (RecordOf p cs) ks
  unfolding FieldsAre DefinedIs value_of own_bit
  record_is fs p cs ks h = on_top_then _ _ (λ s a. (RecordOf None a.0, rw a.1 refl, ap (RecordOf None) a.2 ∙ no_place p cs, refl)) ks h
    where
      no_place : (p : Option Name) (cs : Cases) → RecordOf None (cases_by (placing mean.resource) 0 cs) ≡ placed_value mean (RecordOf p cs)
      no_place None cs = refl
      no_place (Some n) cs = refl

  variant_is : (fs : List (List ℕ × Option ValType)) (p : Option Name) (cs : Cases) (ks : List Known) → CasesAre fs cs ks → DefinedIs (defined.VariantOf fs) (VariantOf p cs) ks
  unfolding CasesAre DefinedIs value_of own_bit
  variant_is fs p cs ks h = on_top_then _ _ (λ s a. (VariantOf None a.0, rw a.1 refl, ap (VariantOf None) a.2 ∙ no_place p cs, refl)) ks h
    where
      no_place : (p : Option Name) (cs : Cases) → VariantOf None (cases_by (placing mean.resource) 0 cs) ≡ placed_value mean (VariantOf p cs)
      no_place None cs = refl
      no_place (Some n) cs = refl

  list_is : (v : ValType) (t : ValueTree) (ks : List Known) → PartIs v t ks → DefinedIs (defined.ListOf v) (ListOf t) ks
  unfolding PartIs DefinedIs value_of own_bit
  list_is v t ks h = on_top_then _ _ (λ s a. (ListOf a.0, rw a.1 refl, ap ListOf a.2, refl)) ks h

  option_is : (v : ValType) (t : ValueTree) (ks : List Known) → PartIs v t ks → DefinedIs (defined.OptionOf v) (OptionOf t) ks
  unfolding PartIs DefinedIs value_of own_bit
  option_is v t ks h = on_top_then _ _ (λ s a. (OptionOf a.0, rw a.1 refl, ap OptionOf a.2, refl)) ks h

  flags_are : (p : Option Name) (labels : List (List ℕ)) (ks : List Known) → OnTop (λ s. Unit {0}) ks → DefinedIs (defined.FlagsOf labels) (FlagsOf p labels) ks
  unfolding DefinedIs value_of own_bit
  flags_are None labels ks h = on_top_then _ _ (λ s a. (FlagsOf None labels, refl, refl, refl)) ks h
  flags_are (Some n) labels ks h = on_top_then _ _ (λ s a. (FlagsOf None labels, refl, refl, refl)) ks h

  enum_is : (p : Option Name) (labels : List (List ℕ)) (ks : List Known) → OnTop (λ s. Unit {0}) ks → DefinedIs (defined.EnumOf labels) (EnumOf p labels) ks
  unfolding DefinedIs value_of own_bit
  enum_is None labels ks h = on_top_then _ _ (λ s a. (EnumOf None labels, refl, refl, refl)) ks h
  enum_is (Some n) labels ks h = on_top_then _ _ (λ s a. (EnumOf None labels, refl, refl, refl)) ks h

  result_is : (v w : Option ValType) (p q : Payload) (ks ls : List Known) → AllGrown (spaces_of ks) (spaces_of ls) → PayloadIs v p ks → PayloadIs w q ls → DefinedIs (defined.ResultOf v w) (ResultOf p q) ls
  unfolding PayloadIs DefinedIs value_of own_bit
  result_is v w p q ks ls g a b = on_top_both _ _ _ (λ s t grown a b. (ResultOf a.0 b.0, rw (payload_grown s t grown v _ a.1, b.1) refl, (λ i. ResultOf (a.2 i) (b.2 i)), refl)) ks ls g a b

  -- a resource that is known
  unfoldable pub ResourceIs : ℕ → Name → List Known → Type 0
  ResourceIs i r = OnTop (λ s. resource_of s i ≡ Ok (outside mean.resource 0 r, true))

  resource_at : (i : ℕ) (r : Name) (s : Standing) → Means 0 (meant mean (OfResource r)) s → (ks : List Known) → TypeAt i s ks → ResourceIs i r ks
  unfolding TypeAt ResourceIs resource_of
  resource_at i r s m ks h = on_top_then _ _ (λ t at. rw at (ap (λ e. as_resource (e, s.1)) is ∙ ap (λ b. Ok (outside mean.resource 0 r, b)) bit)) ks h
    where
      is : s.0 ≡ IsType (Resource (outside mean.resource 0 r))
      is = type_resource (outside mean.resource 0 r) s m.ty m.is_type (means_here (meant mean (OfResource r)) s m)

      bit : s.1 ≡ true
      bit = m.bit

  pub resource_reads : (r : Name) (ms : List WrittenScope) (ks : List Known) (x : List WrittenScope × ℕ) → Kept 0 (meant mean) ms ks → Ready mean ms ks → mean.may_mention (OfResource r) ≡ true → type_index (OfResource r) ms ≡ Some x
      → Written ks ms x.0 (ResourceIs x.1 r)
  resource_reads r ms ks x k ready is h =
      let w = index_reads mean.may_mention (meant mean) (OfResource r) ms ks x k ready.brings is h in
      so 0 (meant mean) ks ms x.0 _ _ w.2 (resource_at x.1 r w.0 w.1)

  own_is : (i : ℕ) (r : Name) (ks : List Known) → ResourceIs i r ks → DefinedIs (defined.Own i) (Own r) ks
  unfolding ResourceIs DefinedIs value_of own_bit
  own_is i r ks h = on_top_then _ _ (λ s a. (Own (outside mean.resource 0 r), rw a refl, refl, refl)) ks h

  borrow_is : (i : ℕ) (r : Name) (ks : List Known) → ResourceIs i r ks → DefinedIs (defined.Borrow i) (Borrow r) ks
  unfolding ResourceIs DefinedIs value_of own_bit
  borrow_is i r ks h = on_top_then _ _ (λ s a. (Borrow (outside mean.resource 0 r), rw a refl, refl, refl)) ks h

  -- one part more in front
  parts_more : (v : ValType) (vs : List ValType) (t : ValueTree) (ts : ValueTrees) (ks ls : List Known) → AllGrown (spaces_of ks) (spaces_of ls) → PartIs v t ks → PartsAre vs ts ls → PartsAre (v ∷ vs) (more t ts) ls
  unfolding PartIs PartsAre parts_of own_bit
  parts_more v vs t ts ks ls g a b = on_top_both _ _ _ (λ s u grown a b. (more a.0 b.0, rw (part_grown s u grown v _ a.1, b.1) refl, (λ i. more (a.2 i) (b.2 i)))) ks ls g a b

  fields_more : (label : List ℕ) (v : ValType) (vs : List (List ℕ × ValType)) (t : ValueTree) (cs : Cases) (ks ls : List Known) → AllGrown (spaces_of ks) (spaces_of ls) → PartIs v t ks → FieldsAre vs cs ls
      → FieldsAre ((label, v) ∷ vs) (labelled label (present t) cs) ls
  unfolding PartIs FieldsAre fields_of own_bit
  fields_more label v vs t cs ks ls g a b = on_top_both _ _ _ (λ s u grown a b. (labelled label (present a.0) b.0, rw (part_grown s u grown v _ a.1, b.1) refl, (λ i. labelled label (present (a.2 i)) (b.2 i)))) ks ls g a b

  cases_more : (label : List ℕ) (v : Option ValType) (vs : List (List ℕ × Option ValType)) (p : Payload) (cs : Cases) (ks ls : List Known) → AllGrown (spaces_of ks) (spaces_of ls) → PayloadIs v p ks → CasesAre vs cs ls
      → CasesAre ((label, v) ∷ vs) (labelled label p cs) ls
  unfolding PayloadIs CasesAre cases_of own_bit
  cases_more label v vs p cs ks ls g a b = on_top_both _ _ _ (λ s u grown a b. (labelled label a.0 b.0, rw (payload_grown s u grown v _ a.1, b.1) refl, (λ i. labelled label (a.2 i) (b.2 i)))) ks ls g a b

  some_is : (v : ValType) (t : ValueTree) (ks : List Known) → PartIs v t ks → PayloadIs (Some v) (present t) ks
  unfolding PartIs PayloadIs payload_of own_bit
  some_is v t ks h = on_top_then _ _ (λ s a. (present a.0, rw a.1 refl, ap present a.2)) ks h

  primitive_reads : (p : _) (ms : List WrittenScope) (ks : List Known) (x : List WrittenScope × DefinedType) → Kept 0 (meant mean) ms ks → Ready mean ms ks → write_defined (Primitive p) ms ≡ Some x → Written ks ms x.0 (DefinedIs x.1 (Primitive p))
  unfolding write_defined DefinedIs value_of own_bit
  primitive_reads p ms ks x k r h = subst (λ (x : List WrittenScope × DefinedType). Written ks ms x.0 (DefinedIs x.1 (Primitive p))) (same_Some _ _ h)
      (at_once 0 (meant mean) ks ms _ k (on_top_then _ _ (λ s u. (Primitive p, refl, refl, refl)) ks r.is_open))

  no_parts : (ks : List Known) → OnTop (λ s. Unit {0}) ks → PartsAre [] none ks
  unfolding PartsAre parts_of own_bit
  no_parts ks h = on_top_then _ _ (λ s u. (none, refl, refl)) ks h

  no_fields : (ks : List Known) → OnTop (λ s. Unit {0}) ks → FieldsAre [] no_case ks
  unfolding FieldsAre fields_of own_bit
  no_fields ks h = on_top_then _ _ (λ s u. (no_case, refl, refl)) ks h

  no_cases : (ks : List Known) → OnTop (λ s. Unit {0}) ks → CasesAre [] no_case ks
  unfolding CasesAre cases_of own_bit
  no_cases ks h = on_top_then _ _ (λ s u. (no_case, refl, refl)) ks h

  no_payload : (ks : List Known) → OnTop (λ s. Unit {0}) ks → PayloadIs None absent ks
  unfolding PayloadIs payload_of own_bit
  no_payload ks h = on_top_then _ _ (λ s u. (absent, refl, refl)) ks h

  -- what is written is turned into another form, which says this
  pub turned : {X Y : Type 0} (f : X → Y) (w : Wrote X) (P : X → List Known → Type 0) (Q : Y → List Known → Type 0) (ms : List WrittenScope) (ks : List Known) (x : List WrittenScope × Y)
      → ((y : List WrittenScope × X) → w ≡ Some y → Written ks ms y.0 (P y.1)) → ((y : X) (ls : List Known) → P y ls → Q (f y) ls) → wrote_as f w ≡ Some x → Written ks ms x.0 (Q x.1)
  turned f w P Q ms ks x reads step h = wrote_some f w x h (λ y a b.
      subst (λ (x : List WrittenScope × _). Written ks ms x.0 (Q x.1)) b (so 0 (meant mean) ks ms y.0 _ _ (reads y a) (step y.1)))

  -- one thing is written behind another
  pub behind : {X Y Z : Type 0} (join : X → Y → Z) (w : Wrote X) (f : List WrittenScope → Wrote Y) (P : X → List Known → Type 0) (Q : Y → List Known → Type 0) (R : Z → List Known → Type 0) (ms : List WrittenScope) (ks : List Known) (x : List WrittenScope × Z)
      → Ready mean ms ks → ((y : List WrittenScope × X) → w ≡ Some y → Written ks ms y.0 (P y.1))
      → ((next : List WrittenScope) (ls : List Known) (z : List WrittenScope × Y) → Kept 0 (meant mean) next ls → Ready mean next ls → f next ≡ Some z → Written ls next z.0 (Q z.1))
      → ((y : X) (z : Y) (ls ts : List Known) → AllGrown (spaces_of ls) (spaces_of ts) → P y ls → Q z ts → R (join y z) ts)
      → option_and_then (λ y. wrote_as (join y.1) (f y.0)) w ≡ Some x → Written ks ms x.0 (R x.1)
  behind join w f P Q R ms ks x ready first second step h = option_and_then_some _ w x h (λ y a b. wrote_some (join y.1) (f y.0) x b (λ z d e.
      let one = first y a in
      let two = second y.0 one.scopes z one.kept (still_ready ks ms y.0 _ ready one) d in
      subst (λ (x : List WrittenScope × _). Written ks ms x.0 (R x.1)) e
      (then_went 0 (meant mean) ks ms y.0 z.0 _ _ one
      (record { scopes = two.scopes; grown = two.grown; kept = two.kept; same = two.same; heads = two.heads; says = step y.1 z.1 one.scopes two.scopes two.grown one.says two.says }))))

  mutual
    unfolding write_defined own_bit

    pub defined_reads : (t : ValueTree) (ms : List WrittenScope) (ks : List Known) (x : List WrittenScope × DefinedType) → Kept 0 (meant mean) ms ks → Ready mean ms ks → OneTree mean t → write_defined t ms ≡ Some x
        → Written ks ms x.0 (DefinedIs x.1 t)
    defined_reads (Primitive p) ms ks x k r one h = primitive_reads p ms ks x k r h
    defined_reads (TupleOf parts) ms ks x k r one h = turned defined.TupleOf (write_parts parts ms) (λ vs. PartsAre vs parts) (λ d. DefinedIs d (TupleOf parts)) ms ks x (λ y a. parts_reads parts ms ks y k r one a) (λ vs ls. tuple_is vs parts ls) h
    defined_reads (RecordOf p fields) ms ks x k r one h = turned defined.RecordOf (write_fields fields ms) (λ vs. FieldsAre vs fields) (λ d. DefinedIs d (RecordOf p fields)) ms ks x (λ y a. fields_reads fields ms ks y k r one.1 a) (λ vs ls. record_is vs p fields ls) h
    defined_reads (VariantOf p cases) ms ks x k r one h = turned defined.VariantOf (write_cases cases ms) (λ vs. CasesAre vs cases) (λ d. DefinedIs d (VariantOf p cases)) ms ks x (λ y a. cases_reads cases ms ks y k r one.1 a) (λ vs ls. variant_is vs p cases ls) h
    defined_reads (ListOf t) ms ks x k r one h = turned defined.ListOf (write_value t ms) (λ v. PartIs v t) (λ d. DefinedIs d (ListOf t)) ms ks x (λ y a. part_reads t ms ks y k r one (λ z b. defined_reads t ms ks z k r one b) a) (λ v ls. list_is v t ls) h
    defined_reads (FlagsOf p labels) ms ks x k r one h = subst (λ (x : List WrittenScope × DefinedType). Written ks ms x.0 (DefinedIs x.1 (FlagsOf p labels))) (same_Some _ _ h) (at_once 0 (meant mean) ks ms _ k (flags_are p labels ks r.is_open))
    defined_reads (EnumOf p labels) ms ks x k r one h = subst (λ (x : List WrittenScope × DefinedType). Written ks ms x.0 (DefinedIs x.1 (EnumOf p labels))) (same_Some _ _ h) (at_once 0 (meant mean) ks ms _ k (enum_is p labels ks r.is_open))
    defined_reads (OptionOf t) ms ks x k r one h = turned defined.OptionOf (write_value t ms) (λ v. PartIs v t) (λ d. DefinedIs d (OptionOf t)) ms ks x (λ y a. part_reads t ms ks y k r one (λ z b. defined_reads t ms ks z k r one b) a) (λ v ls. option_is v t ls) h
    defined_reads (ResultOf ok err) ms ks x k r one h = behind defined.ResultOf (write_payload ok ms) (write_payload err) (λ v. PayloadIs v ok) (λ v. PayloadIs v err) (λ d. DefinedIs d (ResultOf ok err)) ms ks x r
        (λ y a. payload_reads ok ms ks y k r one.0 a) (λ next ls z k r a. payload_reads err next ls z k r one.1 a) (λ v w ls ts. result_is v w ok err ls ts) h
    defined_reads (Own n) ms ks x k r one h = turned defined.Own (type_index (OfResource n) ms) (λ i. ResourceIs i n) (λ d. DefinedIs d (Own n)) ms ks x (λ y a. resource_reads n ms ks y k r one a) (λ i ls. own_is i n ls) h
    defined_reads (Borrow n) ms ks x k r one h = turned defined.Borrow (type_index (OfResource n) ms) (λ i. ResourceIs i n) (λ d. DefinedIs d (Borrow n)) ms ks x (λ y a. resource_reads n ms ks y k r one a) (λ i ls. borrow_is i n ls) h

    parts_reads : (ts : ValueTrees) (ms : List WrittenScope) (ks : List Known) (x : List WrittenScope × List ValType) → Kept 0 (meant mean) ms ks → Ready mean ms ks → OneTrees mean ts → write_parts ts ms ≡ Some x → Written ks ms x.0 (PartsAre x.1 ts)
    parts_reads none ms ks x k r one h = subst (λ (x : List WrittenScope × List ValType). Written ks ms x.0 (PartsAre x.1 none)) (same_Some _ _ h) (at_once 0 (meant mean) ks ms _ k (no_parts ks r.is_open))
    parts_reads (more t ts) ms ks x k r one h = behind (λ v vs. v ∷ vs) (write_value t ms) (write_parts ts) (λ v. PartIs v t) (λ vs. PartsAre vs ts) (λ vs. PartsAre vs (more t ts)) ms ks x r
        (λ y a. part_reads t ms ks y k r one.0 (λ z b. defined_reads t ms ks z k r one.0 b) a) (λ next ls z k r a. parts_reads ts next ls z k r one.1 a) (λ v vs ls us. parts_more v vs t ts ls us) h

    fields_reads : (cs : Cases) (ms : List WrittenScope) (ks : List Known) (x : List WrittenScope × List (List ℕ × ValType)) → Kept 0 (meant mean) ms ks → Ready mean ms ks → OneTreeCases mean cs → write_fields cs ms ≡ Some x → Written ks ms x.0 (FieldsAre x.1 cs)
    fields_reads no_case ms ks x k r one h = subst (λ (x : List WrittenScope × List (List ℕ × ValType)). Written ks ms x.0 (FieldsAre x.1 no_case)) (same_Some _ _ h) (at_once 0 (meant mean) ks ms _ k (no_fields ks r.is_open))
    fields_reads (labelled label absent cs) ms ks x k r one h = absurd cc
    fields_reads (labelled label (present t) cs) ms ks x k r one h = behind (λ v vs. (label, v) ∷ vs) (write_value t ms) (write_fields cs) (λ v. PartIs v t) (λ vs. FieldsAre vs cs) (λ vs. FieldsAre vs (labelled label (present t) cs)) ms ks x r
        (λ y a. part_reads t ms ks y k r one.0 (λ z b. defined_reads t ms ks z k r one.0 b) a) (λ next ls z k r a. fields_reads cs next ls z k r one.1 a) (λ v vs ls us. fields_more label v vs t cs ls us) h

    cases_reads : (cs : Cases) (ms : List WrittenScope) (ks : List Known) (x : List WrittenScope × List (List ℕ × Option ValType)) → Kept 0 (meant mean) ms ks → Ready mean ms ks → OneTreeCases mean cs → write_cases cs ms ≡ Some x → Written ks ms x.0 (CasesAre x.1 cs)
    cases_reads no_case ms ks x k r one h = subst (λ (x : List WrittenScope × List (List ℕ × Option ValType)). Written ks ms x.0 (CasesAre x.1 no_case)) (same_Some _ _ h) (at_once 0 (meant mean) ks ms _ k (no_cases ks r.is_open))
    cases_reads (labelled label p cs) ms ks x k r one h = behind (λ v vs. (label, v) ∷ vs) (write_payload p ms) (write_cases cs) (λ v. PayloadIs v p) (λ vs. CasesAre vs cs) (λ vs. CasesAre vs (labelled label p cs)) ms ks x r
        (λ y a. payload_reads p ms ks y k r one.0 a) (λ next ls z k r a. cases_reads cs next ls z k r one.1 a) (λ v vs ls us. cases_more label v vs p cs ls us) h

    pub payload_reads : (p : Payload) (ms : List WrittenScope) (ks : List Known) (x : List WrittenScope × Option ValType) → Kept 0 (meant mean) ms ks → Ready mean ms ks → OneTreePayload mean p → write_payload p ms ≡ Some x → Written ks ms x.0 (PayloadIs x.1 p)
    payload_reads absent ms ks x k r one h = subst (λ (x : List WrittenScope × Option ValType). Written ks ms x.0 (PayloadIs x.1 absent)) (same_Some _ _ h) (at_once 0 (meant mean) ks ms _ k (no_payload ks r.is_open))
    payload_reads (present t) ms ks x k r one h = turned Some (write_value t ms) (λ v. PartIs v t) (λ v. PayloadIs v (present t)) ms ks x (λ y a. part_reads t ms ks y k r one (λ z b. defined_reads t ms ks z k r one b) a) (λ v ls. some_is v t ls) h

  -- a value type, as a part of another type
  pub value_reads : (t : ValueTree) (ms : List WrittenScope) (ks : List Known) (x : List WrittenScope × ValType) → Kept 0 (meant mean) ms ks → Ready mean ms ks → OneTree mean t → write_value t ms ≡ Some x → Written ks ms x.0 (PartIs x.1 t)
  value_reads t ms ks x k r one h = part_reads t ms ks x k r one (λ y a. defined_reads t ms ks y k r one a) h
