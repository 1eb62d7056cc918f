-- Value types in code as trees, and their parts as they are written.
use Rattle.std.proofs.Common.{◌≡◌, ℕ, zero, suc, ◌+◌, ◌<◌, ◌≤◌, length, drop, drop-cons, get_or, append-nil, append_assoc, arith, Vec, List, [], ◌∷◌, ◌++◌, map, Option, Some, None, refl, sym, ap, subst, ◌∙◌}
use Rattle.std.specs.Global.{Global}
use Rattle.std.specs.Prelude.{All, Box, IfSome, option_map, option_and_then, unwrap_or}
use Rattle.std.specs.List.{AllByRecursion}
use Rattle.std.proofs.lemmas.List.{drop_all, length-map}
use Rattle.std.proofs.lemmas.List.Elements.{All-from_recursion, recursion_from_All}
use Rattle.comp_format.specs.Forms.{IsDefined, AreLabels}
use Rattle.comp_format.specs.Types.{label_of}
use Rattle.comp_format.specs.declared.types.ValType.{ValType}
use Rattle.comp_format.specs.declared.types.DefinedType.{DefinedType}
use Rattle.comp_format.specs.declared.types.DefinedType.TheVariants as defined
use Rattle.comp_entity.specs.declared.entity.ValueShape.{ValueShape, fold-roll-ValueShape}
use Rattle.comp_entity.specs.declared.entity.ValueShape.TheOpen as layer
use Rattle.comp_entity.specs.declared.entity.ValueShape.TheVariants as made
use Rattle.comp_entity.specs.Entity.{Name, ValueTree, TupleOf, RecordOf, VariantOf, ListOf, OptionOf, ResultOf}
use Rattle.comp_entity.specs.Views.{value_tree, value_step, values_of, fields_of, cases_of, func_tree}
use Rattle.compose_writing.specs.Conditions.{labels_of, KeepsValue, KeepsValues, KeepsCases, KeepsPayload, KeepsFunc, HasPart}
use Rattle.comp_format.specs.Definitions as tree
use Rattle.comp_format.specs.Definitions.{DeclTree, TypeTree, Decls}
use Rattle.comp_format.specs.Views.{type_tree, decl_step, type_step, component_step, instance_step}
use Rattle.comp_format.specs.declared.types.FuncType.{FuncType}
use Rattle.comp_format.specs.declared.types.DefType.{fold-roll-DefType}
use Rattle.comp_format.specs.declared.types.DefType.TheVariants as def
use Rattle.comp_format.specs.declared.types.Decl.TheOpen as def_layer
use Rattle.comp_entity.specs.declared.entity.FuncShape.{FuncShape}
use Rattle.compose_writing.specs.Scopes.{WrittenScope, Wrote, wrote_as, on_top, add_type, then_type}
use Rattle.compose_writing.specs.WriteValues.{write_defined, write_value, write_parts, write_fields, write_cases, write_params, write_payload, write_result, write_func}
use Rattle.compose_types.specs.Values.{write_each, write_part, write_field, write_case, boxed_tree, field_tree, case_tree, held_tree}

-- ---- trees

pub tree_record : (p : Option Name) (fs : Vec (List ℕ × ValueShape) Global) → value_tree (made.RecordOf p fs) ≡ RecordOf p (fields_of (map field_tree fs.items))
tree_record p fs = ap value_tree (sym (made.rolls-RecordOf p fs)) ∙ fold-roll-ValueShape ValueTree value_step (layer.RecordOf p fs)

case_mapped : (f : List ℕ × Option ValueShape → List ℕ × Option ValueTree) → ((l : List ℕ) → f (l, None) ≡ (l, None)) → ((l : List ℕ) (v : ValueShape) → f (l, Some v) ≡ (l, Some (value_tree v))) → (l : List ℕ) (o : Option ValueShape) → f (l, o) ≡ (l, option_map value_tree o)
case_mapped f n s l None = n l
case_mapped f n s l (Some v) = s l v

cases_mapped : (f : List ℕ × Option ValueShape → List ℕ × Option ValueTree) → ((l : List ℕ) → f (l, None) ≡ (l, None)) → ((l : List ℕ) (v : ValueShape) → f (l, Some v) ≡ (l, Some (value_tree v))) → (p : Option Name) (xs : List (List ℕ × Option ValueShape)) (t : ValueTree) → t ≡ VariantOf p (cases_of (map f xs)) → t ≡ VariantOf p (cases_of (map case_tree xs))
cases_mapped f n s p xs t e = e ∙ ap (λ (g : List ℕ × Option ValueShape → List ℕ × Option ValueTree). VariantOf p (cases_of (map g xs))) (λ i x. case_mapped f n s x.0 x.1 i)

pub tree_variant : (p : Option Name) (fs : Vec (List ℕ × Option ValueShape) Global) → value_tree (made.VariantOf p fs) ≡ VariantOf p (cases_of (map case_tree fs.items))
tree_variant p fs = cases_mapped _ (λ l. refl) (λ l v. refl) p fs.items (value_tree (made.VariantOf p fs)) (ap value_tree (sym (made.rolls-VariantOf p fs)) ∙ fold-roll-ValueShape ValueTree value_step (layer.VariantOf p fs))

pub tree_tuple : (ts : Vec ValueShape Global) → value_tree (made.TupleOf ts) ≡ TupleOf (values_of (map value_tree ts.items))
tree_tuple ts = ap value_tree (sym (made.rolls-TupleOf ts)) ∙ fold-roll-ValueShape ValueTree value_step (layer.TupleOf ts)

pub tree_result : (ok err : Option (Box ValueShape Global)) → value_tree (made.ResultOf ok err) ≡ ResultOf (boxed_tree ok) (boxed_tree err)
tree_result None None = ap value_tree (sym (made.rolls-ResultOf None None)) ∙ fold-roll-ValueShape ValueTree value_step (layer.ResultOf None None)
tree_result None (Some e) = ap value_tree (sym (made.rolls-ResultOf None (Some e))) ∙ fold-roll-ValueShape ValueTree value_step (layer.ResultOf None (Some e))
tree_result (Some t) None = ap value_tree (sym (made.rolls-ResultOf (Some t) None)) ∙ fold-roll-ValueShape ValueTree value_step (layer.ResultOf (Some t) None)
tree_result (Some t) (Some e) = ap value_tree (sym (made.rolls-ResultOf (Some t) (Some e))) ∙ fold-roll-ValueShape ValueTree value_step (layer.ResultOf (Some t) (Some e))

pub tree_list : (t : Box ValueShape Global) → value_tree (made.ListOf t) ≡ ListOf (value_tree t.value)
tree_list t = ap value_tree (sym (made.rolls-ListOf t)) ∙ fold-roll-ValueShape ValueTree value_step (layer.ListOf t)

pub tree_option : (t : Box ValueShape Global) → value_tree (made.OptionOf t) ≡ OptionOf (value_tree t.value)
tree_option t = ap value_tree (sym (made.rolls-OptionOf t)) ∙ fold-roll-ValueShape ValueTree value_step (layer.OptionOf t)

-- ---- one after the other

unfoldable pub then_each : {Y : Type 0} → List Y → Wrote (List Y) → Wrote (List Y)
then_each done w = option_map (λ x. (x.0, done ++ x.1)) w

module _ {X Y : Type 0} (one : X → List WrittenScope → Wrote Y) where
  pub each_begin : (xs : List X) (ms : List WrittenScope) → then_each [] (write_each one (drop 0 xs) ms) ≡ write_each one xs ms
  unfolding then_each
  each_begin xs ms = same (write_each one xs ms)
    where
      same : (w : Wrote (List Y)) → option_map (λ x. (x.0, x.1)) w ≡ w
      same None = refl
      same (Some x) = refl

  pub each_end : (xs : List X) (i : ℕ) (done : List Y) (ms : List WrittenScope) (all : Wrote (List Y)) → length xs ≤ i → then_each done (write_each one (drop i xs) ms) ≡ all → all ≡ Some (ms, done)
  unfolding then_each write_each
  each_end xs i done ms all le h = sym h ∙ rw drop_all (ap (λ ds. Some (ms, ds)) (append-nil done))

  pub each_step : (xs : List X) (i : ℕ) (x : X) (done : List Y) (ms next : List WrittenScope) (y : Y) → i < length xs → x ≡ get_or xs i x → one x ms ≡ Some (next, y)
      → then_each (done ++ y ∷ []) (write_each one (drop (i + 1) xs) next) ≡ then_each done (write_each one (drop i xs) ms)
  unfolding then_each write_each
  each_step xs i x done ms next y lt is h =
      let more_by_one : suc i ≡ i + 1 = omega arith in
      let cut : drop i xs ≡ x ∷ drop (i + 1) xs = drop-cons xs i x lt ∙ ap (λ z. z ∷ drop (suc i) xs) (sym is) ∙ ap (λ n. x ∷ drop n xs) more_by_one in
      rw cut (sym (behind (write_each one (drop (i + 1) xs) next)) ∙ ap after (sym h))
    where
      later : Y → Wrote (List Y) → Wrote (List Y)
      later y w = wrote_as (λ ys. y ∷ ys) w

      after : Wrote Y → Wrote (List Y)
      after o = then_each done (option_and_then (λ z. later z.1 (write_each one (drop (i + 1) xs) z.0)) o)

      behind : (w : Wrote (List Y)) → then_each done (later y w) ≡ then_each (done ++ y ∷ []) w
      behind None = refl
      behind (Some z) = ap (λ ds. Some (z.0, ds)) (sym (append_assoc done (y ∷ []) z.1))

-- ---- lists of parts as trees

parts_keep : (ts : List ValueShape) → KeepsValues (values_of (map value_tree ts)) → AllByRecursion (λ t. KeepsValue (value_tree t)) ts
parts_keep [] k = tt
parts_keep (t ∷ ts) k = (k.0, parts_keep ts k.1)

fields_keep : (fs : List (List ℕ × ValueShape)) → KeepsCases (fields_of (map field_tree fs)) → AllByRecursion (λ f. KeepsValue (value_tree f.1)) fs
fields_keep [] k = tt
fields_keep (f ∷ fs) k = (k.0, fields_keep fs k.1)

cases_keep : (cs : List (List ℕ × Option ValueShape)) → KeepsCases (cases_of (map case_tree cs)) → AllByRecursion (λ c. KeepsPayload (held_tree c.1)) cs
cases_keep [] k = tt
cases_keep (c ∷ cs) k = (k.0, cases_keep cs k.1)

pub tuple_keeps : (ty : ValueShape) (ts : Vec ValueShape Global) → ty ≡ made.TupleOf ts → KeepsValue (value_tree ty) → All (λ t. KeepsValue (value_tree t)) ts.items
tuple_keeps ty ts is k = All-from_recursion (λ t. KeepsValue (value_tree t)) ts.items (parts_keep ts.items (rw (is, tree_tuple ts) at k).1)

pub record_keeps : (ty : ValueShape) (p : Option Name) (fs : Vec (List ℕ × ValueShape) Global) → ty ≡ made.RecordOf p fs → KeepsValue (value_tree ty) → All (λ f. KeepsValue (value_tree f.1)) fs.items
record_keeps ty p fs is k = All-from_recursion (λ f. KeepsValue (value_tree f.1)) fs.items (fields_keep fs.items (rw (is, tree_record p fs) at k).2)

pub variant_keeps : (ty : ValueShape) (p : Option Name) (cs : Vec (List ℕ × Option ValueShape) Global) → ty ≡ made.VariantOf p cs → KeepsValue (value_tree ty) → All (λ c. KeepsPayload (held_tree c.1)) cs.items
variant_keeps ty p cs is k = All-from_recursion (λ c. KeepsPayload (held_tree c.1)) cs.items (cases_keep cs.items (rw (is, tree_variant p cs) at k).1)

pub parts_written : (ts : List ValueShape) (ms : List WrittenScope) → write_parts (values_of (map value_tree ts)) ms ≡ write_each write_part ts ms
unfolding write_each write_defined
parts_written [] ms = refl
parts_written (t ∷ ts) ms = one (λ next. parts_written ts next) (write_part t ms)
  where
    one : ((next : List WrittenScope) → write_parts (values_of (map value_tree ts)) next ≡ write_each write_part ts next) → (w : Wrote ValType)
        → option_and_then (λ x. wrote_as (λ us. x.1 ∷ us) (write_parts (values_of (map value_tree ts)) x.0)) w ≡ option_and_then (λ x. wrote_as (λ us. x.1 ∷ us) (write_each write_part ts x.0)) w
    one h None = refl
    one h (Some x) = ap (wrote_as (λ us. x.1 ∷ us)) (h x.0)

pub fields_written : (fs : List (List ℕ × ValueShape)) (ms : List WrittenScope) → write_fields (fields_of (map field_tree fs)) ms ≡ write_each write_field fs ms
unfolding write_each write_defined
fields_written [] ms = refl
fields_written (f ∷ fs) ms = one (λ next. fields_written fs next) (write_part f.1 ms)
  where
    one : ((next : List WrittenScope) → write_fields (fields_of (map field_tree fs)) next ≡ write_each write_field fs next) → (w : Wrote ValType)
        → option_and_then (λ x. wrote_as (λ us. (f.0, x.1) ∷ us) (write_fields (fields_of (map field_tree fs)) x.0)) w
        ≡ option_and_then (λ x. wrote_as (λ us. x.1 ∷ us) (write_each write_field fs x.0)) (wrote_as (λ t. (f.0, t)) w)
    one h None = refl
    one h (Some x) = ap (wrote_as (λ us. (f.0, x.1) ∷ us)) (h x.0)

pub params_written : (fs : List (List ℕ × ValueShape)) (ms : List WrittenScope) → write_params (map field_tree fs) ms ≡ write_each write_field fs ms
unfolding write_each write_params
params_written [] ms = refl
params_written (f ∷ fs) ms = one (λ next. params_written fs next) (write_part f.1 ms)
  where
    one : ((next : List WrittenScope) → write_params (map field_tree fs) next ≡ write_each write_field fs next) → (w : Wrote ValType)
        → option_and_then (λ x. wrote_as (λ us. (f.0, x.1) ∷ us) (write_params (map field_tree fs) x.0)) w
        ≡ option_and_then (λ x. wrote_as (λ us. x.1 ∷ us) (write_each write_field fs x.0)) (wrote_as (λ t. (f.0, t)) w)
    one h None = refl
    one h (Some x) = ap (wrote_as (λ us. (f.0, x.1) ∷ us)) (h x.0)

pub cases_written : (cs : List (List ℕ × Option ValueShape)) (ms : List WrittenScope) → write_cases (cases_of (map case_tree cs)) ms ≡ write_each write_case cs ms
unfolding write_each write_defined
cases_written [] ms = refl
cases_written (c ∷ cs) ms = one (λ next. cases_written cs next) (write_payload (held_tree c.1) ms)
  where
    one : ((next : List WrittenScope) → write_cases (cases_of (map case_tree cs)) next ≡ write_each write_case cs next) → (w : Wrote (Option ValType))
        → option_and_then (λ x. wrote_as (λ us. (c.0, x.1) ∷ us) (write_cases (cases_of (map case_tree cs)) x.0)) w
        ≡ option_and_then (λ x. wrote_as (λ us. x.1 ∷ us) (write_each write_case cs x.0)) (wrote_as (λ t. (c.0, t)) w)
    one h None = refl
    one h (Some x) = ap (wrote_as (λ us. (c.0, x.1) ∷ us)) (h x.0)

pub tuple_written : (ty : ValueShape) (ts : Vec ValueShape Global) (ms next : List WrittenScope) (us : List ValType) → ty ≡ made.TupleOf ts → write_each write_part ts.items ms ≡ Some (next, us) → write_defined (value_tree ty) ms ≡ Some (next, defined.TupleOf us)
unfolding write_defined
tuple_written ty ts ms next us is h = rw (is, tree_tuple ts) (ap (wrote_as defined.TupleOf) (parts_written ts.items ms ∙ h))

pub record_written : (ty : ValueShape) (p : Option Name) (fs : Vec (List ℕ × ValueShape) Global) (ms next : List WrittenScope) (us : List (List ℕ × ValType)) → ty ≡ made.RecordOf p fs → write_each write_field fs.items ms ≡ Some (next, us) → write_defined (value_tree ty) ms ≡ Some (next, defined.RecordOf us)
unfolding write_defined
record_written ty p fs ms next us is h = rw (is, tree_record p fs) (ap (wrote_as defined.RecordOf) (fields_written fs.items ms ∙ h))

pub variant_written : (ty : ValueShape) (p : Option Name) (cs : Vec (List ℕ × Option ValueShape) Global) (ms next : List WrittenScope) (us : List (List ℕ × Option ValType)) → ty ≡ made.VariantOf p cs → write_each write_case cs.items ms ≡ Some (next, us) → write_defined (value_tree ty) ms ≡ Some (next, defined.VariantOf us)
unfolding write_defined
variant_written ty p cs ms next us is h = rw (is, tree_variant p cs) (ap (wrote_as defined.VariantOf) (cases_written cs.items ms ∙ h))

-- ---- forms

some_is : {X : Type 0} {a b : X} → Some a ≡ Some b → a ≡ b
some_is {a = a} e = ap (λ o. unwrap_or o a) e

-- what is told alike of each thing and of what was written for it
pub each_told : {X Y Z : Type 0} (one : X → List WrittenScope → Wrote Y) (f : X → Z) (g : Y → Z) → ((x : X) (ms next : List WrittenScope) (y : Y) → one x ms ≡ Some (next, y) → g y ≡ f x)
    → (xs : List X) (ms next : List WrittenScope) (ys : List Y) → write_each one xs ms ≡ Some (next, ys) → map g ys ≡ map f xs
unfolding write_each
each_told one f g alike [] ms next ys e = ap (λ x. map g x.1) (sym (some_is e))
each_told {X = X} {Y = Y} {Z = Z} one f g alike (x ∷ xs) ms next ys e = first (λ m later zs h. each_told one f g alike xs m later zs h) (one x ms) refl e
  where
    then_all : (y : List WrittenScope × Y) → one x ms ≡ Some y → ((later : List WrittenScope) (zs : List Y) → write_each one xs y.0 ≡ Some (later, zs) → map g zs ≡ map f xs) → (v : Wrote (List Y)) → write_each one xs y.0 ≡ v → wrote_as (λ us. y.1 ∷ us) v ≡ Some (next, ys) → map g ys ≡ f x ∷ map f xs
    then_all y is rest None v e = absurd cc
    then_all y is rest (Some z) v e = ap (λ p. map g p.1) (sym (some_is e)) ∙ ap (λ h. h ∷ map g z.1) (alike x ms y.0 y.1 is) ∙ ap (λ t. f x ∷ t) (rest z.0 z.1 v)

    first : ((m later : List WrittenScope) (zs : List Y) → write_each one xs m ≡ Some (later, zs) → map g zs ≡ map f xs) → (w : Wrote Y) → one x ms ≡ w → option_and_then (λ y. wrote_as (λ us. y.1 ∷ us) (write_each one xs y.0)) w ≡ Some (next, ys) → map g ys ≡ f x ∷ map f xs
    first all None is e = absurd cc
    first all (Some y) is e = then_all y is (all y.0) (write_each one xs y.0) refl e

label_told : {X Y : Type 0} (one : X → List WrittenScope → Wrote Y) (x : List ℕ × X) (ms next : List WrittenScope) (y : List ℕ × Y) → wrote_as (λ t. (x.0, t)) (one x.1 ms) ≡ Some (next, y) → y.0 ≡ x.0
label_told {X = X} {Y = Y} one x ms next y e = told (one x.1 ms) e
  where
    told : (w : Wrote Y) → wrote_as (λ t. (x.0, t)) w ≡ Some (next, y) → y.0 ≡ x.0
    told None e = absurd cc
    told (Some z) e = ap (λ p. p.1.0) (sym (some_is e))

pub fields_told : (fs : List (List ℕ × ValueShape)) (ms next : List WrittenScope) (us : List (List ℕ × ValType)) → write_each write_field fs ms ≡ Some (next, us) → map label_of us ≡ map (λ f. f.0) fs
fields_told fs ms next us e = each_told write_field (λ f. f.0) label_of (λ x m n y h. label_told write_part x m n y h) fs ms next us e

pub cases_told : (cs : List (List ℕ × Option ValueShape)) (ms next : List WrittenScope) (us : List (List ℕ × Option ValType)) → write_each write_case cs ms ≡ Some (next, us) → map label_of us ≡ map (λ c. c.0) cs
cases_told cs ms next us e = each_told write_case (λ c. c.0) label_of (λ x m n y h. label_told (λ h m. write_payload (held_tree h) m) x m n y h) cs ms next us e

field_labels : (fs : List (List ℕ × ValueShape)) → labels_of (fields_of (map field_tree fs)) ≡ map (λ f. f.0) fs
field_labels [] = refl
field_labels (f ∷ fs) = ap (λ ls. f.0 ∷ ls) (field_labels fs)

case_labels : (cs : List (List ℕ × Option ValueShape)) → labels_of (cases_of (map case_tree cs)) ≡ map (λ c. c.0) cs
case_labels [] = refl
case_labels (c ∷ cs) = ap (λ ls. c.0 ∷ ls) (case_labels cs)

labelled_form : {X : Type 0} (us : List (List ℕ × X)) (ls : List (List ℕ)) → map label_of us ≡ ls → (0 < length ls) × AreLabels ls → (0 < length us) × AreLabels (map label_of us)
labelled_form us ls e k = (rw (sym (length-map us label_of), e) k.0, rw e k.1)

pub record_form : (ty : ValueShape) (p : Option Name) (fs : Vec (List ℕ × ValueShape) Global) (ms next : List WrittenScope) (us : List (List ℕ × ValType)) → ty ≡ made.RecordOf p fs → KeepsValue (value_tree ty) → write_each write_field fs.items ms ≡ Some (next, us) → IsDefined (defined.RecordOf us)
record_form ty p fs ms next us is k e = labelled_form us (labels_of (fields_of (map field_tree fs.items))) (fields_told fs.items ms next us e ∙ sym (field_labels fs.items)) (rw (is, tree_record p fs) at k).0

pub variant_form : (ty : ValueShape) (p : Option Name) (cs : Vec (List ℕ × Option ValueShape) Global) (ms next : List WrittenScope) (us : List (List ℕ × Option ValType)) → ty ≡ made.VariantOf p cs → KeepsValue (value_tree ty) → write_each write_case cs.items ms ≡ Some (next, us) → IsDefined (defined.VariantOf us)
variant_form ty p cs ms next us is k e = labelled_form us (labels_of (cases_of (map case_tree cs.items))) (cases_told cs.items ms next us e ∙ sym (case_labels cs.items)) (rw (is, tree_variant p cs) at k).0

has_part : (ts : List ValueShape) → HasPart (values_of (map value_tree ts)) → 0 < length ts
has_part [] h = absurd h
has_part (t ∷ ts) h = omega arith

pub tuple_form : (ty : ValueShape) (ts : Vec ValueShape Global) (ms next : List WrittenScope) (us : List ValType) → ty ≡ made.TupleOf ts → KeepsValue (value_tree ty) → write_each write_part ts.items ms ≡ Some (next, us) → IsDefined (defined.TupleOf us)
tuple_form ty ts ms next us is k e =
    rw (sym (length-map us (λ u. zero)), each_told write_part (λ t. zero) (λ u. zero) (λ x m n y h. refl) ts.items ms next us e, length-map ts.items (λ t. zero)) (has_part ts.items (rw (is, tree_tuple ts) at k).0)

-- ---- cases

pub case_none : (c : List ℕ × Option ValueShape) (ms : List WrittenScope) → c.1 ≡ None → write_case c ms ≡ Some (ms, (c.0, None))
unfolding write_defined
case_none c ms is = ap (λ h. wrote_as (λ t. (c.0, t)) (write_payload (held_tree h) ms)) is

pub case_some : (c : List ℕ × Option ValueShape) (held : ValueShape) (ms next : List WrittenScope) (t : ValType) → c.1 ≡ Some held → write_value (value_tree held) ms ≡ Some (next, t) → write_case c ms ≡ Some (next, (c.0, Some t))
unfolding write_defined
case_some c held ms next t is h = ap (λ h. wrote_as (λ t. (c.0, t)) (write_payload (held_tree h) ms)) is ∙ ap (λ w. wrote_as (λ t. (c.0, t)) (wrote_as Some w)) h

pub case_keeps : (cs : List (List ℕ × Option ValueShape)) (i : ℕ) (c : List ℕ × Option ValueShape) (held : ValueShape) → All (λ c. KeepsPayload (held_tree c.1)) cs → i < length cs → c ≡ get_or cs i c → c.1 ≡ Some held → KeepsValue (value_tree held)
case_keeps cs i c held keeps lt is some = rw (sym is, some) at (keeps i c lt)

-- ---- functions

params_keep : (fs : List (List ℕ × ValueShape)) → AllByRecursion (λ p. KeepsValue p.1) (map field_tree fs) → AllByRecursion (λ f. KeepsValue (value_tree f.1)) fs
params_keep [] k = tt
params_keep (f ∷ fs) k = (k.0, params_keep fs k.1)

pub func_keeps : (f : FuncShape) → KeepsFunc (func_tree f) → All (λ p. KeepsValue (value_tree p.1)) f.params.items
func_keeps f k = All-from_recursion (λ p. KeepsValue (value_tree p.1)) f.params.items (params_keep f.params.items (recursion_from_All (λ p. KeepsValue p.1) (map field_tree f.params.items) k.1))

pub result_keeps : (r : Option ValueShape) → IfSome (option_map value_tree r) KeepsValue → KeepsPayload (held_tree r)
result_keeps None k = tt
result_keeps (Some t) k = k

pub result_written : (r : Option ValueShape) (ms : List WrittenScope) → write_result (option_map value_tree r) ms ≡ write_payload (held_tree r) ms
unfolding write_result write_defined
result_written None ms = refl
result_written (Some t) ms = refl

param_labels : (fs : List (List ℕ × ValueShape)) → map (λ p. p.0) (map field_tree fs) ≡ map (λ f. f.0) fs
param_labels [] = refl
param_labels (f ∷ fs) = ap (λ ls. f.0 ∷ ls) (param_labels fs)

pub func_form : (f : FuncShape) (ms next : List WrittenScope) (ps : List (List ℕ × ValType)) → KeepsFunc (func_tree f) → write_each write_field f.params.items ms ≡ Some (next, ps) → AreLabels (map label_of ps)
func_form f ms next ps k e = rw (fields_told f.params.items ms next ps e) (subst AreLabels (param_labels f.params.items) k.0)

pub func_written : (f : FuncShape) (ms next last end : List WrittenScope) (ps : List (List ℕ × ValType)) (r : Option ValType) (i : ℕ) → write_each write_field f.params.items ms ≡ Some (next, ps) → write_payload (held_tree f.result) next ≡ Some (last, r)
    → on_top (add_type (tree.Func (record { params = ps; result = r }))) last ≡ Some (end, i) → write_func (func_tree f) ms ≡ Some (end, i)
unfolding write_func
func_written f ms next last end ps r i a b h =
    ap (λ w. then_type (option_and_then (λ ps. wrote_as (λ r. tree.Func (record { params = ps.1; result = r })) (write_result (option_map value_tree f.result) ps.0)) w)) (params_written f.params.items ms ∙ a)
    ∙ ap (λ w. then_type (wrote_as (λ r. tree.Func (record { params = ps; result = r })) w)) (result_written f.result next ∙ b) ∙ h

pub tree_func : (f : FuncType) → type_tree (def.Func f) ≡ tree.Func f
tree_func f = ap type_tree (sym (def.rolls-Func f)) ∙ fold-roll-DefType DeclTree TypeTree Decls Decls decl_step type_step component_step instance_step (def_layer.Func f)

pub tree_defined : (t : DefinedType) → type_tree (def.Defined t) ≡ tree.Defined t
tree_defined t = ap type_tree (sym (def.rolls-Defined t)) ∙ fold-roll-DefType DeclTree TypeTree Decls Decls decl_step type_step component_step instance_step (def_layer.Defined t)
