-- What holds of the mentions of a value type holds of those of the type in other names.
use Rattle.std.proofs.Common.{◌≡◌, ℕ, List, ◌++◌, Option, Some, None, refl, ap}
use Rattle.comp_entity.specs.Entity.{Name, ValueTree, Primitive, TupleOf, RecordOf, VariantOf, ListOf, FlagsOf, EnumOf, OptionOf, ResultOf, Own, Borrow, ValueTrees, none, more, Cases, no_case, labelled, Payload, absent, present}
use Rattle.comp_entity.specs.Names.{Change, place_by, value_by, values_by, cases_by, payload_by, Mention, OfResource, OfPlace, at_place, in_value, in_values, in_cases, in_payload}
use Rattle.compose_meaning.proofs.ListLaws.{Each, each_both, each_left, each_right}

module _ (d : ℕ) (a b : Change) (P Q : ℕ × Mention → Type 0) (resource : (r : Name) → P (d, OfResource (a.resource d r)) → Q (d, OfResource (b.resource d r))) (place : (n : Name) → Q (d, OfPlace n)) where
  each_place : (p : Option Name) → Each Q (at_place d p)
  each_place None = tt
  each_place (Some n) = (place n, tt)

  behind : (p q : Option Name) (xs ys : List (ℕ × Mention)) → (Each P xs → Each Q ys) → Each P (at_place d p ++ xs) → Each Q (at_place d q ++ ys)
  behind p q xs ys f h = each_both Q (at_place d q) ys (each_place q) (f (each_right P (at_place d p) xs h))

  two : (vs ws xs ys : List (ℕ × Mention)) → (Each P vs → Each Q xs) → (Each P ws → Each Q ys) → Each P (vs ++ ws) → Each Q (xs ++ ys)
  two vs ws xs ys f g h = each_both Q xs ys (f (each_left P vs ws h)) (g (each_right P vs ws h))

  mutual
    pub value_each : (t : ValueTree) → Each P (in_value d (value_by a d t)) → Each Q (in_value d (value_by b d t))
    value_each (Primitive p) h = tt
    value_each (TupleOf parts) h = values_each parts h
    value_each (RecordOf p fields) h = behind (place_by a d p) (place_by b d p) (in_cases d (cases_by a d fields)) (in_cases d (cases_by b d fields)) (λ h. cases_each fields h) h
    value_each (VariantOf p cases) h = behind (place_by a d p) (place_by b d p) (in_cases d (cases_by a d cases)) (in_cases d (cases_by b d cases)) (λ h. cases_each cases h) h
    value_each (ListOf t) h = value_each t h
    value_each (FlagsOf p labels) h = each_place (place_by b d p)
    value_each (EnumOf p labels) h = each_place (place_by b d p)
    value_each (OptionOf t) h = value_each t h
    value_each (ResultOf ok err) h = two (in_payload d (payload_by a d ok)) (in_payload d (payload_by a d err)) (in_payload d (payload_by b d ok)) (in_payload d (payload_by b d err)) (λ h. payload_each ok h) (λ h. payload_each err h) h
    value_each (Own r) h = (resource r h.0, tt)
    value_each (Borrow r) h = (resource r h.0, tt)

    values_each : (ts : ValueTrees) → Each P (in_values d (values_by a d ts)) → Each Q (in_values d (values_by b d ts))
    values_each none h = tt
    values_each (more t ts) h = two (in_value d (value_by a d t)) (in_values d (values_by a d ts)) (in_value d (value_by b d t)) (in_values d (values_by b d ts)) (λ h. value_each t h) (λ h. values_each ts h) h

    cases_each : (cs : Cases) → Each P (in_cases d (cases_by a d cs)) → Each Q (in_cases d (cases_by b d cs))
    cases_each no_case h = tt
    cases_each (labelled label p cs) h = two (in_payload d (payload_by a d p)) (in_cases d (cases_by a d cs)) (in_payload d (payload_by b d p)) (in_cases d (cases_by b d cs)) (λ h. payload_each p h) (λ h. cases_each cs h) h

    payload_each : (p : Payload) → Each P (in_payload d (payload_by a d p)) → Each Q (in_payload d (payload_by b d p))
    payload_each absent h = tt
    payload_each (present t) h = value_each t h

-- two changes that change alike what is mentioned
module _ (d : ℕ) (a b : Change) (P : ℕ × Mention → Type 0) (resource : (r : Name) → P (d, OfResource r) → a.resource d r ≡ b.resource d r) (place : (p : Option Name) → place_by a d p ≡ place_by b d p) where
  mutual
    pub value_alike : (t : ValueTree) → Each P (in_value d t) → value_by a d t ≡ value_by b d t
    value_alike (Primitive p) h = refl
    value_alike (TupleOf parts) h = ap TupleOf (values_alike parts h)
    value_alike (RecordOf p fields) h = λ i. RecordOf (place p i) (cases_alike fields (each_right P (at_place d p) (in_cases d fields) h) i)
    value_alike (VariantOf p cases) h = λ i. VariantOf (place p i) (cases_alike cases (each_right P (at_place d p) (in_cases d cases) h) i)
    value_alike (ListOf t) h = ap ListOf (value_alike t h)
    value_alike (FlagsOf p labels) h = ap (λ p. FlagsOf p labels) (place p)
    value_alike (EnumOf p labels) h = ap (λ p. EnumOf p labels) (place p)
    value_alike (OptionOf t) h = ap OptionOf (value_alike t h)
    value_alike (ResultOf ok err) h = λ i. ResultOf (payload_alike ok (each_left P (in_payload d ok) (in_payload d err) h) i) (payload_alike err (each_right P (in_payload d ok) (in_payload d err) h) i)
    value_alike (Own r) h = ap Own (resource r h.0)
    value_alike (Borrow r) h = ap Borrow (resource r h.0)

    values_alike : (ts : ValueTrees) → Each P (in_values d ts) → values_by a d ts ≡ values_by b d ts
    values_alike none h = refl
    values_alike (more t ts) h = λ i. more (value_alike t (each_left P (in_value d t) (in_values d ts) h) i) (values_alike ts (each_right P (in_value d t) (in_values d ts) h) i)

    cases_alike : (cs : Cases) → Each P (in_cases d cs) → cases_by a d cs ≡ cases_by b d cs
    cases_alike no_case h = refl
    cases_alike (labelled label p cs) h = λ i. labelled label (payload_alike p (each_left P (in_payload d p) (in_cases d cs) h) i) (cases_alike cs (each_right P (in_payload d p) (in_cases d cs) h) i)

    payload_alike : (p : Payload) → Each P (in_payload d p) → payload_by a d p ≡ payload_by b d p
    payload_alike absent h = refl
    payload_alike (present t) h = ap present (value_alike t h)
