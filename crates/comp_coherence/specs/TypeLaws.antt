-- Types that are equal are one tree, and a place of a type stands for it.
use Rattle.std.proofs.Common.{◌≡◌, ℕ, Bool, true, false, ◌&&◌, List, [], ◌∷◌, Option, Some, None, refl, sym, ap, ◌∙◌}
use Rattle.std.specs.Prelude.{◌==◌}
use Rattle.std.specs.Str.{bytes_eq}
use Rattle.std.specs.Cmp.Lexicographic.{pointwise, same_text}
use Rattle.std.proofs.lemmas.Bool.{eqb-true}
use Rattle.comp_format.specs.Types.{primitive_code, primitive_of}
use Rattle.comp_format.specs.declared.types.Primitive.{Primitive as PrimitiveType}
use Rattle.comp_format.specs.declared.types.Primitive.TheVariants as primitive
use Rattle.comp_entity.specs.Entity.{Name, ValueTree, Primitive, TupleOf, RecordOf, VariantOf, ListOf, FlagsOf, EnumOf, OptionOf, ResultOf, Own, Borrow, ValueTrees, none, more, Cases, no_case, labelled, Payload, absent, present}
use Rattle.comp_entity.specs.Names.{place_by, values_by, cases_by, payload_by, without_places}
use Rattle.comp_entity.specs.Fits.{same_name, values_equal, all_equal, cases_equal, payloads_equal, place_of}
use Rattle.comp_coherence.specs.Coherence.{Names, bare_value, OneTree}

-- both of two truths
pub left_of : (a b : Bool) → (a && b) ≡ true → a ≡ true
left_of true b h = refl
left_of false b h = h

pub right_of : (a b : Bool) → (a && b) ≡ true → b ≡ true
right_of true b h = h
right_of false b h = absurd cc

-- ---- equal types

pub same_is : (a b : Name) → same_name a b ≡ true → a ≡ b
same_is a b h =
    let out = eqb-true a.out b.out (left_of _ _ h) in
    let number = eqb-true a.number b.number (right_of (a.out == b.out) _ h) in
    λ i. record { out = out i; number = number i }

primitive_back : (p : PrimitiveType) → primitive_of (primitive_code p) ≡ Some p
primitive_back primitive.Bool = refl
primitive_back primitive.S8 = refl
primitive_back primitive.U8 = refl
primitive_back primitive.S16 = refl
primitive_back primitive.U16 = refl
primitive_back primitive.S32 = refl
primitive_back primitive.U32 = refl
primitive_back primitive.S64 = refl
primitive_back primitive.U64 = refl
primitive_back primitive.F32 = refl
primitive_back primitive.F64 = refl
primitive_back primitive.Char = refl
primitive_back primitive.Text = refl

primitive_is : (p q : PrimitiveType) → (primitive_code p == primitive_code q) ≡ true → p ≡ q
primitive_is p q h = let same : Some p ≡ Some q = sym (primitive_back p) ∙ ap primitive_of (eqb-true (primitive_code p) (primitive_code q) h) ∙ primitive_back q in cc

pub label_is : (l k : List ℕ) → bytes_eq l k ≡ true → l ≡ k
label_is l k h = same_text l k (sym h)

pub labels_are : (ls ks : List (List ℕ)) → pointwise bytes_eq ls ks ≡ true → ls ≡ ks
labels_are [] [] h = refl
labels_are [] (k ∷ ks) h = absurd cc
labels_are (l ∷ ls) [] h = absurd cc
labels_are (l ∷ ls) (k ∷ ks) h =
    let first = label_is l k (left_of _ _ h) in
    let rest = labels_are ls ks (right_of (bytes_eq l k) _ h) in
    λ i. first i ∷ rest i

no_place : (m n : Option Name) → place_by without_places 0 m ≡ place_by without_places 0 n
no_place None None = refl
no_place None (Some n) = refl
no_place (Some m) None = refl
no_place (Some m) (Some n) = refl

mutual
  pub value_is : (t u : ValueTree) → values_equal same_name t u ≡ true → bare_value t ≡ bare_value u
  value_is (Primitive p) (Primitive q) h = ap Primitive (primitive_is p q h)
  value_is (TupleOf ts) (TupleOf us) h = ap TupleOf (all_are ts us h)
  value_is (RecordOf m ts) (RecordOf n us) h = let cases = cases_are ts us h in let place = no_place m n in λ i. RecordOf (place i) (cases i)
  value_is (VariantOf m ts) (VariantOf n us) h = let cases = cases_are ts us h in let place = no_place m n in λ i. VariantOf (place i) (cases i)
  value_is (ListOf t) (ListOf u) h = ap ListOf (value_is t u h)
  value_is (FlagsOf m ls) (FlagsOf n ks) h = let labels = labels_are ls ks h in let place = no_place m n in λ i. FlagsOf (place i) (labels i)
  value_is (EnumOf m ls) (EnumOf n ks) h = let labels = labels_are ls ks h in let place = no_place m n in λ i. EnumOf (place i) (labels i)
  value_is (OptionOf t) (OptionOf u) h = ap OptionOf (value_is t u h)
  value_is (ResultOf t e) (ResultOf u f) h =
      let ok = payload_is t u (left_of _ _ h) in
      let err = payload_is e f (right_of (payloads_equal same_name t u) _ h) in
      λ i. ResultOf (ok i) (err i)
  value_is (Own r) (Own s) h = ap Own (same_is r s h)
  value_is (Borrow r) (Borrow s) h = ap Borrow (same_is r s h)
  value_is _ _ h = absurd cc

  all_are : (ts us : ValueTrees) → all_equal same_name ts us ≡ true → values_by without_places 0 ts ≡ values_by without_places 0 us
  all_are none none h = refl
  all_are none (more u us) h = absurd cc
  all_are (more t ts) none h = absurd cc
  all_are (more t ts) (more u us) h =
      let first = value_is t u (left_of _ _ h) in
      let rest = all_are ts us (right_of (values_equal same_name t u) _ h) in
      λ i. more (first i) (rest i)

  cases_are : (ts us : Cases) → cases_equal same_name ts us ≡ true → cases_by without_places 0 ts ≡ cases_by without_places 0 us
  cases_are no_case no_case h = refl
  cases_are no_case (labelled k u us) h = absurd cc
  cases_are (labelled l t ts) no_case h = absurd cc
  cases_are (labelled l t ts) (labelled k u us) h =
      let label = label_is l k (left_of _ _ (left_of _ _ h)) in
      let first = payload_is t u (right_of (bytes_eq l k) _ (left_of _ _ h)) in
      let rest = cases_are ts us (right_of (bytes_eq l k && payloads_equal same_name t u) _ h) in
      λ i. labelled (label i) (first i) (rest i)

  payload_is : (t u : Payload) → payloads_equal same_name t u ≡ true → payload_by without_places 0 t ≡ payload_by without_places 0 u
  payload_is absent absent h = refl
  payload_is absent (present u) h = absurd cc
  payload_is (present t) absent h = absurd cc
  payload_is (present t) (present u) h = ap present (value_is t u h)

-- the place of a type stands for it
pub place_stands : (names : Names) (t : ValueTree) (n : Name) → OneTree names t → place_of t ≡ Some n → names.tree n ≡ Some (bare_value t)
place_stands names (RecordOf (Some m) fs) n h is = let same : m ≡ n = cc in ap names.tree (sym same) ∙ h.0
place_stands names (VariantOf (Some m) cs) n h is = let same : m ≡ n = cc in ap names.tree (sym same) ∙ h.0
place_stands names (FlagsOf (Some m) ls) n h is = let same : m ≡ n = cc in ap names.tree (sym same) ∙ h
place_stands names (EnumOf (Some m) ls) n h is = let same : m ≡ n = cc in ap names.tree (sym same) ∙ h
place_stands names _ n h is = absurd cc
