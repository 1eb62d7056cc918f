-- Laws of equality: value types are equal exactly where they have one tree of heads without the places that named types.
use Rattle.std.specs.Prelude.{◌≡◌, ℕ, Bool, true, false, ◌&&◌, ◌==◌, List, [], ◌∷◌, Option, Some, None, refl}
use Rattle.std.specs.Cmp.Lexicographic.{pointwise, same_text}
use Rattle.std.specs.Str.{bytes_eq}
use Rattle.std.proofs.Common.{ap, sym, ◌∙◌}
use Rattle.std.proofs.lemmas.Bool.{eqb-true, eq-eqb}
use Rattle.comp_format.specs.declared.types.Primitive.{Primitive as PrimitiveType}
use Rattle.comp_format.specs.declared.types.Primitive.TheVariants as primitive
use Rattle.comp_format.specs.Types.{primitive_code, primitive_of}
use Rattle.comp_entity.specs.Entity.{Name, ValueTree, Primitive, TupleOf, RecordOf, VariantOf, ListOf, FlagsOf, EnumOf, OptionOf, ResultOf, Own, Borrow, ValueTrees, Cases, no_case, labelled, Payload, absent, present}
use Rattle.comp_entity.specs.Entity as entity
use Rattle.comp_entity.specs.Names.{without_places, place_by, value_by, values_by, cases_by, payload_by}
use Rattle.comp_entity.specs.Fits.{same_name, values_equal, all_equal, cases_equal, payloads_equal}

pub both : (a b : Bool) → a && b ≡ true → (a ≡ true) × (b ≡ true)
both true b e = (refl, e)
both false b e = absurd cc

pub both_hold : (a b : Bool) → a ≡ true → b ≡ true → a && b ≡ true
both_hold a b p q = ap (λ x. x && b) p ∙ q

pub name_same : (m n : Name) → same_name m n ≡ true → m ≡ n
name_same m n e =
    let h = both (m.out == n.out) (m.number == n.number) e in
    let out = eqb-true m.out n.out h.0 in
    let number = eqb-true m.number n.number h.1 in
    λ i. record { out = out i; number = number i }

pub name_itself : (n : Name) → same_name n n ≡ true
name_itself n = both_hold (n.out == n.out) (n.number == n.number) (eq-eqb n.out n.out refl) (eq-eqb n.number n.number refl)

pub label_same : (l k : List ℕ) → bytes_eq l k ≡ true → l ≡ k
label_same l k e = same_text l k (sym e)

pub label_itself : (l : List ℕ) → bytes_eq l l ≡ true
label_itself [] = refl
label_itself (b ∷ bs) = both_hold (b == b) (bytes_eq bs bs) (eq-eqb b b refl) (label_itself bs)

labels_same : (ls ks : List (List ℕ)) → pointwise bytes_eq ls ks ≡ true → ls ≡ ks
labels_same [] [] e = refl
labels_same [] (k ∷ ks) e = absurd cc
labels_same (l ∷ ls) [] e = absurd cc
labels_same (l ∷ ls) (k ∷ ks) e =
    let h = both (bytes_eq l k) (pointwise bytes_eq ls ks) e in λ i. label_same l k h.0 i ∷ labels_same ls ks h.1 i

labels_themselves : (ls : List (List ℕ)) → pointwise bytes_eq ls ls ≡ true
labels_themselves [] = refl
labels_themselves (l ∷ ls) = both_hold (bytes_eq l l) (pointwise bytes_eq ls ls) (label_itself l) (labels_themselves ls)

code_again : (p : PrimitiveType) → primitive_of (primitive_code p) ≡ Some p
code_again primitive.Bool = refl
code_again primitive.S8 = refl
code_again primitive.U8 = refl
code_again primitive.S16 = refl
code_again primitive.U16 = refl
code_again primitive.S32 = refl
code_again primitive.U32 = refl
code_again primitive.S64 = refl
code_again primitive.U64 = refl
code_again primitive.F32 = refl
code_again primitive.F64 = refl
code_again primitive.Char = refl
code_again primitive.Text = refl

abbrev or_bool : Option PrimitiveType → PrimitiveType
or_bool (Some p) = p
or_bool None = primitive.Bool

primitive_same : (p q : PrimitiveType) → primitive_code p == primitive_code q ≡ true → p ≡ q
primitive_same p q e = ap or_bool (sym (code_again p) ∙ ap primitive_of (eqb-true (primitive_code p) (primitive_code q) e) ∙ code_again q)

-- types that stand so many scopes deep, without the places that named types
module _ (d : ℕ) where
  place_bare : (p : Option Name) → place_by without_places d p ≡ None
  place_bare None = refl
  place_bare (Some n) = refl

  places_told : (p q : Option Name) → place_by without_places d p ≡ place_by without_places d q
  places_told p q = place_bare p ∙ sym (place_bare q)

  mutual
    pub value_told : (v w : ValueTree) → values_equal same_name v w ≡ true → value_by without_places d v ≡ value_by without_places d w
    value_told (Primitive p) (Primitive q) e = ap Primitive (primitive_same p q e)
    value_told (TupleOf ts) (TupleOf us) e = ap TupleOf (values_told ts us e)
    value_told (RecordOf m ts) (RecordOf n us) e = λ i. RecordOf (places_told m n i) (cases_told ts us e i)
    value_told (VariantOf m ts) (VariantOf n us) e = λ i. VariantOf (places_told m n i) (cases_told ts us e i)
    value_told (ListOf t) (ListOf u) e = ap ListOf (value_told t u e)
    value_told (FlagsOf m ls) (FlagsOf n ks) e = λ i. FlagsOf (places_told m n i) (labels_same ls ks e i)
    value_told (EnumOf m ls) (EnumOf n ks) e = λ i. EnumOf (places_told m n i) (labels_same ls ks e i)
    value_told (OptionOf t) (OptionOf u) e = ap OptionOf (value_told t u e)
    value_told (ResultOf t g) (ResultOf u f) e =
        let h = both (payloads_equal same_name t u) (payloads_equal same_name g f) e in λ i. ResultOf (payload_told t u h.0 i) (payload_told g f h.1 i)
    value_told (Own r) (Own s) e = ap Own (name_same r s e)
    value_told (Borrow r) (Borrow s) e = ap Borrow (name_same r s e)
    value_told v w e = absurd cc

    values_told : (ts us : ValueTrees) → all_equal same_name ts us ≡ true → values_by without_places d ts ≡ values_by without_places d us
    values_told entity.none entity.none e = refl
    values_told entity.none (entity.more u us) e = absurd cc
    values_told (entity.more t ts) entity.none e = absurd cc
    values_told (entity.more t ts) (entity.more u us) e =
        let h = both (values_equal same_name t u) (all_equal same_name ts us) e in λ i. entity.more (value_told t u h.0 i) (values_told ts us h.1 i)

    cases_told : (ts us : Cases) → cases_equal same_name ts us ≡ true → cases_by without_places d ts ≡ cases_by without_places d us
    cases_told no_case no_case e = refl
    cases_told no_case (labelled k u us) e = absurd cc
    cases_told (labelled l t ts) no_case e = absurd cc
    cases_told (labelled l t ts) (labelled k u us) e =
        let h = both (bytes_eq l k && payloads_equal same_name t u) (cases_equal same_name ts us) e in
        let g = both (bytes_eq l k) (payloads_equal same_name t u) h.0 in
        λ i. labelled (label_same l k g.0 i) (payload_told t u g.1 i) (cases_told ts us h.1 i)

    payload_told : (t u : Payload) → payloads_equal same_name t u ≡ true → payload_by without_places d t ≡ payload_by without_places d u
    payload_told absent absent e = refl
    payload_told absent (present u) e = absurd cc
    payload_told (present t) absent e = absurd cc
    payload_told (present t) (present u) e = ap present (value_told t u e)

mutual
  pub value_itself : (v : ValueTree) → values_equal same_name v v ≡ true
  value_itself (Primitive p) = eq-eqb (primitive_code p) (primitive_code p) refl
  value_itself (TupleOf ts) = values_themselves ts
  value_itself (RecordOf m ts) = cases_themselves ts
  value_itself (VariantOf m ts) = cases_themselves ts
  value_itself (ListOf t) = value_itself t
  value_itself (FlagsOf m ls) = labels_themselves ls
  value_itself (EnumOf m ls) = labels_themselves ls
  value_itself (OptionOf t) = value_itself t
  value_itself (ResultOf t d) = both_hold (payloads_equal same_name t t) (payloads_equal same_name d d) (payload_itself t) (payload_itself d)
  value_itself (Own r) = name_itself r
  value_itself (Borrow r) = name_itself r

  values_themselves : (ts : ValueTrees) → all_equal same_name ts ts ≡ true
  values_themselves entity.none = refl
  values_themselves (entity.more t ts) = both_hold (values_equal same_name t t) (all_equal same_name ts ts) (value_itself t) (values_themselves ts)

  cases_themselves : (ts : Cases) → cases_equal same_name ts ts ≡ true
  cases_themselves no_case = refl
  cases_themselves (labelled l t ts) =
      both_hold (bytes_eq l l && payloads_equal same_name t t) (cases_equal same_name ts ts)
      (both_hold (bytes_eq l l) (payloads_equal same_name t t) (label_itself l) (payload_itself t)) (cases_themselves ts)

  payload_itself : (t : Payload) → payloads_equal same_name t t ≡ true
  payload_itself absent = refl
  payload_itself (present t) = value_itself t
