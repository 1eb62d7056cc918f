-- A type of which each place names one tree does not stand within itself.
use Rattle.std.proofs.Common.{◌≡◌, ◌⊎◌, inl, inr, ◌+◌, ◌-◌, ◌≤◌, ℕ, Bool, true, false, List, [], ◌∷◌, ◌++◌, Option, Some, None, refl, sym, ap, subst, ◌∙◌, arith}
use Rattle.std.specs.Prelude.{max, nat_le, if◌then◌else◌}
use Rattle.comp_entity.specs.Entity.{Name, ValueTree, Primitive, TupleOf, RecordOf, VariantOf, ListOf, FlagsOf, EnumOf, OptionOf, ResultOf, Own, Borrow, ValueTrees, none, more, Cases, no_case, labelled, Payload, absent, present}
use Rattle.comp_entity.specs.Bounds.{value_depth, parts_depth, cases_depth, payload_depth}
use Rattle.comp_entity.specs.Names.{Change, Mention, at_place, in_value, in_values, in_cases, in_payload, value_by, values_by, cases_by, payload_by, without_places}
use Rattle.compose_left.specs.declared.spots.Thing.{Thing}
use Rattle.compose_left.specs.Spots.{named_type, resource}
use Rattle.compose_needs.specs.Mentioned.{has, around, outwards}
use Rattle.compose_meaning.specs.Meaning.{IsNamed, Meaning, OneTree, OneTreeCases, OneTreePayload, OneTrees}
use Rattle.compose_known.specs.InOrder.{IsApart}
use Rattle.compose_known.proofs.MentionLaws.{has_either, has_one, outwards-append}

-- ---- depths

module _ (c : Change) (d : ℕ) where
  mutual
    value_deep : (t : ValueTree) → value_depth (value_by c d t) ≡ value_depth t
    value_deep (Primitive p) = refl
    value_deep (TupleOf ts) = ap (λ n. 1 + n) (values_deep ts)
    value_deep (RecordOf p cs) = ap (λ n. 1 + n) (cases_deep cs)
    value_deep (VariantOf p cs) = ap (λ n. 1 + n) (cases_deep cs)
    value_deep (ListOf t) = ap (λ n. 1 + n) (value_deep t)
    value_deep (FlagsOf p ls) = refl
    value_deep (EnumOf p ls) = refl
    value_deep (OptionOf t) = ap (λ n. 1 + n) (value_deep t)
    value_deep (ResultOf ok err) = λ i. 1 + max (payload_deep ok i) (payload_deep err i)
    value_deep (Own r) = refl
    value_deep (Borrow r) = refl

    values_deep : (ts : ValueTrees) → parts_depth (values_by c d ts) ≡ parts_depth ts
    values_deep none = refl
    values_deep (more t ts) = λ i. max (value_deep t i) (values_deep ts i)

    cases_deep : (cs : Cases) → cases_depth (cases_by c d cs) ≡ cases_depth cs
    cases_deep no_case = refl
    cases_deep (labelled label p cs) = λ i. max (payload_deep p i) (cases_deep cs i)

    payload_deep : (p : Payload) → payload_depth (payload_by c d p) ≡ payload_depth p
    payload_deep absent = refl
    payload_deep (present t) = value_deep t

-- ---- what is mentioned of a place

no_resource : (r n : Name) → has (around resource 0 r ++ []) (named_type n) ≡ true → ⊥
no_resource r n h = one (nat_le 0 r.out) h
  where
    no : (x : Thing) → x.is_type ≡ false → has (x ∷ []) (named_type n) ≡ true → ⊥
    no x e h = go (sym e ∙ ap (λ (x : Thing). x.is_type) (has_one x (named_type n) h))
      where
        go : false ≡ true → ⊥
        go e = absurd cc

    one : (b : Bool) → has ((if b then resource (record { out = r.out - 0; number = r.number }) ∷ [] else []) ++ [])
        (named_type n) ≡ true → ⊥
    one true h = no (resource (record { out = r.out - 0; number = r.number })) refl h
    one false h = absurd cc

place_is : (m n : Name) → has (around named_type 0 m ++ []) (named_type n) ≡ true → m ≡ n
place_is m n h = one (nat_le 0 m.out) h
  where
    one : (b : Bool) → has ((if b then named_type (record { out = m.out - 0; number = m.number }) ∷ [] else []) ++ [])
        (named_type n) ≡ true → m ≡ n
    one true h =
        let same = has_one (named_type (record { out = m.out - 0; number = m.number })) (named_type n) h in
        let here : m.out ≡ m.out - 0 = omega arith in
        (λ i. record { out = here i; number = m.number })
        ∙ (λ i. record { out = (same i).out; number = (same i).number })
    one false h = absurd cc

module _ (mean : Meaning) (n : Name) where
  abbrev Mentioned : List (ℕ × Mention) → Type 0
  Mentioned xs = has (outwards xs) (named_type n) ≡ true

  -- no deeper than this
  abbrev Within : ℕ → Type 0
  Within k = value_depth (mean.tree n) ≤ k

  either : (xs ys : List (ℕ × Mention)) (k : ℕ) → Mentioned (xs ++ ys) → (Mentioned xs → Within k)
      → (Mentioned ys → Within k) → Within k
  either xs ys k h f g =
      go (has_either (outwards xs) (outwards ys) (named_type n)
      (ap (λ ts. has ts (named_type n)) (sym (outwards-append xs ys)) ∙ h))
    where
      go : (has (outwards xs) (named_type n) ≡ true) ⊎ (has (outwards ys) (named_type n) ≡ true) → Within k
      go (inl h) = f h
      go (inr h) = g h

  named_within : (t : ValueTree) (p : Option Name) → IsNamed mean t p → Mentioned (at_place 0 p)
      → Within (value_depth t)
  named_within t None o h = absurd cc
  named_within t (Some m) o h =
      let deep : value_depth t ≡ value_depth (mean.tree n) = sym (value_deep without_places 0 t) ∙ ap value_depth o.1
      ∙ ap (λ m. value_depth (mean.tree m)) (place_is m n h) in
      omega (arith, deep)

  mutual
    value_within : (t : ValueTree) → OneTree mean t → Mentioned (in_value 0 t) → Within (value_depth t)
    value_within (Primitive p) o h = absurd cc
    value_within (TupleOf ts) o h = let k = values_within ts o h in omega (arith, k)
    value_within (RecordOf p cs) o h =
        either (at_place 0 p) (in_cases 0 cs) (1 + cases_depth cs) h (named_within (RecordOf p cs) p o.0)
        (λ h. let k = cases_within cs o.1 h in omega (arith, k))
    value_within (VariantOf p cs) o h =
        either (at_place 0 p) (in_cases 0 cs) (1 + cases_depth cs) h (named_within (VariantOf p cs) p o.0)
        (λ h. let k = cases_within cs o.1 h in omega (arith, k))
    value_within (ListOf t) o h = let k = value_within t o h in omega (arith, k)
    value_within (FlagsOf p ls) o h = named_within (FlagsOf p ls) p o h
    value_within (EnumOf p ls) o h = named_within (EnumOf p ls) p o h
    value_within (OptionOf t) o h = let k = value_within t o h in omega (arith, k)
    value_within (ResultOf ok err) o h =
        either (in_payload 0 ok) (in_payload 0 err) (1 + max (payload_depth ok) (payload_depth err)) h
        (λ h. let k = payload_within ok o.0 h in omega (arith, k))
        (λ h. let k = payload_within err o.1 h in omega (arith, k))
    value_within (Own r) o h = absurd (no_resource r n h)
    value_within (Borrow r) o h = absurd (no_resource r n h)

    values_within : (ts : ValueTrees) → OneTrees mean ts → Mentioned (in_values 0 ts) → Within (parts_depth ts)
    values_within none o h = absurd cc
    values_within (more t ts) o h =
        either (in_value 0 t) (in_values 0 ts) (max (value_depth t) (parts_depth ts)) h
        (λ h. let k = value_within t o.0 h in omega (arith, k))
        (λ h. let k = values_within ts o.1 h in omega (arith, k))

    cases_within : (cs : Cases) → OneTreeCases mean cs → Mentioned (in_cases 0 cs) → Within (cases_depth cs)
    cases_within no_case o h = absurd cc
    cases_within (labelled label p cs) o h =
        either (in_payload 0 p) (in_cases 0 cs) (max (payload_depth p) (cases_depth cs)) h
        (λ h. let k = payload_within p o.0 h in omega (arith, k))
        (λ h. let k = cases_within cs o.1 h in omega (arith, k))

    payload_within : (p : Payload) → OneTreePayload mean p → Mentioned (in_payload 0 p) → Within (payload_depth p)
    payload_within absent o h = absurd cc
    payload_within (present t) o h = value_within t o h

  -- the tree of a place has the depth of the type that it named
  whole : (t : ValueTree) → IsNamed mean t (Some n) → value_depth t ≡ value_depth (mean.tree n)
  whole t o = sym (value_deep without_places 0 t) ∙ ap value_depth o.1

not_true : (b : Bool) → (b ≡ true → ⊥) → b ≡ false
not_true true h = absurd (h refl)
not_true false h = refl

none_named : {P : Type 0} (n : Name) → None ≡ Some n → P
none_named n e = absurd cc

named_as : (mean : Meaning) (t : ValueTree) (p : Option Name) (n : Name) → p ≡ Some n → IsNamed mean t p
    → IsNamed mean t (Some n)
named_as mean t p n e o = subst (IsNamed mean t) e o

pub tree_apart : (mean : Meaning) (t : ValueTree) → OneTree mean t → IsApart t
tree_apart mean (Primitive p) o n e = none_named n e
tree_apart mean (TupleOf ts) o n e = none_named n e
tree_apart mean (RecordOf p cs) o n e = not_true _ (λ h.
    let deep = whole mean n (RecordOf p cs) (named_as mean (RecordOf p cs) p n e o.0) in
    let k = cases_within mean n cs o.1 h in
    absurd (omega (arith, deep, k)))
tree_apart mean (VariantOf p cs) o n e = not_true _ (λ h.
    let deep = whole mean n (VariantOf p cs) (named_as mean (VariantOf p cs) p n e o.0) in
    let k = cases_within mean n cs o.1 h in
    absurd (omega (arith, deep, k)))
tree_apart mean (ListOf t) o n e = none_named n e
tree_apart mean (FlagsOf p ls) o n e = refl
tree_apart mean (EnumOf p ls) o n e = refl
tree_apart mean (OptionOf t) o n e = none_named n e
tree_apart mean (ResultOf ok err) o n e = none_named n e
tree_apart mean (Own r) o n e = none_named n e
tree_apart mean (Borrow r) o n e = none_named n e
