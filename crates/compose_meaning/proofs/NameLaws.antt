-- Changes of names, one behind the other, and what they leave as it is.
use Rattle.std.proofs.Common.{◌≡◌, ℕ, ◌+◌, ◌-◌, Bool, true, false, cond, ◌||◌, List, [], ◌∷◌, ◌++◌, Option, Some, None, refl, sym, ap, ◌∙◌, arith, true≢false}
use Rattle.std.specs.Prelude.{nat_lt}
use Rattle.std.specs.List.{list_any}
use Rattle.comp_entity.specs.Entity.{Name, ValueTree, Primitive, TupleOf, RecordOf, VariantOf, ListOf, FlagsOf, EnumOf, OptionOf, ResultOf, Own, Borrow, ValueTrees, none, more, Cases, no_case, labelled, Payload, absent, present, TypeShapeTree, Value, Resource, Func, Instance, Component, EntityTree, IsType}
use Rattle.comp_entity.specs.Names.{Change, changing, outside, deeper, place_by, value_by, values_by, cases_by, payload_by, type_by, without_places, Mention, at_place, in_value, in_values, in_cases, in_payload, is_resource}
use Rattle.comp_entity.specs.NameLaws.{IsTwice, Keeps, entity_kept, outside_twice}
use Rattle.comp_scope.specs.Spaces.{is_named, entity_is_named}
use Rattle.comp_scope.specs.Aliases.{from_outside}
use Rattle.compose_meaning.specs.Meaning.{placing}

-- ---- changes behind one another

pub bare_change : (f g : Name → Name) → IsTwice without_places (changing f g) (placing f)
bare_change f g = record { resource = λ d n. refl; place = λ d n. refl; mark = λ m. refl }

pub placing_bare : (f : Name → Name) → IsTwice (placing f) without_places (placing f)
placing_bare f = record { resource = λ d n. refl; place = λ d n. refl; mark = λ m. refl }

pub bare_placing : (f : Name → Name) → IsTwice without_places (placing f) (placing f)
bare_placing f = record { resource = λ d n. refl; place = λ d n. refl; mark = λ m. refl }

pub placing_twice : (f g h : Name → Name) → ((n : Name) → f (g n) ≡ h n) → IsTwice (placing f) (placing g) (placing h)
placing_twice f g h same = record { resource = outside_twice f g h same; place = λ d n. refl; mark = λ m. refl }

-- a name of no scope further out
pub deeper_none : (n : Name) → deeper 0 n ≡ n
deeper_none n = ap (λ m. record { out = m; number = n.number }) sum_is
  where
    sum_is : n.out + 0 ≡ n.out
    sum_is = omega arith

outside_none : (d : ℕ) (n : Name) → outside (deeper 0) d n ≡ n
outside_none d n = one (nat_lt n.out d) refl
  where
    one : (b : Bool) → nat_lt n.out d ≡ b → cond b n (deeper d (deeper 0 (record n { out = n.out - d }))) ≡ n
    one true lt = refl
    one false ge = let back : n.out - d + 0 + d ≡ n.out = grind arith in ap (λ m. record { out = m; number = n.number }) back

here_kept : Keeps (changing (deeper 0) (deeper 0))
here_kept = record { resource = outside_none; place = λ d n. ap Some (outside_none d n); mark = λ m. refl }

-- what stands in the scope itself
pub from_here : (e : EntityTree) → from_outside 0 e ≡ e
from_here e = entity_kept (changing (deeper 0) (deeper 0)) here_kept 0 e

-- a name of the scope itself
pub here : (f : Name → Name) (n : Name) → outside f 0 n ≡ f n
here f n = one (nat_lt n.out 0) refl
  where
    back : n.out - 0 ≡ n.out
    back = omega arith

    one : (b : Bool) → nat_lt n.out 0 ≡ b → cond b n (deeper 0 (f (record n { out = n.out - 0 }))) ≡ f n
    one true lt = let never : nat_lt n.out 0 ≡ false = grind arith in absurd (true≢false (sym lt ∙ never))
    one false ge = deeper_none (f (record n { out = n.out - 0 })) ∙ ap f (ap (λ m. record { out = m; number = n.number }) back)

pub placing_changing : (f g h k : Name → Name) → ((n : Name) → f (g n) ≡ k n) → IsTwice (placing f) (changing g h) (placing k)
placing_changing f g h k same = record { resource = outside_twice f g k same; place = λ d n. refl; mark = λ m. refl }

-- ---- the naming bit

pub named_alike : (f g : Name → Name) (d : ℕ) (t : ValueTree) → is_named (value_by (changing f g) d t) ≡ is_named t
named_alike f g d (Primitive p) = refl
named_alike f g d (TupleOf parts) = refl
named_alike f g d (RecordOf None fields) = refl
named_alike f g d (RecordOf (Some n) fields) = refl
named_alike f g d (VariantOf None cases) = refl
named_alike f g d (VariantOf (Some n) cases) = refl
named_alike f g d (ListOf t) = refl
named_alike f g d (FlagsOf None labels) = refl
named_alike f g d (FlagsOf (Some n) labels) = refl
named_alike f g d (EnumOf None labels) = refl
named_alike f g d (EnumOf (Some n) labels) = refl
named_alike f g d (OptionOf t) = refl
named_alike f g d (ResultOf ok err) = refl
named_alike f g d (Own r) = refl
named_alike f g d (Borrow r) = refl

pub type_named_alike : (f g : Name → Name) (d : ℕ) (t : TypeShapeTree) → entity_is_named (IsType (type_by (changing f g) d t)) ≡ entity_is_named (IsType t)
type_named_alike f g d (Value t) = named_alike f g d t
type_named_alike f g d (Resource r) = refl
type_named_alike f g d (Func h) = refl
type_named_alike f g d (Instance es) = refl
type_named_alike f g d (Component is es) = refl

-- ---- mentions of resources

any_both : (xs ys : List (ℕ × Mention)) → list_any is_resource (xs ++ ys) ≡ (list_any is_resource xs || list_any is_resource ys)
any_both [] ys = refl
any_both (x ∷ xs) ys = one (is_resource x) (any_both xs ys)
  where
    one : (b : Bool) → list_any is_resource (xs ++ ys) ≡ (list_any is_resource xs || list_any is_resource ys) → (b || list_any is_resource (xs ++ ys)) ≡ ((b || list_any is_resource xs) || list_any is_resource ys)
    one true h = refl
    one false h = h

no_place : (d : ℕ) (p : Option Name) → list_any is_resource (at_place d p) ≡ false
no_place d None = refl
no_place d (Some n) = refl

module _ (c : Change) where
  behind_place : (d e : ℕ) (p q : Option Name) (xs ys : List (ℕ × Mention)) → list_any is_resource xs ≡ list_any is_resource ys → list_any is_resource (at_place d p ++ xs) ≡ list_any is_resource (at_place e q ++ ys)
  behind_place d e p q xs ys h = any_both (at_place d p) xs ∙ (λ i. no_place d p i || h i) ∙ sym (λ i. no_place e q i || list_any is_resource ys) ∙ sym (any_both (at_place e q) ys)

  both_alike : (vs ws xs ys : List (ℕ × Mention)) → list_any is_resource vs ≡ list_any is_resource ws → list_any is_resource xs ≡ list_any is_resource ys → list_any is_resource (vs ++ xs) ≡ list_any is_resource (ws ++ ys)
  both_alike vs ws xs ys g h = any_both vs xs ∙ (λ i. g i || h i) ∙ sym (any_both ws ys)

  mutual
    pub value_mentions : (d : ℕ) (t : ValueTree) → list_any is_resource (in_value d (value_by c d t)) ≡ list_any is_resource (in_value d t)
    value_mentions d (Primitive p) = refl
    value_mentions d (TupleOf parts) = values_mention d parts
    value_mentions d (RecordOf p fields) = behind_place d d (place_by c d p) p _ _ (cases_mention d fields)
    value_mentions d (VariantOf p cases) = behind_place d d (place_by c d p) p _ _ (cases_mention d cases)
    value_mentions d (ListOf t) = value_mentions d t
    value_mentions d (FlagsOf p labels) = no_place d (place_by c d p) ∙ sym (no_place d p)
    value_mentions d (EnumOf p labels) = no_place d (place_by c d p) ∙ sym (no_place d p)
    value_mentions d (OptionOf t) = value_mentions d t
    value_mentions d (ResultOf ok err) = both_alike (in_payload d (payload_by c d ok)) (in_payload d ok) _ _ (payload_mentions d ok) (payload_mentions d err)
    value_mentions d (Own r) = refl
    value_mentions d (Borrow r) = refl

    values_mention : (d : ℕ) (ts : ValueTrees) → list_any is_resource (in_values d (values_by c d ts)) ≡ list_any is_resource (in_values d ts)
    values_mention d none = refl
    values_mention d (more t ts) = both_alike (in_value d (value_by c d t)) (in_value d t) _ _ (value_mentions d t) (values_mention d ts)

    cases_mention : (d : ℕ) (cs : Cases) → list_any is_resource (in_cases d (cases_by c d cs)) ≡ list_any is_resource (in_cases d cs)
    cases_mention d no_case = refl
    cases_mention d (labelled label p cs) = both_alike (in_payload d (payload_by c d p)) (in_payload d p) _ _ (payload_mentions d p) (cases_mention d cs)

    payload_mentions : (d : ℕ) (p : Payload) → list_any is_resource (in_payload d (payload_by c d p)) ≡ list_any is_resource (in_payload d p)
    payload_mentions d absent = refl
    payload_mentions d (present t) = value_mentions d t
