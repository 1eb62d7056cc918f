-- Laws of value types whose names are changed.
use Rattle.std.proofs.Common.{◌≡◌, ℕ, Bool, true, false, ◌&&◌, Option, Some, None, refl, ap, ◌∙◌}
use Rattle.comp_entity.specs.Entity.{Name, ValueTree, Primitive, TupleOf, RecordOf, VariantOf, ListOf, FlagsOf, EnumOf, OptionOf, ResultOf, Own, Borrow, ValueTrees, none, more, Cases, no_case, labelled, Payload, absent, present}
use Rattle.comp_entity.specs.Names.{Change, changing, place_by, value_by, values_by, cases_by, payload_by, without_places}
use Rattle.comp_entity.specs.NameLaws.{value_twice, value_kept, unchanged, outside_twice}
use Rattle.comp_coherence.specs.Coherence.{Names, bare_value, OneTree, OneTrees, OneTreeCases, OneTreePayload}
use Rattle.comp_coherence.specs.TypeLaws.{left_of, right_of}

-- two changes, and two others that come to the same
module _ (c1 c2 c3 c4 : Change) (d1 d2 d3 d4 : ℕ) (resource : (n : Name) → c1.resource d1 (c2.resource d2 n) ≡ c3.resource d3 (c4.resource d4 n)) (place : (p : Option Name) → place_by c1 d1 (place_by c2 d2 p) ≡ place_by c3 d3 (place_by c4 d4 p)) where
  mutual
    pub same_value : (t : ValueTree) → value_by c1 d1 (value_by c2 d2 t) ≡ value_by c3 d3 (value_by c4 d4 t)
    same_value (Primitive p) = refl
    same_value (TupleOf ts) = ap TupleOf (same_values ts)
    same_value (RecordOf p fs) = λ i. RecordOf (place p i) (same_cases fs i)
    same_value (VariantOf p cs) = λ i. VariantOf (place p i) (same_cases cs i)
    same_value (ListOf t) = ap ListOf (same_value t)
    same_value (FlagsOf p ls) = ap (λ p. FlagsOf p ls) (place p)
    same_value (EnumOf p ls) = ap (λ p. EnumOf p ls) (place p)
    same_value (OptionOf t) = ap OptionOf (same_value t)
    same_value (ResultOf ok err) = λ i. ResultOf (same_payload ok i) (same_payload err i)
    same_value (Own r) = ap Own (resource r)
    same_value (Borrow r) = ap Borrow (resource r)

    same_values : (ts : ValueTrees) → values_by c1 d1 (values_by c2 d2 ts) ≡ values_by c3 d3 (values_by c4 d4 ts)
    same_values none = refl
    same_values (more t ts) = λ i. more (same_value t i) (same_values ts i)

    same_cases : (cs : Cases) → cases_by c1 d1 (cases_by c2 d2 cs) ≡ cases_by c3 d3 (cases_by c4 d4 cs)
    same_cases no_case = refl
    same_cases (labelled l p cs) = λ i. labelled l (same_payload p i) (same_cases cs i)

    same_payload : (p : Payload) → payload_by c1 d1 (payload_by c2 d2 p) ≡ payload_by c3 d3 (payload_by c4 d4 p)
    same_payload absent = refl
    same_payload (present t) = ap present (same_value t)

-- a change in which each place has a name
none_left : (g : ℕ → Name → Name) (f : ℕ → Name → Name) (mark : Bool → Bool) (d : ℕ) (p : Option Name) → place_by without_places 0 (place_by (record { resource = f; place = λ d n. Some (g d n); mark = mark }) d p) ≡ place_by (record { resource = f; place = λ d n. Some (g d n); mark = mark }) d (place_by without_places 0 p)
none_left g f mark d None = refl
none_left g f mark d (Some n) = refl

pub bare_changed : (f g : ℕ → Name → Name) (mark : Bool → Bool) (d : ℕ) (t : ValueTree) → bare_value (value_by (record { resource = f; place = λ d n. Some (g d n); mark = mark }) d t) ≡ value_by (record { resource = f; place = λ d n. Some (g d n); mark = mark }) d (bare_value t)
bare_changed f g mark d t =
    let c : Change = record { resource = f; place = λ d n. Some (g d n); mark = mark } in
    same_value without_places c c without_places 0 d d 0 (λ n. refl) (none_left g f mark d) t

-- one change behind another, where the second undoes the first
pub value_back : (f g h k : Name → Name) → ((n : Name) → f (h n) ≡ n) → ((n : Name) → g (k n) ≡ n) → (t : ValueTree) → value_by (changing f g) 0 (value_by (changing h k) 0 t) ≡ t
value_back f g h k resource place t =
    value_twice (changing f g) (changing h k) (changing (λ n. n) (λ n. n))
    (record {
      resource = outside_twice f h (λ n. n) resource;
      place = λ d n. ap Some (outside_twice g k (λ n. n) place d n);
      mark = λ m. refl;
    }) 0 t
    ∙ value_kept (changing (λ n. n) (λ n. n)) unchanged 0 t

-- A type in which no place named a type, and which mentions such resources alone.
abbrev mutual
  pub mentions : (Name → Bool) → ValueTree → Bool
  mentions is (Primitive p) = true
  mentions is (TupleOf ts) = all_mention is ts
  mentions is (RecordOf None fs) = cases_mention is fs
  mentions is (RecordOf (Some n) fs) = false
  mentions is (VariantOf None cs) = cases_mention is cs
  mentions is (VariantOf (Some n) cs) = false
  mentions is (ListOf t) = mentions is t
  mentions is (FlagsOf None ls) = true
  mentions is (FlagsOf (Some n) ls) = false
  mentions is (EnumOf None ls) = true
  mentions is (EnumOf (Some n) ls) = false
  mentions is (OptionOf t) = mentions is t
  mentions is (ResultOf ok err) = payload_mentions is ok && payload_mentions is err
  mentions is (Own r) = is r
  mentions is (Borrow r) = is r

  pub all_mention : (Name → Bool) → ValueTrees → Bool
  all_mention is none = true
  all_mention is (more t ts) = mentions is t && all_mention is ts

  pub cases_mention : (Name → Bool) → Cases → Bool
  cases_mention is no_case = true
  cases_mention is (labelled l p cs) = payload_mentions is p && cases_mention is cs

  pub payload_mentions : (Name → Bool) → Payload → Bool
  payload_mentions is absent = true
  payload_mentions is (present t) = mentions is t

pub both : {a b : Bool} → a ≡ true → b ≡ true → (a && b) ≡ true
both h k = (λ i. h i && k i)

-- what a type mentions that keeps one name for one type
module _ (names : Names) where
  mutual
    pub bare_mentions : (t : ValueTree) → OneTree names t → mentions names.resource (bare_value t) ≡ true
    bare_mentions (Primitive p) h = refl
    bare_mentions (TupleOf ts) h = bare_all ts h
    bare_mentions (RecordOf None fs) h = bare_cases fs h.1
    bare_mentions (RecordOf (Some n) fs) h = bare_cases fs h.1
    bare_mentions (VariantOf None cs) h = bare_cases cs h.1
    bare_mentions (VariantOf (Some n) cs) h = bare_cases cs h.1
    bare_mentions (ListOf t) h = bare_mentions t h
    bare_mentions (FlagsOf None ls) h = refl
    bare_mentions (FlagsOf (Some n) ls) h = refl
    bare_mentions (EnumOf None ls) h = refl
    bare_mentions (EnumOf (Some n) ls) h = refl
    bare_mentions (OptionOf t) h = bare_mentions t h
    bare_mentions (ResultOf ok err) h = both (bare_payload ok h.0) (bare_payload err h.1)
    bare_mentions (Own r) h = h
    bare_mentions (Borrow r) h = h

    bare_all : (ts : ValueTrees) → OneTrees names ts → all_mention names.resource (values_by without_places 0 ts) ≡ true
    bare_all none h = refl
    bare_all (more t ts) h = both (bare_mentions t h.0) (bare_all ts h.1)

    bare_cases : (cs : Cases) → OneTreeCases names cs → cases_mention names.resource (cases_by without_places 0 cs) ≡ true
    bare_cases no_case h = refl
    bare_cases (labelled l p cs) h = both (bare_payload p h.0) (bare_cases cs h.1)

    bare_payload : (p : Payload) → OneTreePayload names p → payload_mentions names.resource (payload_by without_places 0 p) ≡ true
    bare_payload absent h = refl
    bare_payload (present t) h = bare_mentions t h

-- what a type mentions before a change
module _ (f g : ℕ → Name → Name) (mark : Bool → Bool) (d : ℕ) (before after : Name → Bool) (resource : (r : Name) → after (f d r) ≡ true → before r ≡ true) where
  abbrev naming : Change
  naming = record { resource = f; place = λ d n. Some (g d n); mark = mark }

  mutual
    pub mentioned : (t : ValueTree) → mentions after (value_by naming d t) ≡ true → mentions before t ≡ true
    mentioned (Primitive p) h = refl
    mentioned (TupleOf ts) h = all_mentioned ts h
    mentioned (RecordOf None fs) h = cases_mentioned fs h
    mentioned (RecordOf (Some n) fs) h = absurd cc
    mentioned (VariantOf None cs) h = cases_mentioned cs h
    mentioned (VariantOf (Some n) cs) h = absurd cc
    mentioned (ListOf t) h = mentioned t h
    mentioned (FlagsOf None ls) h = refl
    mentioned (FlagsOf (Some n) ls) h = absurd cc
    mentioned (EnumOf None ls) h = refl
    mentioned (EnumOf (Some n) ls) h = absurd cc
    mentioned (OptionOf t) h = mentioned t h
    mentioned (ResultOf ok err) h = both (payload_mentioned ok (left_of _ _ h)) (payload_mentioned err (right_of (payload_mentions after (payload_by naming d ok)) _ h))
    mentioned (Own r) h = resource r h
    mentioned (Borrow r) h = resource r h

    all_mentioned : (ts : ValueTrees) → all_mention after (values_by naming d ts) ≡ true → all_mention before ts ≡ true
    all_mentioned none h = refl
    all_mentioned (more t ts) h = both (mentioned t (left_of _ _ h)) (all_mentioned ts (right_of (mentions after (value_by naming d t)) _ h))

    cases_mentioned : (cs : Cases) → cases_mention after (cases_by naming d cs) ≡ true → cases_mention before cs ≡ true
    cases_mentioned no_case h = refl
    cases_mentioned (labelled l p cs) h = both (payload_mentioned p (left_of _ _ h)) (cases_mentioned cs (right_of (payload_mentions after (payload_by naming d p)) _ h))

    payload_mentioned : (p : Payload) → payload_mentions after (payload_by naming d p) ≡ true → payload_mentions before p ≡ true
    payload_mentioned absent h = refl
    payload_mentioned (present t) h = mentioned t h

-- a change that keeps what a type mentions
module _ (c : Change) (d : ℕ) (is : Name → Bool) (resource : (r : Name) → is r ≡ true → c.resource d r ≡ r) where
  mutual
    pub value_stays : (t : ValueTree) → mentions is t ≡ true → value_by c d t ≡ t
    value_stays (Primitive p) h = refl
    value_stays (TupleOf ts) h = ap TupleOf (values_stay ts h)
    value_stays (RecordOf None fs) h = ap (RecordOf None) (cases_stay fs h)
    value_stays (RecordOf (Some n) fs) h = absurd cc
    value_stays (VariantOf None cs) h = ap (VariantOf None) (cases_stay cs h)
    value_stays (VariantOf (Some n) cs) h = absurd cc
    value_stays (ListOf t) h = ap ListOf (value_stays t h)
    value_stays (FlagsOf None ls) h = refl
    value_stays (FlagsOf (Some n) ls) h = absurd cc
    value_stays (EnumOf None ls) h = refl
    value_stays (EnumOf (Some n) ls) h = absurd cc
    value_stays (OptionOf t) h = ap OptionOf (value_stays t h)
    value_stays (ResultOf ok err) h = let a = payload_stays ok (left_of _ _ h) in let b = payload_stays err (right_of (payload_mentions is ok) _ h) in λ i. ResultOf (a i) (b i)
    value_stays (Own r) h = ap Own (resource r h)
    value_stays (Borrow r) h = ap Borrow (resource r h)

    values_stay : (ts : ValueTrees) → all_mention is ts ≡ true → values_by c d ts ≡ ts
    values_stay none h = refl
    values_stay (more t ts) h = let a = value_stays t (left_of _ _ h) in let b = values_stay ts (right_of (mentions is t) _ h) in λ i. more (a i) (b i)

    cases_stay : (cs : Cases) → cases_mention is cs ≡ true → cases_by c d cs ≡ cs
    cases_stay no_case h = refl
    cases_stay (labelled l p cs) h = let a = payload_stays p (left_of _ _ h) in let b = cases_stay cs (right_of (payload_mentions is p) _ h) in λ i. labelled l (a i) (b i)

    payload_stays : (p : Payload) → payload_mentions is p ≡ true → payload_by c d p ≡ p
    payload_stays absent h = refl
    payload_stays (present t) h = ap present (value_stays t h)

-- what a type mentions that mentions less
module _ (is other : Name → Bool) (more_of : (r : Name) → is r ≡ true → other r ≡ true) where
  mutual
    pub mentions_more : (t : ValueTree) → mentions is t ≡ true → mentions other t ≡ true
    mentions_more (Primitive p) h = refl
    mentions_more (TupleOf ts) h = all_more ts h
    mentions_more (RecordOf None fs) h = cases_more fs h
    mentions_more (RecordOf (Some n) fs) h = absurd cc
    mentions_more (VariantOf None cs) h = cases_more cs h
    mentions_more (VariantOf (Some n) cs) h = absurd cc
    mentions_more (ListOf t) h = mentions_more t h
    mentions_more (FlagsOf None ls) h = refl
    mentions_more (FlagsOf (Some n) ls) h = absurd cc
    mentions_more (EnumOf None ls) h = refl
    mentions_more (EnumOf (Some n) ls) h = absurd cc
    mentions_more (OptionOf t) h = mentions_more t h
    mentions_more (ResultOf ok err) h = both (payload_more ok (left_of _ _ h)) (payload_more err (right_of (payload_mentions is ok) _ h))
    mentions_more (Own r) h = more_of r h
    mentions_more (Borrow r) h = more_of r h

    all_more : (ts : ValueTrees) → all_mention is ts ≡ true → all_mention other ts ≡ true
    all_more none h = refl
    all_more (more t ts) h = both (mentions_more t (left_of _ _ h)) (all_more ts (right_of (mentions is t) _ h))

    cases_more : (cs : Cases) → cases_mention is cs ≡ true → cases_mention other cs ≡ true
    cases_more no_case h = refl
    cases_more (labelled l p cs) h = both (payload_more p (left_of _ _ h)) (cases_more cs (right_of (payload_mentions is p) _ h))

    payload_more : (p : Payload) → payload_mentions is p ≡ true → payload_mentions other p ≡ true
    payload_more absent h = refl
    payload_more (present t) h = mentions_more t h
