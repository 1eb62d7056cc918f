-- Laws of changes of names: two changes one after the other are one change.
use Rattle.std.proofs.Common.{◌≡◌, ℕ, suc, ◌+◌, ◌-◌, Bool, true, false, cond, List, [], ◌∷◌, map, Option, Some, None, refl, ap, ◌∙◌, arith}
use Rattle.std.specs.Prelude.{option_map, nat_lt}
use Rattle.comp_entity.specs.Entity.{Name, ValueTree, Primitive, TupleOf, RecordOf, VariantOf, ListOf, FlagsOf, EnumOf, OptionOf, ResultOf, Own, Borrow, ValueTrees, none, more, Cases, no_case, labelled, Payload, absent, present, FuncTree, TypeShapeTree, Value, Resource, Func, Instance, Component, EntityTree, IsType, IsFunc, IsInstance, IsComponent, IsModule, IsOwnModule, Entries, no_entry, entry}
use Rattle.comp_entity.specs.Names.{Change, changing, outside, deeper, place_by, value_by, values_by, cases_by, payload_by, func_by, type_by, entity_by, entries_by}

-- one change behind another is a third
pub record IsTwice (c b a : Change) : Type 0 where
  pub resource : (d : ℕ) (n : Name) → c.resource d (b.resource d n) ≡ a.resource d n
  pub place : (d : ℕ) (n : Name) → place_by c d (b.place d n) ≡ a.place d n
  pub mark : (m : Bool) → c.mark (b.mark m) ≡ a.mark m

module _ (c b a : Change) (t : IsTwice c b a) where
  place_kept_twice : (d : ℕ) (p : Option Name) → place_by c d (place_by b d p) ≡ place_by a d p
  place_kept_twice d None = refl
  place_kept_twice d (Some n) = t.place d n

  mutual
    pub value_twice : (d : ℕ) (v : ValueTree) → value_by c d (value_by b d v) ≡ value_by a d v
    value_twice d (Primitive p) = refl
    value_twice d (TupleOf parts) = ap TupleOf (values_twice d parts)
    value_twice d (RecordOf p fields) = ap (λ p. RecordOf p (cases_by c d (cases_by b d fields))) (place_kept_twice d p) ∙ ap (RecordOf (place_by a d p)) (cases_twice d fields)
    value_twice d (VariantOf p cases) = ap (λ p. VariantOf p (cases_by c d (cases_by b d cases))) (place_kept_twice d p) ∙ ap (VariantOf (place_by a d p)) (cases_twice d cases)
    value_twice d (ListOf v) = ap ListOf (value_twice d v)
    value_twice d (FlagsOf p labels) = ap (λ p. FlagsOf p labels) (place_kept_twice d p)
    value_twice d (EnumOf p labels) = ap (λ p. EnumOf p labels) (place_kept_twice d p)
    value_twice d (OptionOf v) = ap OptionOf (value_twice d v)
    value_twice d (ResultOf ok err) = ap (λ ok. ResultOf ok (payload_by c d (payload_by b d err))) (payload_twice d ok) ∙ ap (ResultOf (payload_by a d ok)) (payload_twice d err)
    value_twice d (Own r) = ap Own (t.resource d r)
    value_twice d (Borrow r) = ap Borrow (t.resource d r)

    values_twice : (d : ℕ) (vs : ValueTrees) → values_by c d (values_by b d vs) ≡ values_by a d vs
    values_twice d none = refl
    values_twice d (more v vs) = ap (λ v. more v (values_by c d (values_by b d vs))) (value_twice d v) ∙ ap (more (value_by a d v)) (values_twice d vs)

    cases_twice : (d : ℕ) (cs : Cases) → cases_by c d (cases_by b d cs) ≡ cases_by a d cs
    cases_twice d no_case = refl
    cases_twice d (labelled label p cs) = ap (λ p. labelled label p (cases_by c d (cases_by b d cs))) (payload_twice d p) ∙ ap (labelled label (payload_by a d p)) (cases_twice d cs)

    payload_twice : (d : ℕ) (p : Payload) → payload_by c d (payload_by b d p) ≡ payload_by a d p
    payload_twice d absent = refl
    payload_twice d (present v) = ap present (value_twice d v)

  params_by : Change → ℕ → List (List ℕ × ValueTree) → List (List ℕ × ValueTree)
  params_by c d ps = map (λ p. (p.0, value_by c d p.1)) ps

  params_twice : (d : ℕ) (ps : List (List ℕ × ValueTree)) → params_by c d (params_by b d ps) ≡ params_by a d ps
  unfolding params_by
  params_twice d [] = refl
  params_twice d (p ∷ ps) = ap (λ v. (p.0, v) ∷ params_by c d (params_by b d ps)) (value_twice d p.1) ∙ ap (λ ps. (p.0, value_by a d p.1) ∷ ps) (params_twice d ps)

  result_twice : (d : ℕ) (r : Option ValueTree) → option_map (value_by c d) (option_map (value_by b d) r) ≡ option_map (value_by a d) r
  result_twice d None = refl
  result_twice d (Some v) = ap Some (value_twice d v)

  pub func_twice : (d : ℕ) (f : FuncTree) → func_by c d (func_by b d f) ≡ func_by a d f
  unfolding params_by
  func_twice d f = ap (λ ps. record { params = ps; result = option_map (value_by c d) (option_map (value_by b d) f.result) }) (params_twice d f.params)
      ∙ ap (λ r. record { params = params_by a d f.params; result = r }) (result_twice d f.result)

  mutual
    pub type_twice : (d : ℕ) (x : TypeShapeTree) → type_by c d (type_by b d x) ≡ type_by a d x
    type_twice d (Value v) = ap Value (value_twice d v)
    type_twice d (Resource r) = ap Resource (t.resource d r)
    type_twice d (Func f) = ap Func (func_twice d f)
    type_twice d (Instance es) = ap Instance (entries_twice (suc d) es)
    type_twice d (Component is es) = ap (λ is. Component is (entries_by c (suc (suc d)) (entries_by b (suc (suc d)) es))) (entries_twice (suc (suc d)) is) ∙ ap (Component (entries_by a (suc (suc d)) is)) (entries_twice (suc (suc d)) es)

    pub entity_twice : (d : ℕ) (e : EntityTree) → entity_by c d (entity_by b d e) ≡ entity_by a d e
    entity_twice d (IsType x) = ap IsType (type_twice d x)
    entity_twice d (IsFunc f) = ap IsFunc (func_twice d f)
    entity_twice d (IsInstance es) = ap IsInstance (entries_twice d es)
    entity_twice d (IsComponent is es) = ap (λ is. IsComponent is (entries_by c (suc (suc d)) (entries_by b (suc (suc d)) es))) (entries_twice (suc (suc d)) is) ∙ ap (IsComponent (entries_by a (suc (suc d)) is)) (entries_twice (suc (suc d)) es)
    entity_twice d (IsModule m) = refl
    entity_twice d IsOwnModule = refl

    pub entries_twice : (d : ℕ) (es : Entries) → entries_by c d (entries_by b d es) ≡ entries_by a d es
    entries_twice d no_entry = refl
    entries_twice d (entry name e m es) = ap (λ e. entry name e (c.mark (b.mark m)) (entries_by c d (entries_by b d es))) (entity_twice d e)
        ∙ ap (λ m. entry name (entity_by a d e) m (entries_by c d (entries_by b d es))) (t.mark m) ∙ ap (entry name (entity_by a d e) (a.mark m)) (entries_twice d es)

-- a change that keeps each name
pub record Keeps (c : Change) : Type 0 where
  pub resource : (d : ℕ) (n : Name) → c.resource d n ≡ n
  pub place : (d : ℕ) (n : Name) → c.place d n ≡ Some n
  pub mark : (m : Bool) → c.mark m ≡ m

module _ (c : Change) (k : Keeps c) where
  place_kept : (d : ℕ) (p : Option Name) → place_by c d p ≡ p
  place_kept d None = refl
  place_kept d (Some n) = k.place d n

  mutual
    pub value_kept : (d : ℕ) (v : ValueTree) → value_by c d v ≡ v
    value_kept d (Primitive p) = refl
    value_kept d (TupleOf parts) = ap TupleOf (values_kept d parts)
    value_kept d (RecordOf p fields) = λ i. RecordOf (place_kept d p i) (cases_kept d fields i)
    value_kept d (VariantOf p cases) = λ i. VariantOf (place_kept d p i) (cases_kept d cases i)
    value_kept d (ListOf v) = ap ListOf (value_kept d v)
    value_kept d (FlagsOf p labels) = ap (λ p. FlagsOf p labels) (place_kept d p)
    value_kept d (EnumOf p labels) = ap (λ p. EnumOf p labels) (place_kept d p)
    value_kept d (OptionOf v) = ap OptionOf (value_kept d v)
    value_kept d (ResultOf ok err) = λ i. ResultOf (payload_kept d ok i) (payload_kept d err i)
    value_kept d (Own r) = ap Own (k.resource d r)
    value_kept d (Borrow r) = ap Borrow (k.resource d r)

    values_kept : (d : ℕ) (vs : ValueTrees) → values_by c d vs ≡ vs
    values_kept d none = refl
    values_kept d (more v vs) = λ i. more (value_kept d v i) (values_kept d vs i)

    cases_kept : (d : ℕ) (cs : Cases) → cases_by c d cs ≡ cs
    cases_kept d no_case = refl
    cases_kept d (labelled label p cs) = λ i. labelled label (payload_kept d p i) (cases_kept d cs i)

    payload_kept : (d : ℕ) (p : Payload) → payload_by c d p ≡ p
    payload_kept d absent = refl
    payload_kept d (present v) = ap present (value_kept d v)

  params_kept : (d : ℕ) (ps : List (List ℕ × ValueTree)) → map (λ p. (p.0, value_by c d p.1)) ps ≡ ps
  params_kept d [] = refl
  params_kept d (p ∷ ps) = λ i. (p.0, value_kept d p.1 i) ∷ params_kept d ps i

  result_kept : (d : ℕ) (r : Option ValueTree) → option_map (value_by c d) r ≡ r
  result_kept d None = refl
  result_kept d (Some v) = ap Some (value_kept d v)

  pub func_kept : (d : ℕ) (f : FuncTree) → func_by c d f ≡ f
  func_kept d f = λ i. record { params = params_kept d f.params i; result = result_kept d f.result i }

  mutual
    pub type_kept : (d : ℕ) (x : TypeShapeTree) → type_by c d x ≡ x
    type_kept d (Value v) = ap Value (value_kept d v)
    type_kept d (Resource r) = ap Resource (k.resource d r)
    type_kept d (Func f) = ap Func (func_kept d f)
    type_kept d (Instance es) = ap Instance (entries_kept (suc d) es)
    type_kept d (Component is es) = λ i. Component (entries_kept (suc (suc d)) is i) (entries_kept (suc (suc d)) es i)

    pub entity_kept : (d : ℕ) (e : EntityTree) → entity_by c d e ≡ e
    entity_kept d (IsType x) = ap IsType (type_kept d x)
    entity_kept d (IsFunc f) = ap IsFunc (func_kept d f)
    entity_kept d (IsInstance es) = ap IsInstance (entries_kept d es)
    entity_kept d (IsComponent is es) = λ i. IsComponent (entries_kept (suc (suc d)) is i) (entries_kept (suc (suc d)) es i)
    entity_kept d (IsModule m) = refl
    entity_kept d IsOwnModule = refl

    pub entries_kept : (d : ℕ) (es : Entries) → entries_by c d es ≡ es
    entries_kept d no_entry = refl
    entries_kept d (entry name e m es) = λ i. entry name (entity_kept d e i) (k.mark m i) (entries_kept d es i)

-- names of scopes around a tree that are called as they were
outside_kept : (d : ℕ) (n : Name) → outside (λ n. n) d n ≡ n
outside_kept d n = one (nat_lt n.out d) refl
  where
    one : (b : Bool) → nat_lt n.out d ≡ b → cond b n (deeper d (record n { out = n.out - d })) ≡ n
    one true lt = refl
    one false ge = let back : n.out - d + d ≡ n.out = grind arith in ap (λ m. record { out = m; number = n.number }) back

pub unchanged : Keeps (changing (λ n. n) (λ n. n))
unchanged = record { resource = outside_kept; place = λ d n. ap Some (outside_kept d n); mark = λ m. refl }

-- ---- two names behind another, where both keep what lies within

outside_deeper : (f : Name → Name) (d : ℕ) (n : Name) → outside f d (deeper d n) ≡ deeper d (f n)
outside_deeper f d n =
    let past : nat_lt (n.out + d) d ≡ false = grind arith in
    let back : n.out + d - d ≡ n.out = omega arith in
    rw past (ap (λ m. deeper d (f (record { out = m; number = n.number }))) back)

pub outside_twice : (f g h : Name → Name) → ((n : Name) → f (g n) ≡ h n) → (d : ℕ) (n : Name) → outside f d (outside g d n) ≡ outside h d n
outside_twice f g h same d n = one (nat_lt n.out d) refl
  where
    one : (b : Bool) → nat_lt n.out d ≡ b → outside f d (cond b n (deeper d (g (record n { out = n.out - d })))) ≡ cond b n (deeper d (h (record n { out = n.out - d })))
    one true lt = rw lt refl
    one false ge = outside_deeper f d (g (record n { out = n.out - d })) ∙ ap (deeper d) (same (record n { out = n.out - d }))

-- from outside, twice
pub deeper_twice : (a b : ℕ) → IsTwice (changing (deeper a) (deeper a)) (changing (deeper b) (deeper b)) (changing (deeper (b + a)) (deeper (b + a)))
deeper_twice a b = record {
  resource = outside_twice (deeper a) (deeper b) (deeper (b + a)) (λ n. ap (λ m. record { out = m; number = n.number }) (sum_is n.out));
  place = λ d n. ap Some (outside_twice (deeper a) (deeper b) (deeper (b + a)) (λ n. ap (λ m. record { out = m; number = n.number }) (sum_is n.out)) d n);
  mark = λ m. refl;
}
  where
    sum_is : (n : ℕ) → n + b + a ≡ n + (b + a)
    sum_is n = omega arith
