-- A change of names at a depth is another change at another depth, where both change each name alike.
use Rattle.std.proofs.Common.{◌≡◌, ℕ, suc, ◌+◌, ◌-◌, Bool, true, false, cond, List, [], ◌∷◌, map, Option, Some, None, refl, ap, ◌∙◌, arith}
use Rattle.std.specs.Prelude.{option_map, nat_lt}
use Rattle.comp_entity.specs.Entity.{Name, ValueTree, Primitive, TupleOf, RecordOf, VariantOf, ListOf, FlagsOf, EnumOf, OptionOf, ResultOf, Own, Borrow, ValueTrees, none, more, Cases, no_case, labelled, Payload, absent, present, FuncTree, TypeShapeTree, Value, Resource, Func, Instance, Component, EntityTree, IsType, IsFunc, IsInstance, IsComponent, IsModule, IsOwnModule, Entries, no_entry, entry}
use Rattle.comp_entity.specs.Names.{Change, outside, deeper, without_places, place_by, value_by, values_by, cases_by, payload_by, func_by, type_by, entity_by, entries_by}
use Rattle.compose_meaning.specs.Meaning.{placing}

abbrev params_by : Change → ℕ → List (List ℕ × ValueTree) → List (List ℕ × ValueTree)
params_by c d ps = map (λ p. (p.0, value_by c d p.1)) ps

-- two changes, and depths that go together
module _ (a b : Change) (Together : ℕ → ℕ → Type 0) (deep : (d e : ℕ) → Together d e → Together (suc d) (suc e)) (resource : (d e : ℕ) → Together d e → (n : Name) → a.resource d n ≡ b.resource e n)
    (place : (d e : ℕ) → Together d e → (n : Name) → a.place d n ≡ b.place e n) (mark : (m : Bool) → a.mark m ≡ b.mark m) where
  place_at : (d e : ℕ) → Together d e → (p : Option Name) → place_by a d p ≡ place_by b e p
  place_at d e h None = refl
  place_at d e h (Some n) = place d e h n

  mutual
    value_at : (d e : ℕ) → Together d e → (v : ValueTree) → value_by a d v ≡ value_by b e v
    value_at d e h (Primitive p) = refl
    value_at d e h (TupleOf parts) = ap TupleOf (values_at d e h parts)
    value_at d e h (RecordOf p fields) = λ i. RecordOf (place_at d e h p i) (cases_at d e h fields i)
    value_at d e h (VariantOf p cases) = λ i. VariantOf (place_at d e h p i) (cases_at d e h cases i)
    value_at d e h (ListOf v) = ap ListOf (value_at d e h v)
    value_at d e h (FlagsOf p labels) = ap (λ p. FlagsOf p labels) (place_at d e h p)
    value_at d e h (EnumOf p labels) = ap (λ p. EnumOf p labels) (place_at d e h p)
    value_at d e h (OptionOf v) = ap OptionOf (value_at d e h v)
    value_at d e h (ResultOf ok err) = λ i. ResultOf (payload_at d e h ok i) (payload_at d e h err i)
    value_at d e h (Own r) = ap Own (resource d e h r)
    value_at d e h (Borrow r) = ap Borrow (resource d e h r)

    values_at : (d e : ℕ) → Together d e → (vs : ValueTrees) → values_by a d vs ≡ values_by b e vs
    values_at d e h none = refl
    values_at d e h (more v vs) = λ i. more (value_at d e h v i) (values_at d e h vs i)

    cases_at : (d e : ℕ) → Together d e → (cs : Cases) → cases_by a d cs ≡ cases_by b e cs
    cases_at d e h no_case = refl
    cases_at d e h (labelled label p cs) = λ i. labelled label (payload_at d e h p i) (cases_at d e h cs i)

    payload_at : (d e : ℕ) → Together d e → (p : Payload) → payload_by a d p ≡ payload_by b e p
    payload_at d e h absent = refl
    payload_at d e h (present v) = ap present (value_at d e h v)

  params_at : (d e : ℕ) → Together d e → (ps : List (List ℕ × ValueTree)) → params_by a d ps ≡ params_by b e ps
  params_at d e h [] = refl
  params_at d e h (p ∷ ps) = λ i. (p.0, value_at d e h p.1 i) ∷ params_at d e h ps i

  result_at : (d e : ℕ) → Together d e → (r : Option ValueTree) → option_map (value_by a d) r ≡ option_map (value_by b e) r
  result_at d e h None = refl
  result_at d e h (Some v) = ap Some (value_at d e h v)

  func_at : (d e : ℕ) → Together d e → (f : FuncTree) → func_by a d f ≡ func_by b e f
  func_at d e h f = λ i. record { params = params_at d e h f.params i; result = result_at d e h f.result i }

  mutual
    type_at : (d e : ℕ) → Together d e → (t : TypeShapeTree) → type_by a d t ≡ type_by b e t
    type_at d e h (Value v) = ap Value (value_at d e h v)
    type_at d e h (Resource r) = ap Resource (resource d e h r)
    type_at d e h (Func f) = ap Func (func_at d e h f)
    type_at d e h (Instance es) = ap Instance (entries_at (suc d) (suc e) (deep d e h) es)
    type_at d e h (Component is es) = λ i. Component (entries_at (suc (suc d)) (suc (suc e)) (deep (suc d) (suc e) (deep d e h)) is i) (entries_at (suc (suc d)) (suc (suc e)) (deep (suc d) (suc e) (deep d e h)) es i)

    entity_at : (d e : ℕ) → Together d e → (t : EntityTree) → entity_by a d t ≡ entity_by b e t
    entity_at d e h (IsType t) = ap IsType (type_at d e h t)
    entity_at d e h (IsFunc f) = ap IsFunc (func_at d e h f)
    entity_at d e h (IsInstance es) = ap IsInstance (entries_at d e h es)
    entity_at d e h (IsComponent is es) = λ i. IsComponent (entries_at (suc (suc d)) (suc (suc e)) (deep (suc d) (suc e) (deep d e h)) is i) (entries_at (suc (suc d)) (suc (suc e)) (deep (suc d) (suc e) (deep d e h)) es i)
    entity_at d e h (IsModule m) = refl
    entity_at d e h IsOwnModule = refl

    pub entries_at : (d e : ℕ) → Together d e → (es : Entries) → entries_by a d es ≡ entries_by b e es
    entries_at d e h no_entry = refl
    entries_at d e h (entry name x m es) = λ i. entry name (entity_at d e h x i) (mark m i) (entries_at d e h es i)

-- places are left out at each depth
pub bare_at : (d : ℕ) (es : Entries) → entries_by without_places 0 es ≡ entries_by without_places d es
bare_at d es = entries_at without_places without_places (λ a b. Unit {0}) (λ a b h. tt) (λ a b h n. refl) (λ a b h n. refl) (λ m. refl) 0 d tt es

-- names of scopes around a scope, within it
outside_outside : (f : Name → Name) (w d e : ℕ) → e ≡ d + w → (n : Name) → outside (outside f w) d n ≡ outside f e n
outside_outside f w d e is n = one (nat_lt n.out d) (nat_lt (n.out - d) w) (nat_lt n.out e) refl refl refl
  where
    one : (a b c : Bool) → nat_lt n.out d ≡ a → nat_lt (n.out - d) w ≡ b → nat_lt n.out e ≡ c
        → cond a n (deeper d (cond b (record n { out = n.out - d }) (deeper w (f (record n { out = n.out - d - w }))))) ≡ cond c n (deeper e (f (record n { out = n.out - e })))
    one true b true ha hb hc = refl
    one false true true ha hb hc = let back : n.out - d + d ≡ n.out = grind (arith, ha) in ap (λ m. record { out = m; number = n.number }) back
    one false false false ha hb hc =
        let rest : n.out - d - w ≡ n.out - e = grind (arith, is) in
        ap (λ m. deeper d (deeper w (f (record { out = m; number = n.number })))) rest ∙ sums (f (record { out = n.out - e; number = n.number }))
      where
        sums : (m : Name) → deeper d (deeper w m) ≡ deeper e m
        sums m = let sum : m.out + w + d ≡ m.out + e = grind (arith, is) in ap (λ o. record { out = o; number = m.number }) sum
    one true b false ha hb hc = absurd (grind (arith, ha, hc, is))
    one false true false ha hb hc = absurd (grind (arith, ha, hb, hc, is))
    one false false true ha hb hc = absurd (grind (arith, ha, hb, hc, is))

pub placing_within : (f : Name → Name) (w : ℕ) (es : Entries) → entries_by (placing (outside f w)) 0 es ≡ entries_by (placing f) w es
placing_within f w es = entries_at (placing (outside f w)) (placing f) (λ d e. e ≡ d + w) (λ d e h. one_more d e h) (λ d e h n. outside_outside f w d e h n) (λ d e h n. refl) (λ m. refl) 0 w none_more es
  where
    one_more : (d e : ℕ) → e ≡ d + w → suc e ≡ suc d + w
    one_more d e h = omega (arith, h)

    none_more : w ≡ 0 + w
    none_more = omega arith
