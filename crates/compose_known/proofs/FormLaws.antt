-- Entities keep their form where names are changed, and where they are merged.
use Rattle.std.proofs.Common.{◌≡◌, ◌<◌, ◌≤◌, ℕ, suc, Bool, true, false, List, [], ◌∷◌, ◌++◌, length, map, Option, Some, None, refl, sym, ap, subst, arith, append_assoc, ◌+◌}
use Rattle.std.specs.Prelude.{IfSome, IsSome, bytes_eq, is_none, is_some, not, option_map, if◌then◌else◌}
use Rattle.std.specs.List.{AllByRecursion}
use Rattle.std.proofs.lemmas.List.Elements.{recursion_from_All, All-from_recursion}
use Rattle.comp_format.specs.Forms.{AreLabels}
use Rattle.comp_entity.specs.Entity.{Name, ValueTree, Primitive, TupleOf, RecordOf, VariantOf, ListOf, FlagsOf, EnumOf, OptionOf, ResultOf, Own, Borrow, ValueTrees, none, more, Cases, no_case, labelled, Payload, absent, present, FuncTree, TypeShapeTree, Value, Resource, Func, Instance, Component, EntityTree, IsType, IsFunc, IsInstance, IsComponent, IsModule, IsOwnModule, Entries, no_entry, entry, ShapeTree}
use Rattle.comp_entity.specs.Names.{Change, changing, place_by, value_by, values_by, cases_by, payload_by, func_by, type_by, entity_by, entries_by}
use Rattle.comp_entity.specs.Fits.{under}
use Rattle.comp_entity.specs.Views.{entries_of}
use Rattle.compose_left.specs.Merging.{followed_by, is_absent, new_in, union}
use Rattle.compose_left.specs.Origins.{of_resource, of_type, placed}
use Rattle.compose_left.specs.Wiring.{Wiring, wire_into}
use Rattle.compose_order.specs.Needs.{LeftTree}
use Rattle.compose_writing.specs.Conditions.{AreFields, AreLabelled, HasPart, IsThere, KeepsCases, KeepsEntries, KeepsForm, KeepsFunc, KeepsPayload, KeepsType, KeepsValue, KeepsValues, labels_of}
use Rattle.compose_origins.specs.Named.{HasOwnNames, HaveOwnNames}
use Rattle.compose_known.specs.Placed.{HasPlace, HasPlaces, HavePlaces}
use Rattle.compose_check.specs.Open.{Asked, asked_by, asked_by_all, asked_from, left_open, merged_with, with_asked}

-- ---- changed names

module _ (c : Change) where
  labels_kept : (d : ℕ) (cs : Cases) → labels_of (cases_by c d cs) ≡ labels_of cs
  labels_kept d no_case = refl
  labels_kept d (labelled label p cs) = ap (λ ls. label ∷ ls) (labels_kept d cs)

  labelled_kept : (d : ℕ) (cs : Cases) → AreLabelled cs → AreLabelled (cases_by c d cs)
  labelled_kept d cs k = subst (λ ls. (0 < length ls) × AreLabels ls) (sym (labels_kept d cs)) k

  there_kept : (d : ℕ) (p : Payload) → IsThere p → IsThere (payload_by c d p)
  there_kept d absent k = k
  there_kept d (present t) k = k

  fields_kept : (d : ℕ) (cs : Cases) → AreFields cs → AreFields (cases_by c d cs)
  fields_kept d no_case k = k
  fields_kept d (labelled label p cs) k = (there_kept d p k.0, fields_kept d cs k.1)

  part_kept : (d : ℕ) (ts : ValueTrees) → HasPart ts → HasPart (values_by c d ts)
  part_kept d none k = k
  part_kept d (more t ts) k = k

  mutual
    value_keeps : (d : ℕ) (t : ValueTree) → KeepsValue t → KeepsValue (value_by c d t)
    value_keeps d (Primitive p) k = k
    value_keeps d (TupleOf ts) k = (part_kept d ts k.0, values_keep d ts k.1)
    value_keeps d (RecordOf p cs) k = (labelled_kept d cs k.0, fields_kept d cs k.1, cases_keep d cs k.2)
    value_keeps d (VariantOf p cs) k = (labelled_kept d cs k.0, cases_keep d cs k.1)
    value_keeps d (ListOf t) k = value_keeps d t k
    value_keeps d (FlagsOf p ls) k = k
    value_keeps d (EnumOf p ls) k = k
    value_keeps d (OptionOf t) k = value_keeps d t k
    value_keeps d (ResultOf ok err) k = (payload_keeps d ok k.0, payload_keeps d err k.1)
    value_keeps d (Own r) k = k
    value_keeps d (Borrow r) k = k

    values_keep : (d : ℕ) (ts : ValueTrees) → KeepsValues ts → KeepsValues (values_by c d ts)
    values_keep d none k = k
    values_keep d (more t ts) k = (value_keeps d t k.0, values_keep d ts k.1)

    cases_keep : (d : ℕ) (cs : Cases) → KeepsCases cs → KeepsCases (cases_by c d cs)
    cases_keep d no_case k = k
    cases_keep d (labelled label p cs) k = (payload_keeps d p k.0, cases_keep d cs k.1)

    payload_keeps : (d : ℕ) (p : Payload) → KeepsPayload p → KeepsPayload (payload_by c d p)
    payload_keeps d absent k = k
    payload_keeps d (present t) k = value_keeps d t k

  abbrev param_by : ℕ → List ℕ × ValueTree → List ℕ × ValueTree
  param_by d p = (p.0, value_by c d p.1)

  abbrev KeepsParam : List ℕ × ValueTree → Type 0
  KeepsParam p = KeepsValue p.1

  abbrev label_of : List ℕ × ValueTree → List ℕ
  label_of p = p.0

  param_labels : (d : ℕ) (ps : List (List ℕ × ValueTree)) → map label_of (map (param_by d) ps) ≡ map label_of ps
  param_labels d [] = refl
  param_labels d (p ∷ ps) = ap (λ ls. p.0 ∷ ls) (param_labels d ps)

  params_keep : (d : ℕ) (ps : List (List ℕ × ValueTree)) → AllByRecursion KeepsParam ps
      → AllByRecursion KeepsParam (map (param_by d) ps)
  params_keep d [] a = tt
  params_keep d (p ∷ ps) a = (value_keeps d p.1 a.0, params_keep d ps a.1)

  result_keeps : (d : ℕ) (r : Option ValueTree) → IfSome r KeepsValue → IfSome (option_map (value_by c d) r) KeepsValue
  result_keeps d None k = k
  result_keeps d (Some t) k = value_keeps d t k

  func_keeps : (d : ℕ) (f : FuncTree) → KeepsFunc f → KeepsFunc (func_by c d f)
  func_keeps d f k = (
    subst AreLabels (sym (param_labels d f.params)) k.0,
    All-from_recursion KeepsParam (map (param_by d) f.params)
        (params_keep d f.params (recursion_from_All KeepsParam f.params k.1)),
    result_keeps d f.result k.2,
  )

  mutual
    type_keeps : (d : ℕ) (t : TypeShapeTree) → KeepsType t → KeepsType (type_by c d t)
    type_keeps d (Value t) k = value_keeps d t k
    type_keeps d (Resource r) k = k
    type_keeps d (Func f) k = func_keeps d f k
    type_keeps d (Instance es) k = entries_keep (suc d) es k
    type_keeps d (Component is es) k = (entries_keep (suc (suc d)) is k.0, entries_keep (suc (suc d)) es k.1)

    pub entity_keeps : (d : ℕ) (e : EntityTree) → KeepsForm e → KeepsForm (entity_by c d e)
    entity_keeps d (IsType t) k = type_keeps d t k
    entity_keeps d (IsFunc f) k = func_keeps d f k
    entity_keeps d (IsInstance es) k = entries_keep d es k
    entity_keeps d (IsComponent is es) k = (entries_keep (suc (suc d)) is k.0, entries_keep (suc (suc d)) es k.1)
    entity_keeps d (IsModule m) k = k
    entity_keeps d IsOwnModule k = k

    entries_keep : (d : ℕ) (es : Entries) → KeepsEntries es → KeepsEntries (entries_by c d es)
    entries_keep d no_entry k = k
    entries_keep d (entry name e mark es) k = (k.0, entity_keeps d e k.1, entries_keep d es k.2)

-- ---- names of exports, and places

module _ (r p : Name → Name) where
  place_kept : (d : ℕ) (o : Option Name) → IsSome o → IsSome (place_by (changing r p) d o)
  place_kept d None k = absurd cc
  place_kept d (Some n) k = refl

  value_placed : (d : ℕ) (t : ValueTree) → HasPlace t → HasPlace (value_by (changing r p) d t)
  value_placed d (Primitive x) k = k
  value_placed d (TupleOf ts) k = k
  value_placed d (RecordOf o cs) k = place_kept d o k
  value_placed d (VariantOf o cs) k = place_kept d o k
  value_placed d (ListOf t) k = k
  value_placed d (FlagsOf o ls) k = place_kept d o k
  value_placed d (EnumOf o ls) k = place_kept d o k
  value_placed d (OptionOf t) k = k
  value_placed d (ResultOf ok err) k = k
  value_placed d (Own n) k = k
  value_placed d (Borrow n) k = k

  mutual
    pub entity_placed : (d : ℕ) (e : EntityTree) → HasPlaces e → HasPlaces (entity_by (changing r p) d e)
    entity_placed d (IsType (Value t)) k = value_placed d t k
    entity_placed d (IsType (Resource n)) k = k
    entity_placed d (IsType (Func f)) k = k
    entity_placed d (IsType (Instance es)) k = k
    entity_placed d (IsType (Component is es)) k = k
    entity_placed d (IsFunc f) k = k
    entity_placed d (IsInstance es) k = entries_placed d es k
    entity_placed d (IsComponent is es) k = k
    entity_placed d (IsModule m) k = k
    entity_placed d IsOwnModule k = k

    entries_placed : (d : ℕ) (es : Entries) → HavePlaces es → HavePlaces (entries_by (changing r p) d es)
    entries_placed d no_entry k = k
    entries_placed d (entry name e mark es) k = (entity_placed d e k.0, entries_placed d es k.1)

module _ (c : Change) where
  absent_kept : (d : ℕ) (name : List ℕ) (es : Entries) → is_absent name es ≡ true
      → is_absent name (entries_by c d es) ≡ true
  absent_kept d name no_entry a = a
  absent_kept d name (entry n e mark es) a = one (bytes_eq name n) a (absent_kept d name es)
    where
      one : (b : Bool) → not (is_some (if b then Some (e, mark) else under name es)) ≡ true
          → (is_absent name es ≡ true → is_absent name (entries_by c d es) ≡ true)
          → not (is_some (if b then Some (entity_by c d e, c.mark mark) else under name (entries_by c d es))) ≡ true
      one true a rest = absurd cc
      one false a rest = rest a

  mutual
    pub entity_own : (d : ℕ) (e : EntityTree) → HasOwnNames e → HasOwnNames (entity_by c d e)
    entity_own d (IsType t) k = k
    entity_own d (IsFunc f) k = k
    entity_own d (IsInstance es) k = entries_own d es k
    entity_own d (IsComponent is es) k = k
    entity_own d (IsModule m) k = k
    entity_own d IsOwnModule k = k

    entries_own : (d : ℕ) (es : Entries) → HaveOwnNames es → HaveOwnNames (entries_by c d es)
    entries_own d no_entry k = k
    entries_own d (entry name e mark es) k = (absent_kept d name es k.0, entity_own d e k.1, entries_own d es k.2)

-- ---- unions

followed_keeps : (es rest : Entries) → KeepsEntries es → KeepsEntries rest → KeepsEntries (followed_by es rest)
followed_keeps no_entry rest k l = l
followed_keeps (entry name e mark es) rest k l = (k.0, k.1, followed_keeps es rest k.2 l)

new_keeps : (es fs : Entries) → KeepsEntries fs → KeepsEntries (new_in es fs)
new_keeps es no_entry k = k
new_keeps es (entry name f mark fs) k = one (is_absent name es) (new_keeps es fs k.2)
  where
    one : (b : Bool) → KeepsEntries (new_in es fs)
        → KeepsEntries (if b then entry name f mark (new_in es fs) else new_in es fs)
    one true rest = (k.0, k.1, rest)
    one false rest = rest

union_keeps : (a b : EntityTree) → KeepsForm a → KeepsForm b → KeepsForm (union a b)
union_keeps (IsInstance es) (IsInstance fs) k l = followed_keeps es (new_in es fs) k (new_keeps es fs l)
union_keeps a b k l = k

-- ---- merged imports

-- a name that is not empty, and the form of an entity
abbrev pub KeepsNamed : List ℕ × EntityTree → Type 0
KeepsNamed x = (0 < length x.0) × KeepsForm x.1

abbrev pub KeepsLeft : LeftTree → Type 0
KeepsLeft l = (0 < length l.name) × KeepsForm l.entity

pub form_still : (ls : List LeftTree) (x : Asked) → KeepsNamed x → AllByRecursion KeepsLeft ls
    → AllByRecursion KeepsLeft (with_asked ls x)
form_still [] x k a = (k, tt)
form_still (l ∷ ls) x k a = one (bytes_eq x.0 l.name) (form_still ls x k a.1)
  where
    one : (b : Bool) → AllByRecursion KeepsLeft (with_asked ls x)
        → AllByRecursion KeepsLeft (if b then merged_with l x.1 ∷ ls else l ∷ with_asked ls x)
    one true rest = ((a.0.0, union_keeps l.entity x.1 a.0.1 k.1), a.1)
    one false rest = (a.0, rest)

-- ---- what is asked

pub record ShapeKeeps (s : ShapeTree) : Type 0 where
  pub form : KeepsEntries (entries_of s.imports)
  pub apart : AllByRecursion (λ (e : List ℕ × EntityTree). HasOwnNames e.1) s.imports
  pub placed : AllByRecursion (λ (e : List ℕ × EntityTree). HasPlaces e.1) s.imports

-- a need of an instance that is there
pub record IsAsked (w : Wiring) (x : Asked) : Type 0 where
  pub instance : ℕ
  pub there : instance < length w.shapes
  pub entity : EntityTree
  pub is : x.1 ≡ placed w instance entity
  pub keeps : KeepsNamed x
  pub own : HasOwnNames x.1
  pub placed : HasPlaces x.1

module _ (w : Wiring) where
  asked_one : (i number : ℕ) (e : List ℕ × EntityTree) (xs : List Asked) → i < length w.shapes → KeepsNamed e
      → HasOwnNames e.1 → HasPlaces e.1 → AllByRecursion (IsAsked w) xs
      → AllByRecursion (IsAsked w) (asked_by w i number e ++ xs)
  asked_one i number e xs lt k own places a = one (is_none (wire_into w.wires i number))
    where
      one : (b : Bool) → AllByRecursion (IsAsked w) ((if b then (e.0, placed w i e.1) ∷ [] else []) ++ xs)
      one true = (
        record {
          instance = i;
          there = lt;
          entity = e.1;
          is = refl;
          keeps =
              (k.0, entity_keeps _ 0 e.1 k.1);
          own =
              entity_own (changing (of_resource w i) (of_type w i)) 0 e.1 own;
          placed =
              entity_placed (of_resource w i) (of_type w i) 0 e.1 places;
        },
        a,
      )
      one false = a

  asked_imports : (i number : ℕ) (es : List (List ℕ × EntityTree)) (xs : List Asked) → i < length w.shapes
      → KeepsEntries (entries_of es)
      → AllByRecursion (λ (e : List ℕ × EntityTree). HasOwnNames e.1) es
      → AllByRecursion (λ (e : List ℕ × EntityTree). HasPlaces e.1) es → AllByRecursion (IsAsked w) xs
      → AllByRecursion (IsAsked w) (asked_from w i number es ++ xs)
  asked_imports i number [] xs lt k own places a = a
  asked_imports i number (e ∷ es) xs lt k own places a =
      subst (AllByRecursion (IsAsked w)) (sym (append_assoc (asked_by w i number e)
      (asked_from w i (suc number) es) xs))
      (asked_one i number e (asked_from w i (suc number) es ++ xs) lt (k.0, k.1) own.0 places.0
      (asked_imports i (suc number) es xs lt k.2 own.1 places.1 a))

  asked_shapes : (i : ℕ) (ss : List ShapeTree) → i + length ss ≤ length w.shapes → AllByRecursion ShapeKeeps ss
      → AllByRecursion (IsAsked w) (asked_by_all w i ss)
  asked_shapes i [] le k = tt
  asked_shapes i (s ∷ ss) le k =
      asked_imports i 0 s.imports (asked_by_all w (suc i) ss) (omega (arith, le)) k.0.form k.0.apart k.0.placed
      (asked_shapes (suc i) ss (omega (arith, le)) k.1)

  pub all_asked : AllByRecursion ShapeKeeps w.shapes → AllByRecursion (IsAsked w) (left_open w)
  all_asked k = asked_shapes 0 w.shapes (omega arith) k
