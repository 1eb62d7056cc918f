-- What lies in memory lies there in other names too.
use Rattle.std.proofs.Common.{ℕ, suc, List, [], ◌∷◌, map, Option, Some, None}
use Rattle.std.specs.Prelude.{option_map}
use Rattle.std.specs.List.{AllByRecursion}
use Rattle.comp_entity.specs.Entity.{ValueTree, Primitive, TupleOf, RecordOf, VariantOf, ListOf, FlagsOf, EnumOf, OptionOf, ResultOf, Own, Borrow, ValueTrees, none, more, Cases, no_case, labelled, Payload, absent, present, FuncTree, TypeShapeTree, Value, Resource, Func, Instance, Component, EntityTree, IsType, IsFunc, IsInstance, IsComponent, IsModule, IsOwnModule, Entries, no_entry, entry}
use Rattle.comp_entity.specs.Names.{Change, value_by, values_by, cases_by, payload_by, func_by, type_by, entity_by, entries_by}
use Rattle.comp_table.specs.Shown.{IsShownType, IsShown, AreShown}
use Rattle.comp_view.specs.Fields.{HasFields, AllHaveFields, AreFields, CasesHaveFields, HeldHasFields, ResultHasFields, FuncHasFields, TypeHasFields, EntityHasFields, EntriesHaveFields}

module _ (c : Change) where
  mutual
    pub value_kept : (d : ℕ) (v : ValueTree) → HasFields v → HasFields (value_by c d v)
    value_kept d (Primitive p) h = tt
    value_kept d (TupleOf ts) h = values_kept d ts h
    value_kept d (RecordOf place fields) h = fields_kept d fields h
    value_kept d (VariantOf place cases) h = cases_kept d cases h
    value_kept d (ListOf t) h = value_kept d t h
    value_kept d (FlagsOf place labels) h = tt
    value_kept d (EnumOf place labels) h = tt
    value_kept d (OptionOf t) h = value_kept d t h
    value_kept d (ResultOf ok err) h = (held_kept d ok h.0, held_kept d err h.1)
    value_kept d (Own r) h = tt
    value_kept d (Borrow r) h = tt

    values_kept : (d : ℕ) (ts : ValueTrees) → AllHaveFields ts → AllHaveFields (values_by c d ts)
    values_kept d none h = tt
    values_kept d (more t ts) h = (value_kept d t h.0, values_kept d ts h.1)

    fields_kept : (d : ℕ) (fs : Cases) → AreFields fs → AreFields (cases_by c d fs)
    fields_kept d no_case h = tt
    fields_kept d (labelled label absent fs) h = absurd h
    fields_kept d (labelled label (present t) fs) h = (value_kept d t h.0, fields_kept d fs h.1)

    cases_kept : (d : ℕ) (cs : Cases) → CasesHaveFields cs → CasesHaveFields (cases_by c d cs)
    cases_kept d no_case h = tt
    cases_kept d (labelled label payload cs) h = (held_kept d payload h.0, cases_kept d cs h.1)

    held_kept : (d : ℕ) (p : Payload) → HeldHasFields p → HeldHasFields (payload_by c d p)
    held_kept d absent h = tt
    held_kept d (present t) h = value_kept d t h

  params_kept : (d : ℕ) (ps : List (List ℕ × ValueTree)) → AllByRecursion (λ p. HasFields p.1) ps → AllByRecursion (λ (p : List ℕ × ValueTree). HasFields p.1) (map (λ (p : List ℕ × ValueTree). (p.0, value_by c d p.1)) ps)
  params_kept d [] h = tt
  params_kept d (p ∷ ps) h = (value_kept d p.1 h.0, params_kept d ps h.1)

  result_kept : (d : ℕ) (r : Option ValueTree) → ResultHasFields r → ResultHasFields (option_map (value_by c d) r)
  result_kept d None h = tt
  result_kept d (Some t) h = value_kept d t h

  pub func_kept : (d : ℕ) (f : FuncTree) → FuncHasFields f → FuncHasFields (func_by c d f)
  func_kept d f h = (params_kept d f.params h.0, result_kept d f.result h.1)

  mutual
    pub type_kept : (d : ℕ) (t : TypeShapeTree) → TypeHasFields t → TypeHasFields (type_by c d t)
    type_kept d (Value t) h = value_kept d t h
    type_kept d (Resource r) h = tt
    type_kept d (Func f) h = func_kept d f h
    type_kept d (Instance exports) h = entries_kept (suc d) exports h
    type_kept d (Component imports exports) h = (entries_kept (suc (suc d)) imports h.0, entries_kept (suc (suc d)) exports h.1)

    pub entity_kept : (d : ℕ) (e : EntityTree) → EntityHasFields e → EntityHasFields (entity_by c d e)
    entity_kept d (IsType t) h = type_kept d t h
    entity_kept d (IsFunc f) h = func_kept d f h
    entity_kept d (IsInstance exports) h = entries_kept d exports h
    entity_kept d (IsComponent imports exports) h = (entries_kept (suc (suc d)) imports h.0, entries_kept (suc (suc d)) exports h.1)
    entity_kept d (IsModule m) h = tt
    entity_kept d IsOwnModule h = tt

    pub entries_kept : (d : ℕ) (es : Entries) → EntriesHaveFields es → EntriesHaveFields (entries_by c d es)
    entries_kept d no_entry h = tt
    entries_kept d (entry name e mark es) h = (entity_kept d e h.0, entries_kept d es h.1)

  mutual
    pub type_shown : (d : ℕ) (t : TypeShapeTree) → IsShownType t → IsShownType (type_by c d t)
    type_shown d (Value t) h = tt
    type_shown d (Resource r) h = tt
    type_shown d (Func f) h = tt
    type_shown d (Instance exports) h = entries_shown (suc d) exports h
    type_shown d (Component imports exports) h = (entries_shown (suc (suc d)) imports h.0, entries_shown (suc (suc d)) exports h.1)

    pub entity_shown : (d : ℕ) (e : EntityTree) → IsShown e → IsShown (entity_by c d e)
    entity_shown d (IsType t) h = type_shown d t h
    entity_shown d (IsFunc f) h = tt
    entity_shown d (IsInstance exports) h = entries_shown d exports h
    entity_shown d (IsComponent imports exports) h = (entries_shown (suc (suc d)) imports h.0, entries_shown (suc (suc d)) exports h.1)
    entity_shown d (IsModule m) h = tt
    entity_shown d IsOwnModule h = absurd h

    pub entries_shown : (d : ℕ) (es : Entries) → AreShown es → AreShown (entries_by c d es)
    entries_shown d no_entry h = tt
    entries_shown d (entry name e mark es) h = (entity_shown d e h.0, entries_shown d es h.1)
