-- Entities keep their form under other names.
use Rattle.std.proofs.Common.{◌≡◌, ℕ, suc, ◌<◌, List, [], ◌∷◌, length, map, Option, Some, None, refl, sym, ap, subst}
use Rattle.std.specs.Prelude.{IfSome, option_map, slice_index_or}
use Rattle.std.proofs.lemmas.List.Elements.{All-map}
use Rattle.comp_format.specs.Forms.{AreLabels}
use Rattle.comp_entity.specs.Entity.{ValueTree, Primitive, TupleOf, RecordOf, VariantOf, ListOf, FlagsOf, EnumOf, OptionOf, ResultOf, Own, Borrow, ValueTrees, none, more, Cases, no_case, labelled, Payload, absent, present, FuncTree, TypeShapeTree, Value, Resource, Func, Instance, Component, EntityTree, IsType, IsFunc, IsInstance, IsComponent, IsModule, IsOwnModule, Entries, no_entry, entry}
use Rattle.comp_entity.specs.Names.{Change, value_by, values_by, cases_by, payload_by, func_by, type_by, entity_by, entries_by}
use Rattle.compose_writing.specs.Conditions.{AreFields, AreLabelled, HasPart, IsThere, KeepsCases, KeepsEntries, KeepsForm, KeepsFunc, KeepsPayload, KeepsType, KeepsValue, KeepsValues, labels_of}

module _ (c : Change) where
  labels_kept : (d : ℕ) (cases : Cases) → labels_of (cases_by c d cases) ≡ labels_of cases
  labels_kept d no_case = refl
  labels_kept d (labelled label payload cases) = ap (λ ls. label ∷ ls) (labels_kept d cases)

  labelled_kept : (d : ℕ) (cases : Cases) → AreLabelled cases → AreLabelled (cases_by c d cases)
  labelled_kept d cases h = subst (λ (ls : List (List ℕ)). (0 < length ls) × AreLabels ls) (sym (labels_kept d cases)) h

  there_kept : (d : ℕ) (p : Payload) → IsThere p → IsThere (payload_by c d p)
  there_kept d absent h = h
  there_kept d (present t) h = h

  fields_kept : (d : ℕ) (cases : Cases) → AreFields cases → AreFields (cases_by c d cases)
  fields_kept d no_case h = h
  fields_kept d (labelled label payload cases) h = (there_kept d payload h.0, fields_kept d cases h.1)

  part_kept : (d : ℕ) (ts : ValueTrees) → HasPart ts → HasPart (values_by c d ts)
  part_kept d none h = h
  part_kept d (more t ts) h = h

  mutual
    pub value_kept : (d : ℕ) (t : ValueTree) → KeepsValue t → KeepsValue (value_by c d t)
    value_kept d (Primitive p) h = h
    value_kept d (TupleOf parts) h = (part_kept d parts h.0, values_kept d parts h.1)
    value_kept d (RecordOf place fields) h = (labelled_kept d fields h.0, fields_kept d fields h.1, cases_kept d fields h.2)
    value_kept d (VariantOf place cases) h = (labelled_kept d cases h.0, cases_kept d cases h.1)
    value_kept d (ListOf t) h = value_kept d t h
    value_kept d (FlagsOf place labels) h = h
    value_kept d (EnumOf place labels) h = h
    value_kept d (OptionOf t) h = value_kept d t h
    value_kept d (ResultOf ok err) h = (payload_kept d ok h.0, payload_kept d err h.1)
    value_kept d (Own r) h = h
    value_kept d (Borrow r) h = h

    values_kept : (d : ℕ) (ts : ValueTrees) → KeepsValues ts → KeepsValues (values_by c d ts)
    values_kept d none h = h
    values_kept d (more t ts) h = (value_kept d t h.0, values_kept d ts h.1)

    cases_kept : (d : ℕ) (cases : Cases) → KeepsCases cases → KeepsCases (cases_by c d cases)
    cases_kept d no_case h = h
    cases_kept d (labelled label payload cases) h = (payload_kept d payload h.0, cases_kept d cases h.1)

    payload_kept : (d : ℕ) (p : Payload) → KeepsPayload p → KeepsPayload (payload_by c d p)
    payload_kept d absent h = h
    payload_kept d (present t) h = value_kept d t h

  params_labels : (d : ℕ) (ps : List (List ℕ × ValueTree)) → map (λ (p : List ℕ × ValueTree). p.0) (map (λ (p : List ℕ × ValueTree). (p.0, value_by c d p.1)) ps) ≡ map (λ (p : List ℕ × ValueTree). p.0) ps
  params_labels d [] = refl
  params_labels d (p ∷ ps) = ap (λ ls. p.0 ∷ ls) (params_labels d ps)

  result_kept : (d : ℕ) (r : Option ValueTree) → IfSome r KeepsValue → IfSome (option_map (value_by c d) r) KeepsValue
  result_kept d None h = h
  result_kept d (Some t) h = value_kept d t h

  pub func_kept : (d : ℕ) (f : FuncTree) → KeepsFunc f → KeepsFunc (func_by c d f)
  func_kept d f h = (
    subst AreLabels (sym (params_labels d f.params)) h.0,
    All-map (λ (p : List ℕ × ValueTree). KeepsValue p.1) (λ (p : List ℕ × ValueTree). (p.0, value_by c d p.1)) f.params (λ k e lt. value_kept d (slice_index_or f.params k e).1 (h.1 k e lt)),
    result_kept d f.result h.2,
  )

  mutual
    pub type_kept : (d : ℕ) (t : TypeShapeTree) → KeepsType t → KeepsType (type_by c d t)
    type_kept d (Value t) h = value_kept d t h
    type_kept d (Resource r) h = h
    type_kept d (Func f) h = func_kept d f h
    type_kept d (Instance es) h = entries_kept (suc d) es h
    type_kept d (Component is es) h = (entries_kept (suc (suc d)) is h.0, entries_kept (suc (suc d)) es h.1)

    pub entity_kept : (d : ℕ) (e : EntityTree) → KeepsForm e → KeepsForm (entity_by c d e)
    entity_kept d (IsType t) h = type_kept d t h
    entity_kept d (IsFunc f) h = func_kept d f h
    entity_kept d (IsInstance es) h = entries_kept d es h
    entity_kept d (IsComponent is es) h = (entries_kept (suc (suc d)) is h.0, entries_kept (suc (suc d)) es h.1)
    entity_kept d (IsModule m) h = h
    entity_kept d IsOwnModule h = h

    pub entries_kept : (d : ℕ) (es : Entries) → KeepsEntries es → KeepsEntries (entries_by c d es)
    entries_kept d no_entry h = h
    entries_kept d (entry name e mark es) h = (h.0, entity_kept d e h.1, entries_kept d es h.2)
