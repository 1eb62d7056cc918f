-- What trees mention from one scope further in.
use Rattle.std.proofs.Common.{◌≡◌, ℕ, suc, List, [], ◌∷◌, ◌++◌, map, Option, Some, None, refl, sym, ◌∙◌}
use Rattle.std.specs.Prelude.{flat_map, option_to_list}
use Rattle.std.proofs.lemmas.List.{map-append}
use Rattle.comp_entity.specs.Entity.{Name, ValueTree, Primitive, TupleOf, RecordOf, VariantOf, ListOf, FlagsOf, EnumOf, OptionOf, ResultOf, Own, Borrow, ValueTrees, none, more, Cases, no_case, labelled, Payload, absent, present, FuncTree, TypeShapeTree, Value, Resource, Func, Instance, Component, EntityTree, IsType, IsFunc, IsInstance, IsComponent, IsModule, IsOwnModule, Entries, no_entry, entry}
use Rattle.comp_entity.specs.Names.{Mention, at_place, in_value, in_values, in_cases, in_payload, in_func, in_type, in_entity, in_entries}

abbrev pub deepen : ℕ × Mention → ℕ × Mention
deepen x = (suc x.0, x.1)

abbrev pub deepened : List (ℕ × Mention) → List (ℕ × Mention)
deepened xs = map deepen xs

both_deep : (xs ys zs ws : List (ℕ × Mention)) → xs ≡ deepened ys → zs ≡ deepened ws → xs ++ zs ≡ deepened (ys ++ ws)
both_deep xs ys zs ws a b = (λ i. a i ++ b i) ∙ sym (map-append deepen ys ws)

place_deep : (d : ℕ) (p : Option Name) → at_place (suc d) p ≡ deepened (at_place d p)
place_deep d None = refl
place_deep d (Some n) = refl

mutual
  value_deep : (d : ℕ) (t : ValueTree) → in_value (suc d) t ≡ deepened (in_value d t)
  value_deep d (Primitive p) = refl
  value_deep d (TupleOf ts) = values_deep d ts
  value_deep d (RecordOf p cs) =
      both_deep (at_place (suc d) p) (at_place d p) (in_cases (suc d) cs) (in_cases d cs) (place_deep d p)
      (cases_deep d cs)
  value_deep d (VariantOf p cs) =
      both_deep (at_place (suc d) p) (at_place d p) (in_cases (suc d) cs) (in_cases d cs) (place_deep d p)
      (cases_deep d cs)
  value_deep d (ListOf t) = value_deep d t
  value_deep d (FlagsOf p ls) = place_deep d p
  value_deep d (EnumOf p ls) = place_deep d p
  value_deep d (OptionOf t) = value_deep d t
  value_deep d (ResultOf ok err) =
      both_deep (in_payload (suc d) ok) (in_payload d ok) (in_payload (suc d) err) (in_payload d err)
      (payload_deep d ok) (payload_deep d err)
  value_deep d (Own r) = refl
  value_deep d (Borrow r) = refl

  values_deep : (d : ℕ) (ts : ValueTrees) → in_values (suc d) ts ≡ deepened (in_values d ts)
  values_deep d none = refl
  values_deep d (more t ts) =
      both_deep (in_value (suc d) t) (in_value d t) (in_values (suc d) ts) (in_values d ts) (value_deep d t)
      (values_deep d ts)

  cases_deep : (d : ℕ) (cs : Cases) → in_cases (suc d) cs ≡ deepened (in_cases d cs)
  cases_deep d no_case = refl
  cases_deep d (labelled label p cs) =
      both_deep (in_payload (suc d) p) (in_payload d p) (in_cases (suc d) cs) (in_cases d cs) (payload_deep d p)
      (cases_deep d cs)

  payload_deep : (d : ℕ) (p : Payload) → in_payload (suc d) p ≡ deepened (in_payload d p)
  payload_deep d absent = refl
  payload_deep d (present t) = value_deep d t

params_deep : (d : ℕ) (ps : List (List ℕ × ValueTree))
    → flat_map (λ p. in_value (suc d) p.1) ps ≡ deepened (flat_map (λ p. in_value d p.1) ps)
params_deep d [] = refl
params_deep d (p ∷ ps) =
    both_deep (in_value (suc d) p.1) (in_value d p.1) (flat_map (λ p. in_value (suc d) p.1) ps)
    (flat_map (λ p. in_value d p.1) ps) (value_deep d p.1) (params_deep d ps)

result_deep : (d : ℕ) (r : List ValueTree) → flat_map (in_value (suc d)) r ≡ deepened (flat_map (in_value d) r)
result_deep d [] = refl
result_deep d (t ∷ ts) =
    both_deep (in_value (suc d) t) (in_value d t) (flat_map (in_value (suc d)) ts) (flat_map (in_value d) ts)
    (value_deep d t) (result_deep d ts)

func_deep : (d : ℕ) (f : FuncTree) → in_func (suc d) f ≡ deepened (in_func d f)
func_deep d f =
    both_deep (flat_map (λ p. in_value (suc d) p.1) f.params) (flat_map (λ p. in_value d p.1) f.params)
    (flat_map (in_value (suc d)) (option_to_list f.result)) (flat_map (in_value d) (option_to_list f.result))
    (params_deep d f.params) (result_deep d (option_to_list f.result))

mutual
  type_deep : (d : ℕ) (t : TypeShapeTree) → in_type (suc d) t ≡ deepened (in_type d t)
  type_deep d (Value t) = value_deep d t
  type_deep d (Resource r) = refl
  type_deep d (Func f) = func_deep d f
  type_deep d (Instance es) = entries_deep (suc d) es
  type_deep d (Component is es) =
      both_deep (in_entries (suc (suc (suc d))) is) (in_entries (suc (suc d)) is) (in_entries (suc (suc (suc d))) es)
      (in_entries (suc (suc d)) es) (entries_deep (suc (suc d)) is) (entries_deep (suc (suc d)) es)

  entity_deep : (d : ℕ) (e : EntityTree) → in_entity (suc d) e ≡ deepened (in_entity d e)
  entity_deep d (IsType t) = type_deep d t
  entity_deep d (IsFunc f) = func_deep d f
  entity_deep d (IsInstance es) = entries_deep d es
  entity_deep d (IsComponent is es) =
      both_deep (in_entries (suc (suc (suc d))) is) (in_entries (suc (suc d)) is) (in_entries (suc (suc (suc d))) es)
      (in_entries (suc (suc d)) es) (entries_deep (suc (suc d)) is) (entries_deep (suc (suc d)) es)
  entity_deep d (IsModule m) = refl
  entity_deep d IsOwnModule = refl

  pub entries_deep : (d : ℕ) (es : Entries) → in_entries (suc d) es ≡ deepened (in_entries d es)
  entries_deep d no_entry = refl
  entries_deep d (entry name e mark es) =
      both_deep (in_entity (suc d) e) (in_entity d e) (in_entries (suc d) es) (in_entries d es) (entity_deep d e)
      (entries_deep d es)
