-- What holds of the mentions of an entity holds of those of the entity in other names.
use Rattle.std.proofs.Common.{ℕ, suc, List, [], ◌∷◌, ◌++◌, map, Option, Some, None}
use Rattle.std.specs.Prelude.{flat_map, option_map, option_to_list}
use Rattle.comp_entity.specs.Entity.{Name, ValueTree, FuncTree, TypeShapeTree, Value, Resource, Func, Instance, Component, EntityTree, IsType, IsFunc, IsInstance, IsComponent, IsModule, IsOwnModule, Entries, no_entry, entry}
use Rattle.comp_entity.specs.Names.{Change, value_by, func_by, type_by, entity_by, entries_by, Mention, OfResource, OfPlace, in_value, in_func, in_type, in_entity, in_entries}
use Rattle.compose_meaning.proofs.ListLaws.{Each, each_both, each_left, each_right}
use Rattle.compose_meaning.proofs.MentionLaws.{value_each}

module _ (a b : Change) (P Q : ℕ × Mention → Type 0) (resource : (d : ℕ) (r : Name) → P (d, OfResource (a.resource d r)) → Q (d, OfResource (b.resource d r))) (place : (d : ℕ) (n : Name) → Q (d, OfPlace n)) where
  value_goes : (d : ℕ) (t : ValueTree) → Each P (in_value d (value_by a d t)) → Each Q (in_value d (value_by b d t))
  value_goes d t h = value_each d a b P Q (resource d) (place d) t h

  two : (vs ws xs ys : List (ℕ × Mention)) → (Each P vs → Each Q xs) → (Each P ws → Each Q ys) → Each P (vs ++ ws) → Each Q (xs ++ ys)
  two vs ws xs ys f g h = each_both Q xs ys (f (each_left P vs ws h)) (g (each_right P vs ws h))

  params_by : Change → ℕ → List (List ℕ × ValueTree) → List (List ℕ × ValueTree)
  params_by c d ps = map (λ p. (p.0, value_by c d p.1)) ps

  in_params : ℕ → List (List ℕ × ValueTree) → List (ℕ × Mention)
  in_params d ps = flat_map (λ (p : List ℕ × ValueTree). in_value d p.1) ps

  params_go : (d : ℕ) (ps : List (List ℕ × ValueTree)) → Each P (in_params d (params_by a d ps)) → Each Q (in_params d (params_by b d ps))
  unfolding params_by in_params
  params_go d [] h = tt
  params_go d (p ∷ ps) h = two (in_value d (value_by a d p.1)) (in_params d (params_by a d ps)) (in_value d (value_by b d p.1)) (in_params d (params_by b d ps)) (λ h. value_goes d p.1 h) (λ h. params_go d ps h) h

  result_goes : (d : ℕ) (r : Option ValueTree) → Each P (flat_map (in_value d) (option_to_list (option_map (value_by a d) r))) → Each Q (flat_map (in_value d) (option_to_list (option_map (value_by b d) r)))
  result_goes d None h = tt
  result_goes d (Some t) h = two (in_value d (value_by a d t)) [] (in_value d (value_by b d t)) [] (λ h. value_goes d t h) (λ h. tt) h

  func_goes : (d : ℕ) (f : FuncTree) → Each P (in_func d (func_by a d f)) → Each Q (in_func d (func_by b d f))
  unfolding params_by in_params
  func_goes d f h = two (in_params d (params_by a d f.params)) (flat_map (in_value d) (option_to_list (option_map (value_by a d) f.result))) (in_params d (params_by b d f.params)) (flat_map (in_value d) (option_to_list (option_map (value_by b d) f.result)))
      (λ h. params_go d f.params h) (λ h. result_goes d f.result h) h

  mutual
    type_goes : (d : ℕ) (t : TypeShapeTree) → Each P (in_type d (type_by a d t)) → Each Q (in_type d (type_by b d t))
    type_goes d (Value t) h = value_goes d t h
    type_goes d (Resource r) h = (resource d r h.0, tt)
    type_goes d (Func f) h = func_goes d f h
    type_goes d (Instance es) h = entries_go (suc d) es h
    type_goes d (Component is es) h = two (in_entries (suc (suc d)) (entries_by a (suc (suc d)) is)) (in_entries (suc (suc d)) (entries_by a (suc (suc d)) es)) (in_entries (suc (suc d)) (entries_by b (suc (suc d)) is)) (in_entries (suc (suc d)) (entries_by b (suc (suc d)) es))
        (λ h. entries_go (suc (suc d)) is h) (λ h. entries_go (suc (suc d)) es h) h

    entity_goes : (d : ℕ) (e : EntityTree) → Each P (in_entity d (entity_by a d e)) → Each Q (in_entity d (entity_by b d e))
    entity_goes d (IsType t) h = type_goes d t h
    entity_goes d (IsFunc f) h = func_goes d f h
    entity_goes d (IsInstance es) h = entries_go d es h
    entity_goes d (IsComponent is es) h = two (in_entries (suc (suc d)) (entries_by a (suc (suc d)) is)) (in_entries (suc (suc d)) (entries_by a (suc (suc d)) es)) (in_entries (suc (suc d)) (entries_by b (suc (suc d)) is)) (in_entries (suc (suc d)) (entries_by b (suc (suc d)) es))
        (λ h. entries_go (suc (suc d)) is h) (λ h. entries_go (suc (suc d)) es h) h
    entity_goes d (IsModule m) h = tt
    entity_goes d IsOwnModule h = tt

    pub entries_go : (d : ℕ) (es : Entries) → Each P (in_entries d (entries_by a d es)) → Each Q (in_entries d (entries_by b d es))
    entries_go d no_entry h = tt
    entries_go d (entry name e mark es) h = two (in_entity d (entity_by a d e)) (in_entries d (entries_by a d es)) (in_entity d (entity_by b d e)) (in_entries d (entries_by b d es)) (λ h. entity_goes d e h) (λ h. entries_go d es h) h
