-- Entities that cohere with names have a meaning where the rest is seen to.
use Rattle.std.proofs.Common.{Bool, Option}
use Rattle.comp_entity.specs.Entity.{Name, ValueTree, TypeShapeTree, Value, Resource, Func, Instance, Component, EntityTree, IsType, IsFunc, IsInstance, IsComponent, IsModule, IsOwnModule, Entries, no_entry, entry}
use Rattle.comp_coherence.specs.Coherence.{Names, any_resource, TypeCoheres, Coheres, AllCohere}
use Rattle.compose_meaning.specs.Meaning.{Meaning}
use Rattle.compose_meaning.specs.Readable.{Spot, within, behind, TypeHasMeaning, HasMeaning, HaveMeaning}
use Rattle.compose_coherence.specs.Agreement.{Agrees}
use Rattle.compose_coherence.specs.Remaining.{own_meaning, TypeRemains, Remains, AllRemain}
use Rattle.compose_coherence.proofs.Agreeing.{meaning_agrees, one_tree, one_tree_func, agree_in_instance, agree_in_component}

-- the meaning of a scope's own places agrees with what these stand for
own_agrees : (bit : Name → Bool) (tree : Name → Option ValueTree) → Agrees (any_resource tree) (own_meaning bit tree)
own_agrees bit tree = meaning_agrees (any_resource tree) (λ n. n) bit

-- other names of resources do not matter
within_agrees : (names : Names) (mean : Meaning) (p : Spot) → Agrees names mean → Agrees names (within p mean)
within_agrees names mean p a = record { resources = a.resources; places = a.places; trees = a.trees }

mutual
  type_has_meaning : (names : Names) (mean : Meaning) (p : Spot) → Agrees names mean → (t : TypeShapeTree) → TypeCoheres names t → TypeRemains mean p t → TypeHasMeaning mean p t
  type_has_meaning names mean p a (Value t) h rest = (one_tree names mean a t h, rest)
  type_has_meaning names mean p a (Resource r) h rest = (a.resources r h, rest)
  type_has_meaning names mean p a (Func f) h rest = one_tree_func names mean a f h
  type_has_meaning names mean p a (Instance es) h rest = (
    own_meaning rest.0 h.0,
    have_meaning _ _ _ (agree_in_instance names mean a h.0 (own_meaning rest.0 h.0) (own_agrees rest.0 h.0)) es h.1 (rest.1 h.0),
  )
  type_has_meaning names mean p a (Component is es) h rest =
      let inner = agree_in_component names mean a h.0 (own_meaning rest.0 h.0) (own_agrees rest.0 h.0) in
      (own_meaning rest.0 h.0, have_meaning _ _ _ inner is h.1 (rest.1 h.0).0, have_meaning _ _ _ inner es h.2 (rest.1 h.0).1, rest.2)

  pub has_meaning : (names : Names) (mean : Meaning) (p : Spot) → Agrees names mean → (e : EntityTree) → Coheres names e → Remains mean p e → HasMeaning mean p e
  has_meaning names mean p a (IsType t) h rest = type_has_meaning names mean p a t h rest
  has_meaning names mean p a (IsFunc f) h rest = (one_tree_func names mean a f h, rest)
  has_meaning names mean p a (IsInstance es) h rest = have_meaning names (within p mean) _ (within_agrees names mean p a) es h rest
  has_meaning names mean p a (IsComponent is es) h rest =
      let inner = agree_in_component names mean a h.0 (own_meaning rest.0 h.0) (own_agrees rest.0 h.0) in
      (own_meaning rest.0 h.0, have_meaning _ _ _ inner is h.1 (rest.1 h.0).0, have_meaning _ _ _ inner es h.2 (rest.1 h.0).1, rest.2)
  has_meaning names mean p a (IsModule m) h rest = tt
  has_meaning names mean p a IsOwnModule h rest = absurd rest

  have_meaning : (names : Names) (mean : Meaning) (p : Spot) → Agrees names mean → (es : Entries) → AllCohere names es → AllRemain mean p es → HaveMeaning mean p es
  have_meaning names mean p a no_entry h rest = tt
  have_meaning names mean p a (entry name e mark es) h rest =
      (rest.0, has_meaning names mean p a e h.0 rest.1, have_meaning names mean (behind mean p name e) a es h.1 rest.2)
