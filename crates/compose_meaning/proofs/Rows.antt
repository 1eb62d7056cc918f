-- Small entities have a meaning, and what is written for them reads back.
use Rattle.std.proofs.Common.{◌≡◌, true, List, [], ◌∷◌, Some, None, refl}
use Rattle.std.specs.Prelude.{codes}
use Rattle.comp_format.specs.declared.types.Primitive.TheVariants as primitive
use Rattle.comp_entity.specs.Entity.{made, brought, Primitive, RecordOf, Own, Borrow, no_case, labelled, present, Value, Resource, EntityTree, IsType, IsFunc, IsInstance, IsComponent, Entries, no_entry, entry}
use Rattle.comp_scope.specs.Spaces.{nothing_known}
use Rattle.compose_writing.specs.Scopes.{WrittenScope, outermost}
use Rattle.compose_writing.specs.WriteEntities.{write_entity}
use Rattle.compose_meaning.specs.Meaning.{Meaning, own_bit, params_bit}
use Rattle.compose_meaning.specs.Readable.{HasMeaning, behind_all}
use Rattle.compose_meaning.specs.Keeps.{spot_of, IsWritten}
use Rattle.compose_meaning.proofs.KeepLaws.{keeps_nothing, entity_written}

-- resources of the entity's own scope are what the imports bring, in order
meaning : Meaning
meaning = record { may_mention = λ key. true; resource = λ n. brought n.number; tree = λ n. RecordOf None (labelled (codes "a") (present (Primitive primitive.U32)) no_case); bit = λ n. true }

-- an instance that exports a resource, a record under a name, and a function of both
api : Entries
api = entry (codes "r") (IsType (Resource (made 0))) true
    (entry (codes "t") (IsType (Value (RecordOf (Some (made 0)) (labelled (codes "a") (present (Primitive primitive.U32)) no_case)))) true
    (entry (codes "f") (IsFunc (record { params = (codes "x", Borrow (made 0)) ∷ (codes "y", RecordOf (Some (made 0)) (labelled (codes "a") (present (Primitive primitive.U32)) no_case)) ∷ []; result = Some (Own (made 0)) })) true no_entry))

-- the same a scope further in
nested : Entries
nested = entry (codes "n") (IsInstance api) true no_entry

api_has : HasMeaning meaning (spot_of outermost (nothing_known true)) (IsInstance api)
unfolding meaning api own_bit params_bit
api_has = (refl, (refl, (λ h. refl)), (refl, (((refl, refl), (tt, tt)), (λ h. refl)), (refl, (((refl, (((refl, refl), (tt, tt)), tt)), refl), refl), tt)))

nested_has : HasMeaning meaning (spot_of outermost (nothing_known true)) (IsInstance nested)
unfolding meaning nested api own_bit params_bit
nested_has = (refl, (refl, (refl, (λ h. refl)), (refl, (((refl, refl), (tt, tt)), (λ h. refl)), (refl, (((refl, (((refl, refl), (tt, tt)), tt)), refl), refl), tt))), tt)

-- a component of its own resource
own_resource : EntityTree
own_resource = IsComponent
    (entry (codes "r") (IsType (Resource (brought 0))) true no_entry)
    (entry (codes "s") (IsType (Resource (brought 0))) true (entry (codes "u") (IsType (Resource (made 0))) true no_entry))

component_has : HasMeaning meaning (spot_of outermost (nothing_known true)) own_resource
unfolding meaning own_resource behind_all
component_has = (meaning, (refl, (refl, (λ h. refl)), tt), (refl, (refl, (λ h. absurd cc)), (refl, (refl, (λ h. refl)), tt)), record { imports = refl; exports = refl; made_behind = refl })

-- whatever is written for them
api_reads : (later : List WrittenScope) (ty : _) → write_entity (IsInstance api) (outermost ∷ []) ≡ Some (later, ty) → IsWritten meaning outermost (nothing_known true) later ty (IsInstance api)
api_reads later ty h = entity_written meaning outermost (nothing_known true) (IsInstance api) later ty (keeps_nothing meaning) api_has h

nested_reads : (later : List WrittenScope) (ty : _) → write_entity (IsInstance nested) (outermost ∷ []) ≡ Some (later, ty) → IsWritten meaning outermost (nothing_known true) later ty (IsInstance nested)
nested_reads later ty h = entity_written meaning outermost (nothing_known true) (IsInstance nested) later ty (keeps_nothing meaning) nested_has h

component_reads : (later : List WrittenScope) (ty : _) → write_entity own_resource (outermost ∷ []) ≡ Some (later, ty) → IsWritten meaning outermost (nothing_known true) later ty own_resource
component_reads later ty h = entity_written meaning outermost (nothing_known true) own_resource later ty (keeps_nothing meaning) component_has h
