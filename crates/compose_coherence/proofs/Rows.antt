-- Small entities that cohere, of which the rest is seen to, and so have a meaning.
use Rattle.std.proofs.Common.{true, [], ◌∷◌, Option, Some, None, refl}
use Rattle.std.specs.Prelude.{codes}
use Rattle.comp_format.specs.declared.types.Primitive.TheVariants as primitive
use Rattle.comp_entity.specs.Entity.{Name, made, brought, ValueTree, Primitive, RecordOf, Own, Borrow, no_case, labelled, present, Value, Resource, EntityTree, IsType, IsFunc, IsInstance, IsComponent, no_entry, entry}
use Rattle.comp_scope.specs.Spaces.{nothing_known}
use Rattle.comp_coherence.specs.Coherence.{Names, within, any_resource, nowhere, Coheres}
use Rattle.compose_writing.specs.Scopes.{outermost}
use Rattle.compose_meaning.specs.Meaning.{Meaning, own_bit, params_bit}
use Rattle.compose_meaning.specs.Readable.{HasMeaning, behind_all}
use Rattle.compose_meaning.specs.Keeps.{spot_of}
use Rattle.compose_coherence.specs.Agreement.{meaning_of}
use Rattle.compose_coherence.specs.Remaining.{Remains}
use Rattle.compose_coherence.proofs.Agreeing.{meaning_agrees}
use Rattle.compose_coherence.proofs.Meanings.{has_meaning}

-- a record of one field, which a place named
abbrev record_of : Option Name → ValueTree
record_of place = RecordOf place (labelled (codes "a") (present (Primitive primitive.U32)) no_case)

-- the names of a component, each of which stands for the record
abbrev names : Names
names = within 2 (any_resource (λ n. Some (record_of None))) nowhere

-- resources of the component are what the imports bring, in order
abbrev mean : Meaning
mean = meaning_of (λ n. brought n.number) (λ n. true) names

-- an instance that exports a resource, the record under a name, and a function of both
abbrev api : EntityTree
api = IsInstance
    (entry (codes "r") (IsType (Resource (made 0))) true
    (entry (codes "t") (IsType (Value (record_of (Some (made 0))))) true
    (entry (codes "f") (IsFunc (record { params = (codes "x", Borrow (made 0)) ∷ (codes "y", record_of (Some (made 0))) ∷ []; result = Some (Own (made 0)) })) true no_entry)))

api_coheres : Coheres names api
api_coheres = (refl, ((refl, (tt, tt)), (((refl, ((refl, (tt, tt)), tt)), refl), tt)))

api_remains : Remains mean (spot_of outermost (nothing_known true)) api
unfolding own_bit params_bit
api_remains = (refl, (λ h. refl), (refl, (λ h. refl), (refl, refl, tt)))

api_has : HasMeaning mean (spot_of outermost (nothing_known true)) api
api_has = has_meaning names mean (spot_of outermost (nothing_known true)) (meaning_agrees names (λ n. brought n.number) (λ n. true)) api api_coheres api_remains

-- a component of its own resource, which mentions the record from around it
abbrev component : EntityTree
component = IsComponent
    (entry (codes "r") (IsType (Resource (brought 0))) true (entry (codes "t") (IsType (Value (record_of (Some (record { out = 2; number = 0 }))))) true no_entry))
    (entry (codes "s") (IsType (Resource (brought 0))) true (entry (codes "u") (IsType (Resource (made 0))) true no_entry))

component_coheres : Coheres names component
component_coheres = ((λ n. None), (refl, ((refl, (tt, tt)), tt)), (refl, (refl, tt)))

component_remains : Remains mean (spot_of outermost (nothing_known true)) component
unfolding own_bit behind_all
component_remains = ((λ n. true), (λ tree. ((refl, (λ h. refl), (refl, (λ h. refl), tt)), (refl, (λ h. absurd cc), (refl, (λ h. refl), tt)))), record { imports = refl; exports = refl; made_behind = refl })

component_has : HasMeaning mean (spot_of outermost (nothing_known true)) component
component_has = has_meaning names mean (spot_of outermost (nothing_known true)) (meaning_agrees names (λ n. brought n.number) (λ n. true)) component component_coheres component_remains

-- a component that mentions a resource from around it does not cohere
from_around : Coheres names (IsComponent (entry (codes "r") (IsType (Resource (record { out = 2; number = 0 }))) true no_entry) no_entry) → ⊥
from_around h = let never = h.1.0 in absurd cc
