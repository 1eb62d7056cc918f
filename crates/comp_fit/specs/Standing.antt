-- What stands in a given entity for the resources and the places of an asked one, as far as it has been found.
use Rattle.std.specs.Prelude.{◌≡◌, ◌++◌, [], ◌∷◌, true, List, Option, Some, None, option_map}
use Rattle.std.specs.BTreeMap.{get}
use Rattle.std.specs.BTreeSet.{BTreeSet, contains}
use Rattle.std.specs.Ordering.{nat_cmp, ordering_then}
use Rattle.std.specs.declared.cmp.Ordering.{Ordering}
use Rattle.comp_entity.specs.Entity.{Name, EntityTree}
use Rattle.comp_entity.specs.Fits.{Stands, ForResource, for_place, resource_for, place_for, stands}
use Rattle.comp_entity.specs.Names.{Mention, OfResource, OfPlace}
use Rattle.comp_fit.specs.declared.pair.Pair.{Pair}
use Rattle.comp_fit.specs.Known.{pair_cmp}
use Rattle.comp_fit.specs.declared.standing.Called.{Called}
use Rattle.comp_fit.specs.declared.standing.StandingFor.{StandingFor}
use Rattle.comp_table.specs.declared.head.Head.{Head}
use Rattle.comp_table.specs.declared.head.Head.TheVariants as head
use Rattle.comp_table.specs.Plain.{plain_entity}
use Rattle.comp_table.specs.Trees.{PlainTree}
use Rattle.comp_table.specs.Trees as table

abbrev pub called : Name → Called
called n = record { out = n.out; number = n.number }

abbrev pub called_cmp : Called → Called → Ordering
called_cmp a b = ordering_then (nat_cmp a.out b.out) (nat_cmp a.number b.number)

abbrev pub resource_found : StandingFor → Name → Option Name
resource_found found n = get called_cmp found.resources (called n)

abbrev pub place_found : StandingFor → Name → Option (Option Name)
place_found found n = get called_cmp found.places (called n)

-- what was found is what stands for names, as the definition has it
pub record ShowsStanding (found : StandingFor) (ss : List Stands) : Type 0 where
  pub resources : (n : Name) → resource_found found n ≡ resource_for ss n
  pub places : (n : Name) → place_found found n ≡ place_for ss n

-- what was found for a resource or a place, and what stands for it
abbrev pub found_for : StandingFor → Mention → Option (Option Name)
found_for found (OfResource n) = option_map (λ r. Some r) (resource_found found n)
found_for found (OfPlace n) = place_found found n

abbrev pub stands_for : List Stands → Mention → Option (Option Name)
stands_for ss (OfResource n) = option_map (λ r. Some r) (resource_for ss n)
stands_for ss (OfPlace n) = place_for ss n

-- the first of two, where there is one
abbrev pub first_of : {X : Type 0} → Option X → Option X → Option X
first_of (Some x) o = Some x
first_of None o = o

-- what is found for a name is what was found before, or else what stands for it
abbrev pub Adds : StandingFor → StandingFor → List Stands → Type 0
Adds old new ss = (m : Mention) → found_for new m ≡ first_of (found_for old m) (stands_for ss m)

-- all that stands for names in a pair has been found
abbrev pub IsCovered : List PlainTree → StandingFor → Pair → Type 0
IsCovered ts found p =
    (given asked : EntityTree) → table.Stands ts p.given (plain_entity given) → table.Stands ts p.asked (plain_entity asked)
    → (m : Mention) → found_for found m ≡ None → stands_for (stands given asked) m ≡ None

abbrev pub AreCovered : List PlainTree → StandingFor → BTreeSet Pair → Type 0
AreCovered ts found seen = (p : Pair) → contains pair_cmp seen p ≡ true → IsCovered ts found p

-- the resource that a type is
abbrev pub resource_head : Head → Option Name
resource_head (head.Resource r) = Some r
resource_head _ = None

-- a resource of a given type stands for that of an asked one
abbrev pub for_resource : Option Name → Option Name → List Stands
for_resource (Some given) (Some asked) = ForResource asked given ∷ []
for_resource _ _ = []

-- the place that named a value type, where it is one and where one did
abbrev pub value_place : Head → Option (Option Name)
value_place (head.RecordOf place) = Some place
value_place (head.VariantOf place) = Some place
value_place (head.FlagsOf place) = Some place
value_place (head.EnumOf place) = Some place
value_place (head.Primitive p) = Some None
value_place head.ListOf = Some None
value_place head.TupleOf = Some None
value_place head.OptionOf = Some None
value_place head.ResultOf = Some None
value_place (head.Own r) = Some None
value_place (head.Borrow r) = Some None
value_place _ = None

abbrev pub place_head : Head → Option Name
place_head (head.RecordOf place) = place
place_head (head.VariantOf place) = place
place_head (head.FlagsOf place) = place
place_head (head.EnumOf place) = place
place_head _ = None

-- a place of a given value type, or none, stands for that of an asked one
abbrev pub place_stands : Option (Option Name) → Option Name → List Stands
place_stands (Some given) asked = for_place asked given
place_stands None asked = []

-- what stands for names of an asked type, by the heads of both types
abbrev pub head_stands : Head → Head → List Stands
head_stands given asked =
    for_resource (resource_head given) (resource_head asked) ++ place_stands (value_place given) (place_head asked)
