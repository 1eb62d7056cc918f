-- What an entity mentions of the scopes around it.
use Rattle.std.specs.Prelude.{ℕ, suc, ◌-◌, Bool, List, [], ◌∷◌, ◌++◌, flat_map, nat_le, if◌then◌else◌}
use Rattle.std.specs.List.{list_any}
use Rattle.comp_entity.specs.Entity.{Name, TypeShapeTree, Value, Resource, Func, Instance, Component, EntityTree, IsType, IsFunc, IsInstance, IsComponent, IsModule, IsOwnModule, Entries, no_entry, entry}
use Rattle.comp_entity.specs.Names.{Mention, OfResource, OfPlace, in_entity, in_func}
use Rattle.compose_left.specs.declared.spots.Thing.{Thing}
use Rattle.compose_left.specs.Origins.{same_thing}
use Rattle.compose_left.specs.Spots.{resource, named_type}

abbrev pub has : List Thing → Thing → Bool
has ts t = list_any (λ m. same_thing m t) ts

-- a name that is mentioned so many scopes deep within a tree, as it is called around the tree. What is of a scope within
-- the tree has no name there.
abbrev pub around : (Name → Thing) → ℕ → Name → List Thing
around thing d n = if nat_le d n.out then thing (record { out = n.out - d; number = n.number }) ∷ [] else []

abbrev pub outward : ℕ × Mention → List Thing
outward (d, OfResource n) = around resource d n
outward (d, OfPlace n) = around named_type d n

abbrev pub outwards : List (ℕ × Mention) → List Thing
outwards ms = flat_map outward ms

-- the resources and the named types of the scopes around an entity that it mentions, from left to right
abbrev pub mentioned : EntityTree → List Thing
mentioned e = outwards (in_entity 0 e)
