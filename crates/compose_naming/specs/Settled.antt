-- Left imports as they are written: each named type that they mention, and those that need them call, is mentioned by one
-- number, the one under which it stands at the first place at which it is called (Component Model, Explainer.md, "Import
-- and Export Definitions").
use Rattle.std.specs.Prelude.{Bool, List, [], ◌∷◌, ◌++◌, map, filter, Option, Some, None, if◌then◌else◌}
use Rattle.comp_entity.specs.Entity.{Name}
use Rattle.comp_entity.specs.Fits.{same_name}
use Rattle.comp_entity.specs.Names.{changing, entity_by}
use Rattle.compose_left.specs.declared.spots.Spot.{Spot}
use Rattle.compose_left.specs.declared.spots.Thing.{Thing}
use Rattle.compose_needs.specs.declared.leaves.Leaf.{Leaf}
use Rattle.compose_needs.specs.Leaves.{leaves_at}
use Rattle.compose_order.specs.Needs.{LeftTree, called_at}

-- a named type as it is called in the outermost scope
abbrev pub name_in : Thing → Name
name_in t = record { out = t.out; number = t.number }

-- names, each with the one by which it is written
abbrev pub WrittenNames : Type 0
WrittenNames = List (Name × Name)

abbrev pub written_as : WrittenNames → Name → Name
written_as [] n = n
written_as (w ∷ ws) n = if same_name w.0 n then w.1 else written_as ws n

abbrev pub is_type : Thing → Bool
is_type t = t.is_type

-- each number by which a type is called at a place is written as what stands there, unless it was called before
abbrev pub called_as : Name → List Thing → WrittenNames
called_as n ts = map (λ t. (name_in t, n)) (filter is_type ts)

abbrev pub at_leaf : WrittenNames → List Spot → Leaf → Option Thing → WrittenNames
at_leaf ws calls leaf None = ws
at_leaf ws calls leaf (Some t) = ws ++ called_as (written_as ws (name_in t)) (called_at calls leaf.path)

abbrev pub along_leaves : WrittenNames → List Spot → List Leaf → WrittenNames
along_leaves ws calls [] = ws
along_leaves ws calls (leaf ∷ leaves) = along_leaves (at_leaf ws calls leaf leaf.named) calls leaves

-- the names of the types that are called in a left import
abbrev pub names_of : LeftTree → WrittenNames
names_of l = along_leaves [] l.calls (leaves_at l.entity)

abbrev pub settled : LeftTree → LeftTree
settled l = record l { entity = entity_by (changing (λ n. n) (written_as (names_of l))) 0 l.entity }
