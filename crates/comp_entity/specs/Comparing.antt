-- What the comparing of entities in code means: the resources of the asked side are called as on the given side.
use Rattle.std.specs.Prelude.{ℕ, suc, ◌-◌, ◌==◌, Bool, true, false, ◌&&◌, List, [], Option, Some, None, unwrap_or, option_map, if◌then◌else◌, Box}
use Rattle.std.specs.Borrow.{Bor}
use Rattle.std.specs.Global.{Global}
use Rattle.std.specs.Cmp.Lexicographic.{pointwise}
use Rattle.std.specs.Option.{option_eq, option_map_or}
use Rattle.std.specs.Str.{bytes_eq}
use Rattle.comp_entity.specs.Entity.{Name, EntityTree}
use Rattle.comp_entity.specs.Names.{Change, changing, outside, value_by, func_by, type_by, entity_by, entries_by}
use Rattle.comp_entity.specs.Fits.{same_name, values_equal, funcs_equal, types_equal, entities_equal, entries_equal, Stands, under, resource_for, stands, all_stand, fits_with, all_fit}
use Rattle.comp_entity.specs.Views.{value_tree, func_tree, type_tree, entity_tree, component_sides, entries_of, named_entities}
use Rattle.comp_entity.specs.declared.naming.Naming.{Naming, fold-Naming}
use Rattle.comp_entity.specs.declared.naming.Naming.TheOpen.{Naming-F}
use Rattle.comp_entity.specs.declared.naming.Naming.TheOpen as layer
use Rattle.comp_entity.specs.declared.entity.ValueShape.{ValueShape}
use Rattle.comp_entity.specs.declared.entity.FuncShape.{FuncShape}
use Rattle.comp_entity.specs.declared.entity.TypeShape.{TypeShape}
use Rattle.comp_entity.specs.declared.entity.ComponentShape.{ComponentShape}
use Rattle.comp_entity.specs.declared.entity.Entity.{Entity}

-- how many scopes deep what is compared stands, and what names of scopes around the asked entity are called
pub record Looking : Type 0 where
  pub scopes : ℕ
  pub name : Name → Name

abbrev pub naming_step : Naming-F Looking → Looking
naming_step layer.Same = record { scopes = 0; name = λ n. n }
naming_step (layer.Standing given asked) =
    record { scopes = 0; name = λ n. unwrap_or (resource_for (stands (entity_tree given.now) (entity_tree asked.now)) n) n }
naming_step (layer.Within outer) = record { scopes = suc outer.now.scopes; name = outer.now.name }

abbrev pub looking : Naming → Looking
looking = fold-Naming Looking naming_step

abbrev pub change_of : Naming → Change
change_of n = changing (looking n).name (λ n. n)

abbrev pub scopes_of : Naming → ℕ
scopes_of n = (looking n).scopes

-- a name, as it is called one scope further out, where it is of a scope there
abbrev pub outwards : Name → Option Name
outwards n = if n.out == 0 then None else Some (record n { out = n.out - 1 })

-- an entity that was found, with its naming bit
abbrev pub entity_found : Option (Bor Entity) → Option (EntityTree × Bool)
entity_found found = option_map (λ (e : Bor Entity). (entity_tree e.now, true)) found

abbrev pub resource_alike : Naming → Name → Name → Bool
resource_alike n given asked = same_name given (outside (looking n).name (scopes_of n) asked)

abbrev pub value_alike : Naming → ValueShape → ValueShape → Bool
value_alike n given asked =
    values_equal same_name (value_tree given) (value_by (change_of n) (scopes_of n) (value_tree asked))

abbrev pub boxed_alike : Naming → Box ValueShape Global → Box ValueShape Global → Bool
boxed_alike n given asked = value_alike n given.value asked.value

abbrev pub field_alike : Naming → List ℕ × ValueShape → List ℕ × ValueShape → Bool
field_alike n given asked = bytes_eq given.0 asked.0 && value_alike n given.1 asked.1

abbrev pub case_alike : Naming → List ℕ × Option ValueShape → List ℕ × Option ValueShape → Bool
case_alike n given asked = bytes_eq given.0 asked.0 && option_eq (value_alike n) given.1 asked.1

abbrev pub func_alike : Naming → FuncShape → FuncShape → Bool
func_alike n given asked =
    funcs_equal same_name (func_tree given) (func_by (change_of n) (scopes_of n) (func_tree asked))

abbrev pub type_alike : Naming → TypeShape → TypeShape → Bool
type_alike n given asked =
    types_equal same_name (type_tree given) (type_by (change_of n) (scopes_of n) (type_tree asked))

abbrev pub entity_alike : Naming → Entity → Entity → Bool
entity_alike n given asked =
    entities_equal same_name (entity_tree given) (entity_by (change_of n) (scopes_of n) (entity_tree asked))

abbrev pub entry_alike : Naming → List ℕ × Entity → List ℕ × Entity → Bool
entry_alike n given asked = bytes_eq given.0 asked.0 && entity_alike n given.1 asked.1

abbrev pub component_alike : Naming → ComponentShape → ComponentShape → Bool
component_alike n given asked =
    entries_equal same_name (component_sides given).imports
    (entries_by (change_of n) (suc (suc (scopes_of n))) (component_sides asked).imports)
    && entries_equal same_name (component_sides given).exports
    (entries_by (change_of n) (suc (suc (scopes_of n))) (component_sides asked).exports)

-- the same, where both stand in the scope of their exports
abbrev pub sides_alike : Naming → ComponentShape → ComponentShape → Bool
sides_alike n given asked =
    pointwise (entry_alike n) given.imports.items asked.imports.items
    && pointwise (entry_alike n) given.exports.items asked.exports.items

abbrev pub entity_suits : Naming → Entity → Entity → Bool
entity_suits n given asked =
    fits_with same_name (entity_tree given) (entity_by (change_of n) (scopes_of n) (entity_tree asked))

abbrev pub exports_suit : Naming → List (List ℕ × Entity) → List (List ℕ × Entity) → Bool
exports_suit n given asked =
    all_fit same_name (entries_of (named_entities given)) (entries_by (change_of n) (scopes_of n) (entries_of (named_entities asked)))

-- an export that is asked for is there and fits
abbrev pub export_suits : Naming → List (List ℕ × Entity) → List ℕ → Entity → Bool
export_suits n given name asked =
    option_map_or (λ (e : EntityTree × Bool). fits_with same_name e.0 (entity_by (change_of n) (scopes_of n) (entity_tree asked)))
    (under name (entries_of (named_entities given))) false

-- what of the exports of a given instance stands for names in an export that is asked for, and in all of them
abbrev pub export_stands : List (List ℕ × Entity) → List ℕ → Entity → List Stands
export_stands given name asked =
    option_map_or (λ (e : EntityTree × Bool). stands e.0 (entity_tree asked))
    (under name (entries_of (named_entities given))) []

abbrev pub exports_stand : List (List ℕ × Entity) → List (List ℕ × Entity) → List Stands
exports_stand given asked = all_stand (entries_of (named_entities given)) (entries_of (named_entities asked))
