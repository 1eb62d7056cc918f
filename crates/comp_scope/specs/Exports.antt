-- Exports of a component (Component Model, Explainer.md, "Import and Export Definitions").
use Rattle.std.specs.Prelude.{ℕ, Bool, true, false, ◌&&◌, List, Option, Some, None, unwrap_or, Result, Ok, Err, nat_le, ◌==◌, if◌then◌else◌}
use Rattle.warg_values.specs.Reading.{◌>>=◌}
use Rattle.comp_format.specs.declared.types.TypeRef.{TypeRef}
use Rattle.comp_format.specs.Items.{ExportTree}
use Rattle.comp_entity.specs.Entity.{Name, made, Resource, EntityTree, IsType, IsInstance, IsOwnModule, Entries, no_entry, entry}
use Rattle.comp_entity.specs.Names.{changing, entity_by}
use Rattle.comp_entity.specs.Fits.{Stands, stands, resource_for, place_for, fits_with, same_name}
use Rattle.comp_entity.specs.Bounds.{ShapeFault, Index, DoesNotFit, Bounds}
use Rattle.comp_scope.specs.Spaces.{Spaces, Known, Standing, standing, if_new}
use Rattle.comp_scope.specs.Descriptions.{new_made, Described, plainly, described, named_by, names_a_place, with_made, with_export}

-- no core module without a type is exported, nor an instance that has one
abbrev mutual
  pub is_typed : EntityTree → Bool
  is_typed (IsInstance es) = are_typed es
  is_typed IsOwnModule = false
  is_typed _ = true

  pub are_typed : Entries → Bool
  are_typed no_entry = true
  are_typed (entry name e mark es) = is_typed e && are_typed es

-- An export without a description. A resource has the naming bit from then on. Each other type takes the name of the
-- place, and may be exported whatever its parts. All else needs the naming bit.
abbrev pub plain_export : Spaces → Standing → Result Described ShapeFault
plain_export s (IsType (Resource r), named) = Ok (plainly (IsType (Resource r)) true)
plain_export s (IsType t, named) = Ok (record {
  standing = (IsType (named_by (made s.made.places) t), named);
  brings = record { resources = 0; places = names_a_place t };
})
plain_export s (e, named) = if named then Ok (plainly e true) else Err Index

-- what is new in a description is what the item has at the same path of names
abbrev pub is_new : ℕ → Name → Bool
is_new count n = (n.out == 0) && nat_le count n.number

abbrev pub fitted_resource : Spaces → List Stands → Name → Name
fitted_resource s there n = if is_new s.made.resources n then unwrap_or (resource_for there n) n else n

abbrev pub fitted_place : Spaces → List Stands → Name → Name
fitted_place s there n =
    if is_new s.made.places n then unwrap_or (unwrap_or (place_for there n) None) n else n

-- a described entity in the names of the item, which fits it
abbrev pub fitting : Spaces → Standing → Described → Result Described ShapeFault
fitting s e d =
    let there = stands e.0 d.standing.0 in
    let asked = entity_by (changing (fitted_resource s there) (fitted_place s there)) 0 d.standing.0 in
    if fits_with same_name e.0 asked then Ok (record d { standing = (asked, d.standing.1) }) else Err DoesNotFit

abbrev pub exported_as : Spaces → Standing → Option TypeRef → Result Described ShapeFault
exported_as s e None = plain_export s e
exported_as s e (Some ref) = described s (new_made s) ref >>= λ d. fitting s e d

-- an export under a new name
unfoldable pub exported : Bounds → Known → ExportTree → Result Known ShapeFault
exported b k e = if_new e.name k.exports (do
  item ← standing k.spaces e.sort e.index
  d ← if is_typed item.0 then exported_as k.spaces item e.ty else Err Index
  spaces ← with_made b k.spaces d
  Ok (with_export k e.name d.standing spaces))
