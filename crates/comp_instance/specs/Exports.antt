-- Exports of a component, before they are put into a scope, by numbers of a table.
use Rattle.std.specs.Prelude.{◌≡◌, ℕ, true, List, Option, Result, Ok, Err, if◌then◌else◌}
use Rattle.warg_values.specs.Reading.{◌>>=◌}
use Rattle.comp_entity.specs.Bounds.{ShapeFault, Index, bounded}
use Rattle.comp_entity.specs.Entity.{Name, EntityTree}
use Rattle.comp_entity.specs.Fits.{Stands}
use Rattle.comp_format.specs.declared.types.Sort.{Sort}
use Rattle.comp_format.specs.declared.types.TypeRef.{TypeRef}
use Rattle.comp_instance.specs.declared.instantiating.Describing.{Describing}
use Rattle.comp_instance.specs.Renamed.{description_place, description_resource}
use Rattle.comp_scope.specs.Descriptions.{Described, plainly, with_export, with_made}
use Rattle.comp_scope.specs.Exports.{exported_as, fitted_place, fitted_resource, is_typed}
use Rattle.comp_scope.specs.Spaces.{Known, Spaces, Standing, standing}

-- names of what is described are called so where an item is exported
pub record ShowsDescribing (r : Describing) (s : Spaces) (there : List Stands) : Type 0 where
  pub resources : (n : Name) → description_resource r n ≡ fitted_resource s there n
  pub places : (n : Name) → description_place r n ≡ fitted_place s there n

-- an export without a description of what is no type
abbrev pub plain_item : Standing → Result Described ShapeFault
plain_item (e, named) = if named then Ok (plainly e true) else Err Index

-- this where an item has a type
abbrev pub if_typed : {X : Type 0} → EntityTree → X → Result X ShapeFault
if_typed e x = if is_typed e then Ok x else Err Index

-- the item of a sort and an index as an export
abbrev pub exported_item : Spaces → Sort → ℕ → Option TypeRef → Result Described ShapeFault
exported_item s kind index ty = standing s kind index >>= λ item. if_typed item.0 item >>= λ item. exported_as s item ty

-- the scope with what is exported under a name
abbrev pub with_exported : Known → List ℕ → Described → Result Known ShapeFault
with_exported k name d = with_made bounded k.spaces d >>= λ spaces. Ok (with_export k name d.standing spaces)
