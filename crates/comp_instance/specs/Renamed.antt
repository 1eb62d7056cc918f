-- How names are called in the scope in which a component is instantiated, or in which an item is exported as described,
-- by what was found for them.
use Rattle.std.specs.Prelude.{◌+◌, ◌-◌, None, Result, Ok, Err, ◌==◌, if◌then◌else◌, unwrap_or}
use Rattle.comp_entity.specs.Bounds.{ShapeFault, DoesNotFit}
use Rattle.comp_entity.specs.Entity.{Name, made, EntityTree}
use Rattle.comp_entity.specs.Fits.{fits_with, same_name}
use Rattle.comp_entity.specs.Names.{Change, entity_by}
use Rattle.comp_instance.specs.declared.instantiating.Describing.{Describing}
use Rattle.comp_instance.specs.declared.instantiating.Instantiating.{Instantiating}
use Rattle.comp_fit.specs.Standing.{place_found, resource_found}
use Rattle.comp_scope.specs.Exports.{is_new}
use Rattle.comp_scope.specs.Instances.{or_made}

-- names of a component
abbrev pub component_resource : Instantiating → Name → Name
component_resource r n =
    if n.out == 0 then made (r.made.resources + n.number)
    else if n.out == 1 then unwrap_or (resource_found r.found n) (made (r.beyond.resources + n.number))
    else record n { out = n.out - 2 }

abbrev pub component_place : Instantiating → Name → Name
component_place r n =
    if n.out == 0 then made (r.made.places + n.number)
    else if n.out == 1 then or_made (r.beyond.places + n.number) (place_found r.found n)
    else record n { out = n.out - 2 }

-- names of what is described
abbrev pub description_resource : Describing → Name → Name
description_resource r n = if is_new r.made.resources n then unwrap_or (resource_found r.found n) n else n

abbrev pub description_place : Describing → Name → Name
description_place r n = if is_new r.made.places n then unwrap_or (unwrap_or (place_found r.found n) None) n else n

-- an asked entity in other names, which a given one fits
abbrev pub fitted : Change → EntityTree → EntityTree → Result EntityTree ShapeFault
fitted c given asked =
    if fits_with same_name given (entity_by c 0 asked) then Ok (entity_by c 0 asked) else Err DoesNotFit
