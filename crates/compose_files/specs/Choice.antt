-- Which export of an instance is given to an import.
use Rattle.std.specs.Prelude.{ℕ, Bool, true, false, ◌&&◌, if◌then◌else◌, List, Option, Some, None, option_map, option_and_then, bytes_eq}
use Rattle.std.specs.List.{position_from}
use Rattle.comp_entity.specs.Entity.{EntityTree, IsInstance, ShapeTree}
use Rattle.comp_entity.specs.Fits.{fits_loosely}
use Rattle.compose_fit.specs.Wires.{Given, given_of}
use Rattle.compose_graph.specs.Graph.{given_entity}

abbrev pub is_instance : EntityTree → Bool
is_instance (IsInstance exports) = true
is_instance _ = false

-- what is given fits what is asked for, all resources being taken as one
abbrev pub given_fits : EntityTree → Option Given → Bool
given_fits asked None = false
given_fits asked (Some given) = fits_loosely (given_entity given) asked

abbrev pub fits_at : ShapeTree → EntityTree → Option ℕ → Bool
fits_at source asked export = given_fits asked (given_of source export)

abbrev pub is_instance_named : List ℕ → List ℕ × EntityTree → Bool
is_instance_named name e = bytes_eq e.0 name && is_instance e.1

-- the place of the export of this name, where it is an instance
abbrev pub instance_export : ShapeTree → List ℕ → Option ℕ
instance_export source name = position_from (is_instance_named name) 0 source.exports

abbrev pub is_instance_for : EntityTree → List ℕ × EntityTree → Bool
is_instance_for asked e = is_instance e.1 && fits_loosely e.1 asked

-- the place of the first export that is an instance and fits
abbrev pub fitting_export : ShapeTree → EntityTree → Option ℕ
fitting_export source asked = position_from (is_instance_for asked) 0 source.exports

abbrev pub if_fits : ShapeTree → EntityTree → ℕ → Option (Option ℕ)
if_fits source asked place = if fits_at source asked (Some place) then Some (Some place) else None

-- What is given of an instance, where anything of it fits: the export that is named, which has to be an instance; and where none
-- is, the instance as a whole, or else its first export that is an instance and fits.
abbrev pub choice : ShapeTree → EntityTree → Option (List ℕ) → Option (Option ℕ)
choice source asked (Some name) = option_and_then (if_fits source asked) (instance_export source name)
choice source asked None = if fits_at source asked None then Some None else option_map Some (fitting_export source asked)
