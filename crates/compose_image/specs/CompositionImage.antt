-- The link image of a composition: what is made of what, whatever the bytes are.
use Rattle.std.specs.Prelude.{ℕ, Bool, ◌&&◌, not, List, ◌++◌, map, Option, Some, None, bytes_eq, if◌then◌else◌}
use Rattle.std.specs.List.{list_any}
use Rattle.comp_entity.specs.Entity.{EntityTree}
use Rattle.comp_scope.specs.Image.{ArgOf, ComponentOf, Defined, Exported, Image, Imported, OfExport, OfImport, OfInstance}
use Rattle.comp_scope.specs.Spaces.{sort_of}
use Rattle.compose_left.specs.declared.wiring.Wire.{Wire}
use Rattle.compose_check.specs.Composition.{ComponentTree, CompositionTree}
use Rattle.compose_image.specs.Imports.{used_components}
use Rattle.compose_image.specs.Instances.{Part, component_rank, export_of, exported_parts, import_of, open_imports, rank, wires_of}

-- a component by its bytes where it is defined, and by its name where it is imported
abbrev pub component_image : Bool → ComponentTree → ComponentOf
component_image define k = if define then Defined k.bytes else Imported k.name

-- under which names components are imported
abbrev pub is_named : List ℕ → ComponentTree → Bool
is_named name k = bytes_eq name k.name

abbrev pub is_component : CompositionTree → Bool → List ℕ → Bool
is_component c define name = not define && list_any (is_named name) (used_components c)

-- what a wire gives: an instance by its place in the order, or an export of it by its name
abbrev pub given_image : CompositionTree → List ℕ → Wire → Option ℕ → ArgOf
given_image c order w None = OfInstance (rank w.source order)
given_image c order w (Some export) = OfExport (rank w.source order) (export_of c (w.source, export)).0

abbrev pub given_argument : CompositionTree → List ℕ → Wire → List ℕ × ArgOf
given_argument c order w = ((import_of c w.target w.import).0, given_image c order w w.export)

-- what is left open comes from the import of its name
abbrev pub open_argument : List ℕ × EntityTree → List ℕ × ArgOf
open_argument e = (e.0, OfImport e.0)

abbrev pub instance_image : CompositionTree → List ℕ → ℕ → ℕ × List (List ℕ × ArgOf)
instance_image c order i =
    (component_rank c i, map (given_argument c order) (wires_of c i) ++ map open_argument (open_imports c i))

abbrev pub export_image : CompositionTree → List ℕ → Part → Exported
export_image c order part =
    let e = export_of c part in record { name = e.0; kind = sort_of e.1; instance = rank part.0 order; export = e.0 }

-- The components of which instances are made, in the order added; the instances in this order, each with its component
-- and its arguments; these imports; and the exports of the instance that is exported.
abbrev pub composition_image : CompositionTree → Bool → Option ℕ → List ℕ → List (List ℕ × EntityTree) → Image
composition_image c define export order imports = record {
  components = map (component_image define) (used_components c);
  instances = map (instance_image c order) order;
  imports = imports;
  exports = map (export_image c order) (exported_parts c export);
}
