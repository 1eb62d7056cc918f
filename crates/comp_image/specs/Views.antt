-- Images, wherever they lie in memory.
use Rattle.std.specs.Prelude.{ℕ, List, map}
use Rattle.comp_entity.specs.Views.{named_entities}
use Rattle.comp_image.specs.declared.image.ArgOf.{ArgOf}
use Rattle.comp_image.specs.declared.image.ArgOf.TheVariants as given
use Rattle.comp_image.specs.declared.image.ComponentOf.{ComponentOf}
use Rattle.comp_image.specs.declared.image.ComponentOf.TheVariants as component
use Rattle.comp_image.specs.declared.image.ExportOf.{ExportOf}
use Rattle.comp_image.specs.declared.image.Image.{Image}
use Rattle.comp_image.specs.declared.image.MadeInstance.{MadeInstance}
use Rattle.comp_scope.specs.Image as scope

abbrev pub component_of : ComponentOf → scope.ComponentOf
component_of (component.Defined bytes) = scope.Defined bytes.now
component_of (component.Imported name) = scope.Imported name

abbrev pub argument_of : ArgOf → scope.ArgOf
argument_of (given.Instance number) = scope.OfInstance number
argument_of (given.Export number name) = scope.OfExport number name
argument_of (given.Left name) = scope.OfImport name

-- an argument under its name
abbrev pub given_of : List ℕ × ArgOf → List ℕ × scope.ArgOf
given_of a = (a.0, argument_of a.1)

abbrev pub made_of : MadeInstance → ℕ × List (List ℕ × scope.ArgOf)
made_of m = (m.component, map given_of m.arguments.items)

abbrev pub exported_of : ExportOf → scope.Exported
exported_of e = record { name = e.name; kind = e.sort; instance = e.instance; export = e.export }

abbrev pub image_of : Image → scope.Image
image_of i = record {
  components = map component_of i.components.items;
  instances = map made_of i.instances.items;
  imports = named_entities i.imports.items;
  exports = map exported_of i.exports.items;
}
