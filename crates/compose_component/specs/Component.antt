-- What a component shows.
use Rattle.std.specs.Prelude.{◌≡◌, ℕ, List, [], ◌∷◌, map, slice_get, Option, Some, IfSome, option_map, option_and_then}
use Rattle.std.specs.List.{flat_map}
use Rattle.warg_base.specs.Files.{FileMap, file_at}
use Rattle.comp_format.specs.Items.{ItemTree, Import, Export}
use Rattle.comp_format.specs.Sections.{Reads}
use Rattle.comp_format.specs.declared.types.Sort.{Sort}
use Rattle.comp_format.specs.declared.types.TypeRef.{TypeRef}
use Rattle.comp_entity.specs.declared.entity.Shape.{Shape}
use Rattle.comp_entity.specs.Entity.{ShapeTree}
use Rattle.comp_entity.specs.Views.{shape_tree}
use Rattle.comp_shape.specs.declared.error.ShapeError.{ShapeError}
use Rattle.comp_shape.specs.Refusal.{IsRefused}
use Rattle.comp_shape.specs.Shape.{HasShape}
use Rattle.compose_component.specs.declared.component.Component.{Component}
use Rattle.compose_component.specs.declared.export.ComponentExport.{ComponentExport}
use Rattle.compose_component.specs.declared.import.ComponentImport.{ComponentImport}
use Rattle.compose_component.specs.declared.error.ComponentError.{ComponentError}
use Rattle.compose_component.specs.declared.error.ComponentError.TheVariants as refusal
use Rattle.compose_component.specs.Content.{content_bytes}
use Rattle.compose_component.specs.Names.{name_place}

abbrev pub name_of : Component → List ℕ
name_of c = c.name

abbrev pub path_of : Component → Option (List ℕ)
path_of c = c.path

abbrev pub bytes_of : Component → List ℕ
bytes_of c = content_bytes c.content

-- the shape as it lies in memory, and as a tree
abbrev pub held_shape : Component → Shape
held_shape c = c.shape

abbrev pub shape_of : Component → ShapeTree
shape_of c = shape_tree (held_shape c)

abbrev pub exports_of : Component → List ComponentExport
exports_of c = c.exports.items

abbrev pub imports_of : Component → List ComponentImport
imports_of c = c.imports.items

-- the first import of a name: its place, and its description
abbrev pub import_under : List ℕ → List ComponentImport → Option (ℕ × TypeRef)
import_under name imports =
    option_and_then (λ i. option_map (λ (x : ComponentImport). (i, x.ty)) (slice_get imports i))
    (name_place name (map (λ (x : ComponentImport). x.name) imports))

-- the first export of a name: its place, what it is, and the index of that
abbrev pub export_under : List ℕ → List ComponentExport → Option (ℕ × Sort × ℕ)
export_under name exports =
    option_and_then (λ i. option_map (λ (x : ComponentExport). (i, x.sort, x.index)) (slice_get exports i))
    (name_place name (map (λ (x : ComponentExport). x.name) exports))

-- the imports among items, and the exports
abbrev pub import_in : ItemTree → List ComponentImport
import_in (Import i) = (record { name = i.name; ty = i.ty }) ∷ []
import_in _ = []

abbrev pub export_in : ItemTree → List ComponentExport
export_in (Export e) = (record { name = e.name; sort = e.sort; index = e.index }) ∷ []
export_in _ = []

-- The bytes have this shape, and these imports and exports.
pub record IsReadAs (bytes : List ℕ) (s : Shape) (imports : List ComponentImport) (exports : List ComponentExport) : Type 0 where
  pub items : List ItemTree
  pub reads : Reads bytes items
  pub has_shape : HasShape bytes (shape_tree s)
  pub imports_are : imports ≡ flat_map import_in items
  pub exports_are : exports ≡ flat_map export_in items

-- The component was read from these bytes.
pub record IsRead (c : Component) (bytes : List ℕ) : Type 0 where
  pub bytes_are : bytes_of c ≡ bytes
  pub shown : IsReadAs bytes c.shape c.imports.items c.exports.items

-- the file at a path has bytes that are refused so
abbrev pub RefusedAt : ShapeError → Option FileMap → List ℕ → Type 0
RefusedAt e told path = (bytes : List ℕ) × IfSome told (λ files. file_at files path ≡ Some bytes) × IsRefused e bytes

-- refusals that are those of a component's bytes
abbrev pub IsOfBytes : ComponentError → Type 0
IsOfBytes refusal.BadName = ⊥
IsOfBytes (refusal.BadComponent e) = Unit {0}
IsOfBytes (refusal.File e) = ⊥
IsOfBytes refusal.Memory = Unit {0}
