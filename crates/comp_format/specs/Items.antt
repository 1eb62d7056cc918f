-- The items of a component (Component Model, Binary.md, "Component Definitions").
pub use Rattle.comp_format.specs.Vectors.{Optional, byte_at, mark_at, optional_at, optional_text}
pub use Rattle.comp_format.specs.Parts.{core_sort_code, SortForm, DescriptionForm, ArgForm, ExportName, MemberForm, InstanceForm, AliasForm, core_sort_of, core_sort_at, sort_at, type_at, description_at, arg_at, export_name_at, member_at, instantiate_at, instance_at, alias_at, sort_text, description_text, arg_text, member_text, instance_text, alias_text}
use Rattle.std.specs.Prelude.{ℕ, List, ◌∷◌, ◌++◌, Option, Ok}
use Rattle.warg_values.specs.Reading.{◌>>=◌}
use Rattle.comp_format.specs.declared.types.Sort.{Sort}
use Rattle.comp_format.specs.declared.types.TypeRef.{TypeRef}
use Rattle.comp_format.specs.declared.types.CoreInstance.{CoreInstance}
use Rattle.comp_format.specs.declared.types.InstanceItem.{InstanceItem}
use Rattle.comp_format.specs.declared.types.Alias.{Alias}
use Rattle.comp_format.specs.declared.types.Canon.{Canon}
use Rattle.comp_format.specs.declared.types.Item.{Item}
use Rattle.comp_format.specs.declared.types.Item.TheVariants as made
use Rattle.comp_format.specs.Numbers.{FormOf, Then, Number, number_at, number_text}
use Rattle.comp_format.specs.Vectors.{ReaderOf, name_text}
use Rattle.comp_format.specs.CoreTypes.{CoreTree}
use Rattle.comp_format.specs.Definitions.{TypeTree}
use Rattle.comp_format.specs.Views.{core_tree, type_tree}

-- an import: its name and its description
pub record ImportTree : Type 0 where
  pub name : List ℕ
  pub ty : TypeRef

-- an export: its name, what it is, its index there, and its description where there is one
pub record ExportTree : Type 0 where
  pub name : List ℕ
  pub sort : Sort
  pub index : ℕ
  pub ty : Option TypeRef

-- an item, wherever it lies in memory
pub data ItemTree : Type 0 where
  Custom : List ℕ → List ℕ → ItemTree
  CoreModule : List ℕ → ItemTree
  CoreMade : CoreInstance → ItemTree
  CoreTy : CoreTree → ItemTree
  Component : List ℕ → ItemTree
  Instance : InstanceItem → ItemTree
  Aliased : Alias → ItemTree
  Ty : TypeTree → ItemTree
  Canonical : Canon → ItemTree
  Import : ImportTree → ItemTree
  Export : ExportTree → ItemTree

abbrev pub item_tree : Item → ItemTree
item_tree (made.Custom name bytes) = Custom name bytes.now
item_tree (made.CoreModule bytes) = CoreModule bytes.now
item_tree (made.CoreInstance item) = CoreMade item
item_tree (made.CoreTy item) = CoreTy (core_tree item)
item_tree (made.Component bytes) = Component bytes.now
item_tree (made.Instance item) = Instance item
item_tree (made.Alias item) = Aliased item
item_tree (made.Ty item) = Ty (type_tree item)
item_tree (made.Canon item) = Canonical item
item_tree (made.Import name ty) = Import (record { name = name; ty = ty })
item_tree (made.Export name kind index ty) = Export (record { name = name; sort = kind; index = index; ty = ty })

abbrev pub ImportForm : FormOf ImportTree
ImportForm i = Then (ExportName i.name) (DescriptionForm i.ty)

abbrev pub ExportForm : FormOf ExportTree
ExportForm e = Then (ExportName e.name) (Then (SortForm e.sort) (Then (Number e.index) (Optional DescriptionForm e.ty)))

-- reading
unfoldable pub import_at : ReaderOf ImportTree
import_at bytes = export_name_at bytes >>= λ name. description_at name.1 >>= λ ty. Ok (record { name = name.0; ty = ty.0 }, ty.1)

unfoldable pub export_at : ReaderOf ExportTree
export_at bytes = do
  name ← export_name_at bytes
  kind ← sort_at name.1
  index ← number_at kind.1
  ty ← optional_at description_at index.1
  Ok (record { name = name.0; sort = kind.0; index = index.0; ty = ty.0 }, ty.1)

-- writing
abbrev pub import_text : ImportTree → List ℕ
import_text i = (0 ∷ name_text i.name) ++ description_text i.ty

abbrev pub export_text : ExportTree → List ℕ
export_text e = (0 ∷ name_text e.name) ++ (sort_text e.sort ++ (number_text e.index ++ optional_text description_text e.ty))
