-- The link image of a component: which components it nests or imports, which instances it makes of them with what
-- arguments, what it imports, and which export of which instance each of its exports is. All indices are followed
-- through aliases and earlier exports (Component Model, Explainer.md, "Instance Definitions" and "Alias Definitions").
use Rattle.std.specs.Prelude.{ℕ, Bool, List, [], ◌∷◌, ◌++◌, length, map, Option, Some, None, slice_get, option_map, option_and_then, ◌==◌, if◌then◌else◌}
use Rattle.std.specs.List.{filter}
use Rattle.comp_format.specs.declared.types.CoreSort.TheVariants as core
use Rattle.comp_format.specs.declared.types.Sort.{Sort}
use Rattle.comp_format.specs.declared.types.Sort.TheVariants as sort
use Rattle.comp_format.specs.declared.types.TypeRef.{TypeRef}
use Rattle.comp_format.specs.declared.types.TypeRef.TheVariants as description
use Rattle.comp_format.specs.declared.types.Arg.{Arg}
use Rattle.comp_format.specs.declared.types.InstanceItem.TheVariants as instance
use Rattle.comp_format.specs.declared.types.Alias.TheVariants as alias
use Rattle.comp_format.specs.Items.{ItemTree, CoreTy, Component, Instance, Aliased, Ty, Import, Export, ImportTree, ExportTree}
use Rattle.comp_format.specs.Spaces.{space_of}
use Rattle.comp_entity.specs.Entity.{EntityTree}

-- a component of which instances are made: its bytes, or the name of an import
pub data ComponentOf : Type 0 where
  Defined : List ℕ → ComponentOf
  Imported : List ℕ → ComponentOf

-- what an argument is: a whole instance, an export of one, or an import
pub data ArgOf : Type 0 where
  OfInstance : ℕ → ArgOf
  OfExport : ℕ → List ℕ → ArgOf
  OfImport : List ℕ → ArgOf

-- an export: its name and sort, and which export of which instance it is
pub record Exported : Type 0 where
  pub name : List ℕ
  pub kind : Sort
  pub instance : ℕ
  pub export : List ℕ

-- Components; instances, each with its component's number and its arguments by name; imports; and exports.
pub record Image : Type 0 where
  pub components : List ComponentOf
  pub instances : List (ℕ × List (List ℕ × ArgOf))
  pub imports : List (List ℕ × EntityTree)
  pub exports : List Exported

-- What an index stands for: what has no part in an image, as a type of the component's own; a component; an instance;
-- an export of an instance; or an import.
pub data Indexed : Type 0 where
  Own : Indexed
  OfComponent : ℕ → Indexed
  Made : ℕ → Indexed
  PartOf : ℕ → List ℕ → Indexed
  Left : List ℕ → Indexed

-- the image of some items, and what the index spaces number
pub record Progress : Type 0 where
  pub image : Image
  pub numbered : List (Sort × Indexed)

-- what stands in the index space of a sort
abbrev pub space : Sort → List (Sort × Indexed) → List Indexed
space kind numbered = map (λ e. e.1) (filter (λ e. space_of e.0 == space_of kind) numbered)

abbrev pub indexed : Progress → Sort → ℕ → Option Indexed
indexed p kind index = slice_get (space kind p.numbered) index

abbrev pub as_component : Option Indexed → Option ℕ
as_component (Some (OfComponent n)) = Some n
as_component _ = None

abbrev pub as_part : Option Indexed → Option (ℕ × List ℕ)
as_part (Some (PartOf k name)) = Some (k, name)
as_part _ = None

abbrev pub as_argument : Option Indexed → Option ArgOf
as_argument (Some (Made k)) = Some (OfInstance k)
as_argument (Some (PartOf k name)) = Some (OfExport k name)
as_argument (Some (Left name)) = Some (OfImport name)
as_argument _ = None

abbrev pub arguments : Progress → List Arg → Option (List (List ℕ × ArgOf))
arguments p [] = Some []
arguments p (a ∷ args) =
    option_and_then (λ of. option_map (λ later. (a.name, of) ∷ later) (arguments p args)) (as_argument (indexed p a.sort a.index))

-- the sort of what a description describes
abbrev pub sort_described : TypeRef → Sort
sort_described (description.Module i) = sort.Core core.Module
sort_described (description.Func i) = sort.Func
sort_described (description.TyEqual i) = sort.Ty
sort_described description.TyFresh = sort.Ty
sort_described (description.Component i) = sort.Component
sort_described (description.Instance i) = sort.Instance

abbrev pub numbering : Progress → Sort → Indexed → Progress
numbering p kind of = record p { numbered = p.numbered ++ (kind, of) ∷ [] }

-- an export of an instance that is made here. What an imported instance, or an export, exports has no part.
abbrev pub as_export : Option Indexed → List ℕ → Indexed
as_export (Some (Made k)) name = PartOf k name
as_export _ name = Own

abbrev pub or_own : Option Indexed → Indexed
or_own (Some of) = of
or_own None = Own

abbrev pub with_component : Progress → ComponentOf → Progress
with_component p of =
    numbering (record p { image = record p.image { components = p.image.components ++ of ∷ [] } }) sort.Component (OfComponent (length p.image.components))

abbrev pub with_instance : Progress → ℕ → List (List ℕ × ArgOf) → Progress
with_instance p n given =
    numbering (record p { image = record p.image { instances = p.image.instances ++ (n, given) ∷ [] } }) sort.Instance (Made (length p.image.instances))

abbrev pub with_export : Progress → ExportTree → ℕ × List ℕ → Progress
with_export p e of =
    let export : Exported = record { name = e.name; kind = e.sort; instance = of.0; export = of.1 } in
    numbering (record p { image = record p.image { exports = p.image.exports ++ export ∷ [] } }) e.sort (PartOf of.0 of.1)

-- an import: a component of which instances are made where its name is one of a component, and else what is left open
abbrev pub imported : (List ℕ → Bool) → Progress → ImportTree → TypeRef → Progress
imported is_component p i (description.Component t) =
    if is_component i.name then with_component p (Imported i.name) else numbering p sort.Component (Left i.name)
imported is_component p i ref = numbering p (sort_described ref) (Left i.name)

-- an export without a description, of an export of an instance
abbrev pub exported : Progress → ExportTree → Option TypeRef → Option Progress
exported p e (Some ref) = None
exported p e None = option_map (with_export p e) (as_part (indexed p e.sort e.index))

-- one item more, where it is of a kind that has an image
unfoldable pub seen : (List ℕ → Bool) → Progress → ItemTree → Option Progress
seen is_component p (Component bytes) = Some (with_component p (Defined bytes))
seen is_component p (CoreTy item) = Some (numbering p (sort.Core core.Ty) Own)
seen is_component p (Ty d) = Some (numbering p sort.Ty Own)
seen is_component p (Instance (instance.Instantiate component args)) =
    option_and_then (λ n. option_map (with_instance p n) (arguments p args)) (as_component (indexed p sort.Component component))
seen is_component p (Aliased (alias.Export kind from name)) = Some (numbering p kind (as_export (indexed p sort.Instance from) name))
seen is_component p (Aliased (alias.Outer kind count index)) = Some (numbering p kind (or_own (indexed p kind index)))
seen is_component p (Import i) = Some (imported is_component p i i.ty)
seen is_component p (Export e) = exported p e e.ty
seen is_component p _ = None

unfoldable pub seen_all : (List ℕ → Bool) → Progress → List ItemTree → Option Progress
seen_all is_component p [] = Some p
seen_all is_component p (item ∷ items) = option_and_then (λ next. seen_all is_component next items) (seen is_component p item)

abbrev pub nothing_seen : List (List ℕ × EntityTree) → Progress
nothing_seen imports = record { image = record { components = []; instances = []; imports = imports; exports = [] }; numbered = [] }

-- The image of a component's items, where each is of a kind that has one. `imports` are those of its shape, and
-- `is_component` says under which names components are imported of which instances are made.
abbrev pub image : (List ℕ → Bool) → List (List ℕ × EntityTree) → List ItemTree → Option Image
image is_component imports items = option_map (λ p. p.image) (seen_all is_component (nothing_seen imports) items)
