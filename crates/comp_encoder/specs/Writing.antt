-- The bytes that the builder writes: each length, count and index in its shortest spelling, and neighbouring items of
-- one kind in one section. A custom section, a core module and a nested component have each a section of their own, as
-- has a section that was given as its bytes.
use Rattle.std.specs.Prelude.{◌≡◌, ℕ, ◌<◌, ◌^◌, Bool, false, List, [], ◌∷◌, ◌++◌, length, Option, Some, None, is_none, unwrap_or, ◌==◌, ◌&&◌, ◌||◌, ◌⊎◌, ◌≤◌, if◌then◌else◌, count_by, Contains}
use Rattle.std.specs.List.{flat_map}
use Rattle.comp_format.specs.declared.types.CoreSort.TheVariants as core
use Rattle.comp_format.specs.declared.types.Sort.{Sort}
use Rattle.comp_format.specs.declared.types.Sort.TheVariants as sort
use Rattle.comp_format.specs.declared.types.TypeRef.{TypeRef}
use Rattle.comp_format.specs.declared.types.TypeRef.TheVariants as description
use Rattle.comp_format.specs.declared.types.Alias.{Alias}
use Rattle.comp_format.specs.declared.types.Alias.TheVariants as alias
use Rattle.comp_format.specs.declared.types.Canon.{Canon}
use Rattle.comp_format.specs.declared.types.Canon.TheVariants as canon
use Rattle.comp_format.specs.SectionIds as ids
use Rattle.comp_format.specs.Spaces.{space_of}
use Rattle.comp_format.specs.Numbers.{number_text}
use Rattle.comp_format.specs.Vectors.{vector_text, name_text}
use Rattle.comp_format.specs.CoreTypes.{core_text}
use Rattle.comp_format.specs.Definitions.{definition_text}
use Rattle.comp_format.specs.Canons.{canon_text}
use Rattle.comp_format.specs.Parts.{core_instance_text, instance_text, alias_text}
use Rattle.comp_format.specs.Items.{ItemTree, Custom, CoreModule, CoreMade, CoreTy, Component, Instance, Aliased, Ty, Canonical, Import, Export, import_text, export_text}
use Rattle.comp_format.specs.Sections.{header}

-- what is added to a component: an item, or a section as its id and content, with the items that it holds
pub data Entry : Type 0 where
  Single : ItemTree → Entry
  GivenSection : ℕ → List ℕ → List ItemTree → Entry

-- the items, in order
abbrev pub items_of : List Entry → List ItemTree
items_of [] = []
items_of (Single item ∷ entries) = item ∷ items_of entries
items_of (GivenSection id content items ∷ entries) = items ++ items_of entries

-- the id of the section that holds an item
abbrev pub item_id : ItemTree → ℕ
item_id (Custom name bytes) = ids.custom
item_id (CoreModule bytes) = ids.core_modules
item_id (CoreMade item) = ids.core_instances
item_id (CoreTy item) = ids.core_types
item_id (Component bytes) = ids.component
item_id (Instance item) = ids.instances
item_id (Aliased item) = ids.aliases
item_id (Ty item) = ids.types
item_id (Canonical item) = ids.canons
item_id (Import item) = ids.imports
item_id (Export item) = ids.exports

abbrev pub item_text : ItemTree → List ℕ
item_text (Custom name bytes) = name_text name ++ bytes
item_text (CoreModule bytes) = bytes
item_text (CoreMade item) = core_instance_text item
item_text (CoreTy item) = core_text item
item_text (Component bytes) = bytes
item_text (Instance item) = instance_text item
item_text (Aliased item) = alias_text item
item_text (Ty item) = definition_text item
item_text (Canonical item) = canon_text item
item_text (Import item) = import_text item
item_text (Export item) = export_text item

-- the sections that items share, and those that are no vector of items
abbrev pub is_shared : ℕ → Bool
is_shared id =
    id == ids.core_instances || id == ids.core_types || id == ids.instances || id == ids.aliases || id == ids.types
    || id == ids.canons || id == ids.imports || id == ids.exports

abbrev pub is_plain : ℕ → Bool
is_plain id = id == ids.custom || id == ids.core_modules || id == ids.component

-- a section to be written: its id, its items, and its content where that was given
pub record WrittenSection : Type 0 where
  pub id : ℕ
  pub items : List ItemTree
  pub raw : Option (List ℕ)

-- the section of an item alone
abbrev pub alone : ItemTree → WrittenSection
alone item = record { id = item_id item; items = item ∷ []; raw = None }

-- whether an item shares a section
abbrev pub joins : ItemTree → WrittenSection → Bool
joins item g = item_id item == g.id && is_shared g.id && is_none g.raw

-- An item in front of sections joins the first, where it shares that, and else begins one.
abbrev pub joined : ItemTree → List WrittenSection → List WrittenSection
joined item [] = alone item ∷ []
joined item (g ∷ gs) =
    if joins item g then record { id = g.id; items = item ∷ g.items; raw = g.raw } ∷ gs else alone item ∷ g ∷ gs

-- what was added, cut into sections
abbrev pub sections_of : List Entry → List WrittenSection
sections_of [] = []
sections_of (Single item ∷ entries) = joined item (sections_of entries)
sections_of (GivenSection id content items ∷ entries) =
    record { id = id; items = items; raw = Some content } ∷ sections_of entries

-- the content of a section of some items
abbrev pub items_text : ℕ → List ItemTree → List ℕ
items_text id items = if is_plain id then flat_map item_text items else vector_text item_text items

-- a section: its id, the length of its content, and the content
abbrev pub content_text : WrittenSection → List ℕ
content_text g = unwrap_or g.raw (items_text g.id g.items)

abbrev pub section_text : WrittenSection → List ℕ
section_text g = g.id ∷ (number_text (length (content_text g)) ++ content_text g)

-- the component to which this was added
abbrev pub component_text : List Entry → List ℕ
component_text entries = header ++ flat_map section_text (sections_of entries)

-- a section whose count and length can be written
pub record IsShort (g : WrittenSection) : Type 0 where
  pub count : length g.items < 2 ^ 32
  pub bytes : length (content_text g) < 2 ^ 32

-- the number is such a count or length, and can't be written
pub record IsTooLong (n : ℕ) (g : WrittenSection) : Type 0 where
  pub above : 2 ^ 32 ≤ n
  pub which : (n ≡ length g.items) ⊎ (n ≡ length (content_text g))

-- the number is one of some section
abbrev pub IsTooLongAmong : ℕ → List WrittenSection → Type 0
IsTooLongAmong n sections = (g : WrittenSection) × Contains sections g × IsTooLong n g

-- What a description or a function on resources brings, and so what an item is. A custom section is in no index space.
abbrev pub described_sort : TypeRef → Sort
described_sort (description.Module i) = sort.Core core.Module
described_sort (description.Func i) = sort.Func
described_sort (description.TyEqual i) = sort.Ty
described_sort description.TyFresh = sort.Ty
described_sort (description.Component i) = sort.Component
described_sort (description.Instance i) = sort.Instance

abbrev pub aliased_sort : Alias → Sort
aliased_sort (alias.Export kind from name) = kind
aliased_sort (alias.CoreExport kind from name) = sort.Core kind
aliased_sort (alias.Outer kind count index) = kind

abbrev pub canonical_sort : Canon → Sort
canonical_sort (canon.Lift f options ty) = sort.Func
canonical_sort _ = sort.Core core.Func

abbrev pub item_sort : ItemTree → Option Sort
item_sort (Custom name bytes) = None
item_sort (CoreModule bytes) = Some (sort.Core core.Module)
item_sort (CoreMade item) = Some (sort.Core core.Instance)
item_sort (CoreTy item) = Some (sort.Core core.Ty)
item_sort (Component bytes) = Some sort.Component
item_sort (Instance item) = Some sort.Instance
item_sort (Aliased item) = Some (aliased_sort item)
item_sort (Ty item) = Some sort.Ty
item_sort (Canonical item) = Some (canonical_sort item)
item_sort (Import item) = Some (described_sort item.ty)
item_sort (Export item) = Some item.sort

-- whether this index space numbers what is of a sort
abbrev pub numbers : ℕ → Option Sort → Bool
numbers space None = false
numbers space (Some kind) = space_of kind == space

-- how many of some items an index space numbers
abbrev pub numbered : Sort → List ItemTree → ℕ
numbered kind items = count_by (λ item. numbers (space_of kind) (item_sort item)) items

-- how many items an index space numbers, and so the index of the next
abbrev pub next_index : Sort → List Entry → ℕ
next_index kind entries = numbered kind (items_of entries)
