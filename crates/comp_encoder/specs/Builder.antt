-- What the builder keeps: the component as far as it is written, the items of the section that is open, and how many
-- items each index space numbers.
use Rattle.std.specs.Prelude.{◌≡◌, ◌⊎◌, ℕ, zero, suc, ◌<◌, ◌≤◌, ◌-◌, ◌^◌, true, List, [], ◌∷◌, ◌++◌, length, map, drop, slice_index, Result, Ok, Err, Option, Some, None, Vec, ◌==◌, if◌then◌else◌}
use Rattle.std.specs.Global.{Global}
use Rattle.std.specs.List.{AllByRecursion, flat_map}
use Rattle.comp_encoder.specs.declared.built.Kind.{Kind}
use Rattle.comp_encoder.specs.declared.built.Kind.TheVariants as kind
use Rattle.comp_encoder.specs.declared.built.Place.{Place}
use Rattle.comp_format.specs.declared.types.Sort.{Sort}
use Rattle.comp_format.specs.SectionIds as ids
use Rattle.comp_format.specs.Fault.{Fault}
use Rattle.comp_format.specs.Numbers.{number_text}
use Rattle.comp_format.specs.Vectors.{any_name_at}
use Rattle.comp_format.specs.CoreTypes.{core_at}
use Rattle.comp_format.specs.Definitions.{definition_at}
use Rattle.comp_format.specs.Canons.{canon_at}
use Rattle.comp_format.specs.Parts.{core_instance_at, instance_at, alias_at}
use Rattle.comp_format.specs.Items.{ItemTree, Custom, CoreModule, CoreMade, CoreTy, Component, Instance, Aliased, Ty, Canonical, Import, Export, import_at, export_at}
use Rattle.comp_format.specs.Sections.{Section, ContentForm, section_id, section_items, content_at, header}
use Rattle.comp_format.specs.Fits.{FitsItem}
use Rattle.comp_format.specs.Spaces.{space_of}
use Rattle.comp_encoder.specs.Writing.{Entry, Single, GivenSection, WrittenSection, IsShort, IsTooLongAmong, item_id, item_text, is_shared, is_plain, next_index, sections_of, section_text}

-- what was added, as its bytes: an item with the id of its section, or a section
pub data Kept : Type 0 where
  Item : ℕ → List ℕ → Kept
  Whole : ℕ → List ℕ → Kept

abbrev pub kept : Kind → List ℕ → Kept
kept (kind.Item id) bytes = Item id bytes
kept (kind.Section id) content = Whole id content

abbrev pub kind_id : Kind → ℕ
kind_id (kind.Item id) = id
kind_id (kind.Section id) = id

-- what shares its section with nothing: an item that is no vector's, or a section
abbrev pub IsAlone : Kind → Type 0
IsAlone (kind.Item id) = is_plain id ≡ true
IsAlone (kind.Section id) = Unit {0}

-- what a pair of the history tells: so many of the last bytes, and what they are
abbrev pub seen : Place × Vec ℕ Global → Kept
seen p = kept p.0.kind (drop (length p.1.items - p.0.len) p.1.items)

abbrev pub kepts_of : List (Place × Vec ℕ Global) → List Kept
kepts_of history = map seen history

-- the item that was read
abbrev pub read_as : {X : Type 0} → (X → ItemTree) → Result (X × List ℕ) Fault → ItemTree
read_as item (Ok x) = item x.0
read_as item (Err fault) = Custom [] []

-- the custom section that was read: its name, and the bytes behind it
abbrev pub custom_of : Result (List ℕ × List ℕ) Fault → ItemTree
custom_of (Ok name) = Custom name.0 name.1
custom_of (Err fault) = Custom [] []

-- the item of these bytes, in a section of this id
unfoldable pub item_of : ℕ → List ℕ → ItemTree
item_of id bytes =
    if id == ids.custom then custom_of (any_name_at bytes)
    else if id == ids.core_modules then CoreModule bytes
    else if id == ids.core_instances then read_as CoreMade (core_instance_at bytes)
    else if id == ids.core_types then read_as CoreTy (core_at (length bytes) bytes)
    else if id == ids.component then Component bytes
    else if id == ids.instances then read_as Instance (instance_at bytes)
    else if id == ids.aliases then read_as Aliased (alias_at bytes)
    else if id == ids.types then read_as Ty (definition_at (length bytes) bytes)
    else if id == ids.canons then read_as Canonical (canon_at bytes)
    else if id == ids.imports then read_as Import (import_at bytes)
    else if id == ids.exports then read_as Export (export_at bytes)
    else Custom [] []

-- the items of a section that was read
abbrev pub items_read : Result Section Fault → List ItemTree
items_read (Ok s) = section_items s
items_read (Err fault) = []

-- what was added
unfoldable pub entry_of : Kept → Entry
entry_of (Item id bytes) = Single (item_of id bytes)
entry_of (Whole id content) = GivenSection id content (items_read (content_at (length content) id content))

-- what was added, in order
unfoldable pub entries_of : List Kept → List Entry
entries_of kepts = map entry_of kepts

-- these are an item's bytes, and read as it
pub record IsBytesOf (item : ItemTree) (id : ℕ) (bytes : List ℕ) : Type 0 where
  pub is : item_of id bytes ≡ item
  pub id_is : item_id item ≡ id
  pub text : item_text item ≡ bytes
  pub fits : FitsItem item

-- this is the content of a section of this id, and holds these items
pub record IsContentOf (items : List ItemTree) (id : ℕ) (content : List ℕ) : Type 0 where
  pub section : Section
  pub id_is : section_id section ≡ id
  pub items_are : section_items section ≡ items
  pub form : ContentForm section content

-- this is the content of a section of this id
abbrev pub IsContent : ℕ → List ℕ → Type 0
IsContent id content = (items : List ItemTree) × IsContentOf items id content

-- an item as its bytes, or a section as its content
abbrev pub IsKept : Kept → Type 0
IsKept (Item id bytes) = IsBytesOf (item_of id bytes) id bytes
IsKept (Whole id content) = IsContentOf (items_read (content_at (length content) id content)) id content

-- each index space is counted
pub record IsBuilt (kepts : List Kept) (counts : List ℕ) : Type 0 where
  pub fit : AllByRecursion IsKept kepts
  pub counted : (kind : Sort) → slice_index counts (space_of kind) ≡ next_index kind (entries_of kepts)
  pub small : (kind : Sort) → slice_index counts (space_of kind) < 2 ^ 32

-- the bytes that stand in a section
abbrev pub kept_bytes : Kept → List ℕ
kept_bytes (Item id bytes) = bytes
kept_bytes (Whole id content) = content

-- items that share a section of this id
abbrev pub shared_section : ℕ → List Kept → WrittenSection
shared_section id kepts = record { id = id; items = map (λ k. item_of id (kept_bytes k)) kepts; raw = None }

-- the section of what stands first
abbrev pub first_section : List Kept → WrittenSection
first_section [] = shared_section 0 []
first_section (Item id bytes ∷ kepts) = shared_section id (Item id bytes ∷ kepts)
first_section (Whole id content ∷ kepts) =
    record { id = id; items = items_read (content_at (length content) id content); raw = Some content }

-- an item of this id
abbrev pub IsItem : ℕ → Kept → Type 0
IsItem id (Item i bytes) = i ≡ id
IsItem id (Whole i content) = ⊥

-- No item of this id stands first.
abbrev pub EndsRun : ℕ → List Kept → Type 0
EndsRun id [] = Unit {0}
EndsRun id (k ∷ kepts) = ¬ IsItem id k

-- ---- what is written

-- the component, where nothing of it may be written yet
abbrev pub begun : List ℕ → List ℕ
begun [] = header
begun (b ∷ bytes) = b ∷ bytes

-- the content of the section of so many items, which have these bytes
abbrev pub run_content : ℕ → List ℕ → List ℕ
run_content count bytes = number_text count ++ bytes

-- that section, where there are any
abbrev pub run_text : ℕ → ℕ → List ℕ → List ℕ
run_text id zero bytes = []
run_text id (suc more) bytes =
    id ∷ (number_text (length (run_content (suc more) bytes)) ++ run_content (suc more) bytes)

abbrev pub run_sections : ℕ → List Kept → List WrittenSection
run_sections id [] = []
run_sections id (k ∷ kepts) = shared_section id (k ∷ kepts) ∷ []

-- the section can be written
pub record IsRunShort (count : ℕ) (bytes : List ℕ) : Type 0 where
  pub few : count < 2 ^ 32
  pub short : length (run_content count bytes) < 2 ^ 32

-- the number is its count or length, and can't be written
pub record IsRunLong (n count : ℕ) (bytes : List ℕ) : Type 0 where
  pub some : 0 < count
  pub above : 2 ^ 32 ≤ n
  pub which : (n ≡ count) ⊎ (n ≡ length (run_content count bytes))

-- The section was written behind the others, or a number of it is too large.
abbrev pub IsEnded : ℕ → ℕ → List ℕ → List ℕ → Option ℕ → List ℕ → Option ℕ → Type 0
IsEnded id count bytes out told new fault =
    ((fault ≡ told) × (new ≡ begun out ++ run_text id count bytes) × (0 < count → IsRunShort count bytes))
    ⊎ ((n : ℕ) × (fault ≡ Some n) × IsRunLong n count bytes)

-- Sections were written, and neighbouring items of a kind are to share the next, so many of these bytes. Where a
-- section can't be written, its count or length is told, and nothing is known of what was written.
pub record IsLaid
    (kepts : List Kept) (out : List ℕ) (id count : ℕ) (bytes : List ℕ) (fault : Option ℕ)
    : Type 0 where
  pub before : List WrittenSection
  pub run : List Kept
  pub cut : (rest : List Kept)
      → AllByRecursion IsKept rest
      → sections_of (entries_of (kepts ++ rest)) ≡ before ++ sections_of (entries_of (run ++ rest))
  pub fit : AllByRecursion IsKept run
  pub alike : AllByRecursion (IsItem id) run
  pub shared : is_shared id ≡ true
  pub counted : length run ≡ count
  pub bytes_are : flat_map kept_bytes run ≡ bytes
  pub text : fault ≡ None → begun out ≡ header ++ flat_map section_text before
  pub short : fault ≡ None → AllByRecursion IsShort before
  pub long : (n : ℕ) → fault ≡ Some n → IsTooLongAmong n before

-- what was written before still stands first
abbrev pub BeginsWith : List ℕ → List ℕ → Type 0
BeginsWith old new = (more : List ℕ) × (new ≡ old ++ more)
