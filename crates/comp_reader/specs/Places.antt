-- Where items stand in the bytes of a component.
use Rattle.std.specs.Prelude.{◌≡◌, ℕ, ◌+◌, ◌<◌, Bool, true, List, [], ◌++◌, length, take, drop, Result, Ok, Err, ◌==◌, if◌then◌else◌}
use Rattle.std.specs.List.{flat_map}
use Rattle.warg_values.specs.Reading.{◌>>=◌}
use Rattle.comp_format.specs.SectionIds as ids
use Rattle.comp_format.specs.Fault.{Fault, Form}
use Rattle.comp_format.specs.Numbers.{FormOf, Number, number_at}
use Rattle.comp_format.specs.Vectors.{ReaderOf, Many, many_at}
use Rattle.comp_format.specs.CoreTypes.{CoreForm, core_at}
use Rattle.comp_format.specs.Definitions.{DefForm, definition_at}
use Rattle.comp_format.specs.Canons.{CanonForm, canon_at}
use Rattle.comp_format.specs.Parts.{CoreInstanceForm, InstanceForm, AliasForm, core_instance_at, instance_at, alias_at}
use Rattle.comp_format.specs.Items.{ImportForm, ExportForm, import_at, export_at}
use Rattle.comp_format.specs.Sections.{Section, Named, CoreModules, CoreInstances, CoreTypes, Nested, Instances, Aliases, Types, Canons, Imports, Exports, Sections, Framed, ContentForm, SectionsForm, header, section_id, section_items}
use Rattle.comp_reader.specs.declared.places.ItemPlace.{ItemPlace}

-- a section's bytes, and the rest behind it
abbrev pub SectionForm : FormOf Section
SectionForm s bytes rest = (content : List ℕ) × Framed (section_id s) content bytes rest × ContentForm s content

-- Of the items of sections, the one of this number is in this section, as its item of the number within. These bytes
-- begin with the section.
pub record InSection (number : ℕ) (sections : List ℕ) (this : Section) (within : ℕ) (section : List ℕ) : Type 0 where
  pub before : List Section
  pub in_front : Many SectionForm before sections section
  pub numbered : number ≡ length (flat_map section_items before) + within
  pub is_there : within < length (section_items this)

-- A vector's value of this number stands at the front of these bytes, and the bytes behind the vector at their end.
abbrev pub ValueFirst : {X : Type 0} → FormOf X → List X → ℕ → List ℕ → List ℕ → List ℕ → Type 0
ValueFirst One xs number content behind item =
    (first values : List ℕ) × Number (length xs) content first × Many One (take number xs) first values × Many One (drop number xs) values [] × (item ≡ values ++ behind)

-- A section's item of this number stands at the front of these bytes, where the bytes from the section on, its content
-- and the bytes behind it are these. A custom section, a core module and a nested component stand where the section
-- does.
abbrev pub ItemFirst : Section → ℕ → List ℕ → List ℕ → List ℕ → List ℕ → Type 0
ItemFirst (Named name bytes) number section content behind item = item ≡ section
ItemFirst (CoreModules bytes) number section content behind item = item ≡ section
ItemFirst (CoreInstances items) number section content behind item = ValueFirst CoreInstanceForm items number content behind item
ItemFirst (CoreTypes items) number section content behind item = ValueFirst CoreForm items number content behind item
ItemFirst (Nested bytes inner) number section content behind item = item ≡ section
ItemFirst (Instances items) number section content behind item = ValueFirst InstanceForm items number content behind item
ItemFirst (Aliases items) number section content behind item = ValueFirst AliasForm items number content behind item
ItemFirst (Types items) number section content behind item = ValueFirst DefForm items number content behind item
ItemFirst (Canons items) number section content behind item = ValueFirst CanonForm items number content behind item
ItemFirst (Imports items) number section content behind item = ValueFirst ImportForm items number content behind item
ItemFirst (Exports items) number section content behind item = ValueFirst ExportForm items number content behind item

-- The bytes are a component, and its item of this number stands there: so many bytes are in front of its section, and
-- in front of itself.
pub record StandsAt (number : ℕ) (bytes : List ℕ) (place : ItemPlace) : Type 0 where
  pub this : Section
  pub within : ℕ
  pub sections : List ℕ
  pub section : List ℕ
  pub content : List ℕ
  pub behind : List ℕ
  pub item : List ℕ
  pub headed : bytes ≡ header ++ sections
  pub in_section : InSection number sections this within section
  pub framed : Framed (section_id this) content section behind
  pub of_content : ContentForm this content
  pub others : (ss : Sections) × SectionsForm ss behind
  pub item_first : ItemFirst this within section content behind item
  pub section_place : place.section + length section ≡ length bytes
  pub item_place : place.item + length item ≡ length bytes

-- reading

-- whether the section of an id is one item, and no vector of items
abbrev pub is_one_item : ℕ → Bool
is_one_item id = if id == ids.custom then true else if id == ids.core_modules then true else id == ids.component

-- how many items a section of this id has
unfoldable pub count_at : ℕ → List ℕ → Result ℕ Fault
count_at id content = if is_one_item id then Ok 1 else (number_at content >>= λ count. Ok count.0)

-- the bytes behind so many values
abbrev pub behind_many_at : {X : Type 0} → ReaderOf X → ℕ → List ℕ → Result (List ℕ) Fault
behind_many_at one count bytes = many_at one count bytes >>= λ xs. Ok xs.1

-- the bytes behind so many items of the kind that sections of an id hold, where so many scopes may be open
unfoldable pub behind_items_at : ℕ → ℕ → ℕ → List ℕ → Result (List ℕ) Fault
behind_items_at scopes id count bytes =
    if id == ids.core_instances then behind_many_at core_instance_at count bytes
    else if id == ids.core_types then behind_many_at (core_at scopes) count bytes
    else if id == ids.instances then behind_many_at instance_at count bytes
    else if id == ids.aliases then behind_many_at alias_at count bytes
    else if id == ids.types then behind_many_at (definition_at scopes) count bytes
    else if id == ids.canons then behind_many_at canon_at count bytes
    else if id == ids.imports then behind_many_at import_at count bytes
    else if id == ids.exports then behind_many_at export_at count bytes
    else Err Form

-- the bytes from an item on, in the content of a section of this id that is a vector of items
unfoldable pub items_from_at : ℕ → ℕ → ℕ → List ℕ → Result (List ℕ) Fault
items_from_at scopes id number content = number_at content >>= λ count. behind_items_at scopes id number count.1
