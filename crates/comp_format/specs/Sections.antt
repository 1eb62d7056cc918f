-- Components as bytes: a header, and sections (Component Model, Binary.md, "Component Definitions").
use Rattle.std.specs.Prelude.{◌≡◌, ℕ, zero, suc, List, [], ◌∷◌, ◌++◌, length, drop, map, Result, Ok, Err, ◌==◌, nat_eq, nat_lt, if◌then◌else◌}
use Rattle.std.specs.List.{starts_with}
use Rattle.warg_values.specs.Reading.{◌>>=◌}
use Rattle.comp_format.specs.declared.types.CoreInstance.{CoreInstance}
use Rattle.comp_format.specs.declared.types.InstanceItem.{InstanceItem}
use Rattle.comp_format.specs.declared.types.Alias.{Alias}
use Rattle.comp_format.specs.declared.types.Canon.{Canon}
use Rattle.comp_format.specs.SectionIds as ids
use Rattle.comp_format.specs.Fault.{Fault, Form, NotCarried, TooDeep}
use Rattle.comp_format.specs.Numbers.{FormOf, Number, number_at}
use Rattle.comp_format.specs.Vectors.{ReaderOf, Vector, AnyName, vector_at, front_at, any_name_at}
use Rattle.comp_format.specs.CoreTypes.{CoreTree, CoreForm, core_at}
use Rattle.comp_format.specs.Definitions.{TypeTree, DefForm, definition_at}
use Rattle.comp_format.specs.Canons.{CanonForm, canon_at}
use Rattle.comp_format.specs.Parts.{CoreInstanceForm, InstanceForm, AliasForm, core_instance_at, instance_at, alias_at}
use Rattle.comp_format.specs.Items.{ImportTree, ExportTree, ItemTree, Custom, CoreModule, CoreMade, CoreTy, Component, Instance, Aliased, Ty, Canonical, Import, Export, ImportForm, ExportForm, import_at, export_at}

-- The magic bytes, the version and the layer of a component.
abbrev pub header : List ℕ
header = 0x00 ∷ 0x61 ∷ 0x73 ∷ 0x6d ∷ 0x0d ∷ 0x00 ∷ 0x01 ∷ 0x00 ∷ []

-- The magic bytes and the version of a core module.
abbrev pub core_header : List ℕ
core_header = 0x00 ∷ 0x61 ∷ 0x73 ∷ 0x6d ∷ 0x01 ∷ 0x00 ∷ 0x00 ∷ 0x00 ∷ []

-- a section with what it holds: a custom section; a core module; a nested component, its bytes and its sections; or
-- items of one kind
mutual
  pub data Section : Type 0 where
    Named : List ℕ → List ℕ → Section
    CoreModules : List ℕ → Section
    CoreInstances : List CoreInstance → Section
    CoreTypes : List CoreTree → Section
    Nested : List ℕ → Sections → Section
    Instances : List InstanceItem → Section
    Aliases : List Alias → Section
    Types : List TypeTree → Section
    Canons : List Canon → Section
    Imports : List ImportTree → Section
    Exports : List ExportTree → Section

  pub data Sections : Type 0 where
    none : Sections
    more : Section → Sections → Sections

abbrev pub section_id : Section → ℕ
section_id (Named name bytes) = ids.custom
section_id (CoreModules bytes) = ids.core_modules
section_id (CoreInstances items) = ids.core_instances
section_id (CoreTypes items) = ids.core_types
section_id (Nested bytes inner) = ids.component
section_id (Instances items) = ids.instances
section_id (Aliases items) = ids.aliases
section_id (Types items) = ids.types
section_id (Canons items) = ids.canons
section_id (Imports items) = ids.imports
section_id (Exports items) = ids.exports

-- the items of a section, and of sections, in order
abbrev pub section_items : Section → List ItemTree
section_items (Named name bytes) = Custom name bytes ∷ []
section_items (CoreModules bytes) = CoreModule bytes ∷ []
section_items (CoreInstances items) = map CoreMade items
section_items (CoreTypes items) = map CoreTy items
section_items (Nested bytes inner) = Component bytes ∷ []
section_items (Instances items) = map Instance items
section_items (Aliases items) = map Aliased items
section_items (Types items) = map Ty items
section_items (Canons items) = map Canonical items
section_items (Imports items) = map Import items
section_items (Exports items) = map Export items

abbrev pub items_in : Sections → List ItemTree
items_in none = []
items_in (more s ss) = section_items s ++ items_in ss

-- a section's bytes: its id, the length of its content, and the content
pub record Framed (id : ℕ) (content bytes rest : List ℕ) : Type 0 where
  pub counted : List ℕ
  pub is_id : bytes ≡ id ∷ counted
  pub after : List ℕ
  pub count : Number (length content) counted after
  pub is_there : after ≡ content ++ rest

-- all of the bytes are vectors' items
abbrev pub Whole : {X : Type 0} → FormOf X → List X → List ℕ → Type 0
Whole One xs content = Vector One xs content []

-- the bytes of a header, and behind them the rest, to the end
abbrev pub Behind : List ℕ → (List ℕ → Type 0) → List ℕ → Type 0
Behind head Rest bytes = (after : List ℕ) × (bytes ≡ head ++ after) × Rest after

abbrev pub Headed : (List ℕ → Type 0) → List ℕ → Type 0
Headed Rest bytes = Behind header Rest bytes

abbrev mutual
  -- the content of a section
  pub ContentForm : Section → List ℕ → Type 0
  ContentForm (Named name bytes) content = AnyName name content bytes
  ContentForm (CoreModules bytes) content = (content ≡ bytes) × Behind core_header (λ after. Unit {0}) content
  ContentForm (CoreInstances items) content = Whole CoreInstanceForm items content
  ContentForm (CoreTypes items) content = Whole CoreForm items content
  ContentForm (Nested bytes inner) content = (content ≡ bytes) × Headed (SectionsForm inner) content
  ContentForm (Instances items) content = Whole InstanceForm items content
  ContentForm (Aliases items) content = Whole AliasForm items content
  ContentForm (Types items) content = Whole DefForm items content
  ContentForm (Canons items) content = Whole CanonForm items content
  ContentForm (Imports items) content = Whole ImportForm items content
  ContentForm (Exports items) content = Whole ExportForm items content

  pub SectionsForm : Sections → List ℕ → Type 0
  SectionsForm none bytes = bytes ≡ []
  SectionsForm (more s ss) bytes = (content rest : List ℕ) × Framed (section_id s) content bytes rest × ContentForm s content × SectionsForm ss rest

-- the bytes are a component of these sections
abbrev pub ComponentForm : Sections → List ℕ → Type 0
ComponentForm ss = Headed (SectionsForm ss)

-- The bytes are the written form of exactly these items, in order.
abbrev pub Reads : List ℕ → List ItemTree → Type 0
Reads bytes items = (ss : Sections) × (items ≡ items_in ss) × ComponentForm ss bytes

-- reading
unfoldable pub whole_at : {X : Type 0} → ReaderOf X → List ℕ → Result (List X) Fault
whole_at one content = vector_at one content >>= λ xs. if length xs.1 == 0 then Ok xs.0 else Err Form

unfoldable pub behind_at : {X : Type 0} → List ℕ → (List ℕ → Result X Fault) → List ℕ → Result X Fault
behind_at head rest bytes = if starts_with nat_eq bytes head then rest (drop (length head) bytes) else Err Form

unfoldable pub headed_at : {X : Type 0} → (List ℕ → Result X Fault) → List ℕ → Result X Fault
headed_at rest bytes = behind_at header rest bytes

-- a section's id and content, and the bytes behind it
unfoldable pub frame_at : ReaderOf (ℕ × List ℕ)
frame_at [] = Err Form
frame_at (id ∷ bytes) = do
  count ← number_at bytes
  content ← front_at count.0 count.1
  Ok ((id, content.0), content.1)

-- an id of which sections are carried
unfoldable pub carried_id : ℕ → Result ℕ Fault
carried_id id =
    if id == ids.start then Err NotCarried
    else if id == ids.values then Err NotCarried
    else if nat_lt ids.values id then Err Form
    else Ok id

-- the section at the front, of which the id is the first field
unfoldable pub section_at : ReaderOf (ℕ × List ℕ)
section_at [] = Err Form
section_at (id ∷ bytes) = carried_id id >>= λ carried. frame_at (id ∷ bytes)

-- the content of a section, where nested components, types and core types are read so
unfoldable pub content_with : (List ℕ → Result Sections Fault) → ReaderOf TypeTree → ReaderOf CoreTree → ℕ → List ℕ → Result Section Fault
content_with component ty core id content =
    if id == ids.custom then (any_name_at content >>= λ name. Ok (Named name.0 name.1))
    else if id == ids.core_modules then behind_at core_header (λ after. Ok (CoreModules content)) content
    else if id == ids.core_instances then (whole_at core_instance_at content >>= λ items. Ok (CoreInstances items))
    else if id == ids.core_types then (whole_at core content >>= λ items. Ok (CoreTypes items))
    else if id == ids.component then (component content >>= λ inner. Ok (Nested content inner))
    else if id == ids.instances then (whole_at instance_at content >>= λ items. Ok (Instances items))
    else if id == ids.aliases then (whole_at alias_at content >>= λ items. Ok (Aliases items))
    else if id == ids.types then (whole_at ty content >>= λ items. Ok (Types items))
    else if id == ids.canons then (whole_at canon_at content >>= λ items. Ok (Canons items))
    else if id == ids.start then Err NotCarried
    else if id == ids.imports then (whole_at import_at content >>= λ items. Ok (Imports items))
    else if id == ids.exports then (whole_at export_at content >>= λ items. Ok (Exports items))
    else if id == ids.values then Err NotCarried
    else Err Form

-- so many sections at most, to the end, where contents are read so
unfoldable pub sections_at : (ℕ → List ℕ → Result Section Fault) → ℕ → List ℕ → Result Sections Fault
sections_at content most [] = Ok none
sections_at content zero (b ∷ bytes) = Err Form
sections_at content (suc most) (b ∷ bytes) = section_at (b ∷ bytes) >>= λ f. content f.0.0 f.0.1 >>= λ s. sections_at content most f.1 >>= λ ss. Ok (more s ss)

-- a component in which at most so many scopes are open at one place, itself among them
unfoldable pub component_at : ℕ → List ℕ → Result Sections Fault
component_at zero bytes = Err TooDeep
component_at (suc scopes) bytes =
    headed_at (λ after. sections_at (content_with (component_at scopes) (definition_at scopes) (core_at scopes)) (length after) after) bytes

-- the content of a section in which at most so many scopes are open at one place
unfoldable pub content_at : ℕ → ℕ → List ℕ → Result Section Fault
content_at scopes id content = content_with (component_at scopes) (definition_at scopes) (core_at scopes) id content
