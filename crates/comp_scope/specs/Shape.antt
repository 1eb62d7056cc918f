-- The shape of a component: its imports and exports, with all indices followed (Component Model, Explainer.md, "Index
-- Spaces" and "Component Definitions").
use Rattle.std.specs.Prelude.{◌≡◌, ℕ, ◌+◌, true, List, [], ◌∷◌, ◌++◌, Some, Result, Ok, Err, if◌then◌else◌, false, Bool}
use Rattle.warg_values.specs.Reading.{◌>>=◌}
use Rattle.comp_format.specs.Items.{ItemTree, Custom, CoreModule, CoreMade, CoreTy, Component, Instance, Aliased, Ty, Canonical, Import, Export}
use Rattle.comp_format.specs.Sections.{Section, Nested, Sections, none, more, section_items, ComponentForm}
use Rattle.comp_entity.specs.Entity.{EntityTree, IsComponent, IsOwnModule, Entries, no_entry, entry, ShapeTree}
use Rattle.comp_entity.specs.Names.{Change, entity_by}
use Rattle.comp_entity.specs.Bounds.{ShapeFault, Index, TooBig, Bounds, unbounded, is_within, entries_nodes}
use Rattle.comp_entity.specs.Views.{Sides}
use Rattle.comp_scope.specs.Spaces.{Spaces, Known, nothing_known, added, with_core_type, Standing}
use Rattle.comp_scope.specs.CoreScopes.{core_type_of}
use Rattle.comp_scope.specs.Descriptions.{imported}
use Rattle.comp_scope.specs.Aliases.{core_scopes, aliased}
use Rattle.comp_scope.specs.Closing.{closed}
use Rattle.comp_scope.specs.Types.{with_type, opened_scope, with_spaces}
use Rattle.comp_scope.specs.Instances.{with_instance, with_core_instance}
use Rattle.comp_scope.specs.Exports.{exported}
use Rattle.comp_scope.specs.Canons.{with_canon}

-- The parts of a component: its items, where nested components stand with their bytes and with their own parts.
mutual
  pub data Part : Type 0 where
    Plain : ItemTree → Part
    Inner : List ℕ → Parts → Part

  pub data Parts : Type 0 where
    nothing : Parts
    then_part : Part → Parts → Parts

abbrev pub in_front_of : List ItemTree → Parts → Parts
in_front_of [] parts = parts
in_front_of (item ∷ items) parts = then_part (Plain item) (in_front_of items parts)

-- the parts that the sections of a component hold, in order
abbrev mutual
  pub parts_of_section : Section → Parts → Parts
  parts_of_section (Nested bytes inner) parts = then_part (Inner bytes (parts_in inner)) parts
  parts_of_section s parts = in_front_of (section_items s) parts

  pub parts_in : Sections → Parts
  parts_in none = nothing
  parts_in (more s ss) = parts_of_section s (parts_in ss)

-- The bytes are a component with these parts.
abbrev pub HasParts : List ℕ → Parts → Type 0
HasParts bytes parts = (ss : Sections) × (parts ≡ parts_in ss) × ComponentForm ss bytes

-- Some items, and the same with the parts of nested components in their places.
abbrev pub IsPart : ItemTree → Part → Type 0
IsPart (Component bytes) (Inner within parts) = (bytes ≡ within) × HasParts bytes parts
IsPart (Component bytes) (Plain item) = ⊥
IsPart item (Plain other) = item ≡ other
IsPart item (Inner within parts) = ⊥

abbrev pub Expands : List ItemTree → Parts → Type 0
Expands [] nothing = Unit {0}
Expands (item ∷ items) (then_part p ps) = IsPart item p × Expands items ps
Expands _ _ = ⊥

-- The index spaces behind an item more that is neither imported nor exported, and no nested component. `around` are the
-- scopes around, from the innermost.
unfoldable pub spaces_after : Bounds → List Spaces → Spaces → ItemTree → Result Spaces ShapeFault
spaces_after b around s (Custom name bytes) = Ok s
spaces_after b around s (CoreModule bytes) = Ok (record s { modules = s.modules ++ (IsOwnModule, true) ∷ [] })
spaces_after b around s (CoreMade item) = with_core_instance s item
spaces_after b around s (CoreTy t) = core_type_of b (core_scopes (s ∷ around)) t >>= λ t. Ok (with_core_type s t)
spaces_after b around s (Instance item) = with_instance b s item
spaces_after b around s (Aliased a) = aliased b around s a
spaces_after b around s (Ty t) = with_type b around s t
spaces_after b around s (Canonical c) = with_canon b s c
spaces_after b around s _ = Err Index

-- an item more, which is no nested component
unfoldable pub after : Bounds → List Spaces → Known → ItemTree → Result Known ShapeFault
after b around k (Import i) = imported b k i.name i.ty
after b around k (Export e) = exported b k e
after b around k item = spaces_after b around k.spaces item >>= λ s. Ok (with_spaces k s)

-- a nested component behind the others
abbrev pub with_component : Bounds → Known → Known → Result Known ShapeFault
with_component b k inner =
    added b k.spaces (IsComponent (closed inner).imports (closed inner).exports) true >>= λ s. Ok (with_spaces k s)

unfoldable mutual
  pub after_part : Bounds → List Spaces → Known → Part → Result Known ShapeFault
  after_part b around k (Plain item) = after b around k item
  after_part b around k (Inner bytes parts) = opened_scope b (k.spaces ∷ around)
      (after_parts b (k.spaces ∷ around) (nothing_known true) parts >>= with_component b k)

  pub after_parts : Bounds → List Spaces → Known → Parts → Result Known ShapeFault
  after_parts b around k nothing = Ok k
  after_parts b around k (then_part p ps) = after_part b around k p >>= λ next. after_parts b around next ps

-- a part that is neither imported nor exported
abbrev pub is_inner : Part → Bool
is_inner (Plain (Import i)) = false
is_inner (Plain (Export e)) = false
is_inner p = true

-- the same index spaces beside other imports and exports
abbrev pub beside : List (List ℕ × Standing) → List (List ℕ × Standing) → Known → Known
beside imports exports k = record { spaces = k.spaces; imports = imports; exports = exports }

abbrev pub answer_beside : List (List ℕ × Standing) → List (List ℕ × Standing) → Result Known ShapeFault → Result Known ShapeFault
answer_beside imports exports read = read >>= λ k. Ok (beside imports exports k)

-- of a shape each entry has the naming bit
abbrev pub settled : Change
settled = record { resource = λ depth n. n; place = λ depth n. Some n; mark = λ m. true }

abbrev pub listed : Entries → List (List ℕ × EntityTree)
listed no_entry = []
listed (entry name e mark es) = (name, entity_by settled 0 e) ∷ listed es

abbrev pub as_shape : Bounds → Sides → Result ShapeTree ShapeFault
as_shape b c =
    if is_within b.nodes (entries_nodes c.imports + entries_nodes c.exports)
    then Ok (record { imports = listed c.imports; exports = listed c.exports })
    else Err TooBig

-- The shape of a component's parts as it is read within bounds, and the shape that they have.
unfoldable pub shape_within : Bounds → Parts → Result ShapeTree ShapeFault
shape_within b parts = after_parts b [] (nothing_known true) parts >>= λ k. as_shape b (closed k)

abbrev pub shape : Parts → Result ShapeTree ShapeFault
shape parts = shape_within unbounded parts
