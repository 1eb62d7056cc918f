-- What is written for the imports of a composition: those of its components, where these are imported, and those that
-- its instances leave open (Component Model, Explainer.md, "Import and Export Definitions").
use Rattle.std.specs.Prelude.{ℕ, Bool, List, [], ◌∷◌, ◌++◌, map, filter, length, Option, Some, None, option_map, option_and_then, option_to_list, slice_get, if◌then◌else◌}
use Rattle.std.specs.List.{flat_map, list_any, range_with_len}
use Rattle.std.specs.Prelude.{◌==◌}
use Rattle.comp_format.specs.declared.types.Sort.{Sort}
use Rattle.comp_format.specs.Items.{ItemTree, Import}
use Rattle.comp_encoder.specs.Writing.{described_sort}
use Rattle.comp_entity.specs.Entity.{EntityTree, IsInstance, IsComponent}
use Rattle.comp_entity.specs.Views.{entries_of}
use Rattle.comp_scope.specs.Spaces.{sort_of}
use Rattle.compose_left.specs.declared.spots.Spot.{Spot}
use Rattle.compose_order.specs.Needs.{LeftTree}
use Rattle.compose_writing.specs.Scopes.{WrittenScope, outermost}
use Rattle.compose_writing.specs.WriteEntities.{write_also, write_entity, write_import}
use Rattle.compose_meaning.specs.Items.{items_for}
use Rattle.compose_check.specs.Composition.{ComponentTree, CompositionTree}
use Rattle.compose_naming.specs.Settled.{name_in, settled}

-- the components of which instances are made, by their numbers, in the order added
abbrev pub is_used : CompositionTree → ℕ → Bool
is_used c number = list_any (λ n. n == number) c.instances

abbrev pub used : CompositionTree → List ℕ
used c = filter (is_used c) (range_with_len 0 (length c.components))

-- the components of some numbers
abbrev pub component_of : CompositionTree → ℕ → List ComponentTree
component_of c number = option_to_list (slice_get c.components number)

abbrev pub used_components : CompositionTree → List ComponentTree
used_components c = flat_map (component_of c) (used c)

-- a component as an import: nothing in it is called otherwise
abbrev pub component_import : ComponentTree → LeftTree
component_import c = record {
  name = c.name;
  entity = IsComponent (entries_of c.shape.imports) (entries_of c.shape.exports);
  calls = [];
}

-- the imports that are written: components, where they are imported and not defined, and what is left open
abbrev pub imports_of : CompositionTree → Bool → List LeftTree → List LeftTree
imports_of c define lefts = (if define then [] else map component_import (used_components c)) ++ map settled lefts

-- ---- one import

-- the index of what is imported next
abbrev pub next_place : EntityTree → WrittenScope → ℕ
next_place (IsInstance es) m = m.instances
next_place e m = m.types

abbrev pub place_in : EntityTree → List WrittenScope → ℕ
place_in e [] = 0
place_in e (m ∷ ms) = next_place e m

-- what those that need an import call a named type in it is known by each of these names
abbrev pub called_too : ℕ → Spot → List WrittenScope → List WrittenScope
called_too index s ms = if s.what.is_type then write_also (name_in s.what) index s.path ms else ms

unfoldable pub all_called : ℕ → List Spot → List WrittenScope → List WrittenScope
all_called index [] ms = ms
all_called index (s ∷ ss) ms = all_called index ss (called_too index s ms)

-- the types that an import needs, the import, and what is called in it
abbrev pub write_left : LeftTree → List WrittenScope → Option (List WrittenScope)
write_left l ms =
    option_map (λ x. all_called (place_in l.entity x.0) l.calls (write_import l.name l.entity x.1 x.0))
    (write_entity l.entity ms)

unfoldable pub write_lefts : List LeftTree → List WrittenScope → Option (List WrittenScope)
write_lefts [] ms = Some ms
write_lefts (l ∷ ls) ms = option_and_then (write_lefts ls) (write_left l ms)

-- ---- all imports

-- the items of the outermost scope
abbrev pub items_in : List WrittenScope → Option (List ItemTree)
items_in (m ∷ []) = Some (items_for m.decls)
items_in _ = None

-- the items that are written for imports, in a component that has nothing else
abbrev pub import_items : List LeftTree → Option (List ItemTree)
import_items ls = option_and_then items_in (write_lefts ls (outermost ∷ []))

-- what items import, by name and sort
abbrev pub import_in : ItemTree → List (List ℕ × Sort)
import_in (Import i) = (i.name, described_sort i.ty) ∷ []
import_in _ = []

abbrev pub imports_in : List ItemTree → List (List ℕ × Sort)
imports_in items = flat_map import_in items

abbrev pub name_and_sort : LeftTree → List ℕ × Sort
name_and_sort l = (l.name, sort_of l.entity)
