-- Imports while they are written.
use Rattle.std.specs.Prelude.{◌≡◌, ℕ, List, [], ◌∷◌, ◌++◌, map, Some}
use Rattle.std.specs.List.{AllByRecursion, flat_map}
use Rattle.comp_encoder.specs.Writing.{described_sort, numbered}
use Rattle.comp_format.specs.Items.{ItemTree, Import}
use Rattle.comp_format.specs.declared.types.TypeRef.{TypeRef}
use Rattle.comp_entity.specs.Entity.{IsComponent}
use Rattle.comp_entity.specs.Views.{entries_of}
use Rattle.compose_component.specs.Component.{name_of, shape_of}
use Rattle.compose_component.specs.declared.component.Component.{Component}
use Rattle.compose_order.specs.Needs.{LeftTree}
use Rattle.compose_writing.specs.Scopes.{WrittenScope, outermost}
use Rattle.compose_meaning.specs.Items.{items_for}
use Rattle.compose_types.specs.Scopes.{scopes}
use Rattle.compose_image.specs.Additions.{IsNoImport}
use Rattle.compose_check.specs.Composition.{CompositionTree}
use Rattle.compose_image.specs.Imports.{component_import, component_of, write_lefts}
use Rattle.compose_imports.specs.Imported.{FindsImports}
use Rattle.compose_imports.specs.declared.begun.Begun.{Begun}

-- a component as an import
abbrev pub component_left : Component → LeftTree
component_left c = record {
  name = name_of c;
  entity = IsComponent (entries_of (shape_of c).imports) (entries_of (shape_of c).exports);
  calls = [];
}

-- the import of the component of a number, and those of some numbers
abbrev pub imports_at : CompositionTree → ℕ → List LeftTree
imports_at c number = map component_import (component_of c number)

abbrev pub imports_numbered : CompositionTree → List ℕ → List LeftTree
imports_numbered c numbers = flat_map (imports_at c) numbers

abbrev pub Lefts : Type 0
Lefts = List LeftTree

-- an import of this name and index was written, behind what it needs, where the outermost scope was this one
pub record IsImportedAt (m : WrittenScope) (next : List WrittenScope) (name : List ℕ) (index : ℕ) : Type 0 where
  pub scope : WrittenScope
  pub alone : next ≡ scope ∷ []
  pub needs : List ItemTree
  pub no_import : AllByRecursion IsNoImport needs
  pub ty : TypeRef
  pub items : items_for scope.decls ≡ items_for m.decls ++ needs ++ Import (record { name = name; ty = ty }) ∷ []
  pub index_is : index ≡ numbered (described_sort ty) (items_for m.decls ++ needs)

-- these imports were written, and each name is found
pub record HasWritten (b : Begun) (ls : List LeftTree) : Type 0 where
  pub scope : WrittenScope
  pub alone : scopes b.state ≡ scope ∷ []
  pub written : write_lefts ls (outermost ∷ []) ≡ Some (scope ∷ [])
  pub names : FindsImports b.names (items_for scope.decls)
