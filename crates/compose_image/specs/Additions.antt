-- What is written for an import, as items of the outermost scope.
use Rattle.std.specs.Prelude.{◌≡◌, List, [], ◌∷◌, ◌++◌}
use Rattle.std.specs.List.{AllByRecursion}
use Rattle.comp_format.specs.Items.{ItemTree, Import}
use Rattle.compose_writing.specs.Scopes.{WrittenScope}
use Rattle.compose_meaning.specs.Items.{items_for}

abbrev pub IsNoImport : ItemTree → Type 0
IsNoImport (Import i) = ⊥
IsNoImport _ = Unit {0}

-- one scope, which has these items more than another
pub record Gains (m : WrittenScope) (next : List WrittenScope) (items : List ItemTree) : Type 0 where
  pub scope : WrittenScope
  pub alone : next ≡ scope ∷ []
  pub gained : items_for scope.decls ≡ items_for m.decls ++ items

-- and none of them is an import
pub record GainsNoImport (m : WrittenScope) (next : List WrittenScope) : Type 0 where
  pub items : List ItemTree
  pub no_import : AllByRecursion IsNoImport items
  pub gains : Gains m next items
