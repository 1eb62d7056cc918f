-- The imports that a lock has.
use Rattle.std.specs.Prelude.{◌≡◌, List, [], ◌∷◌, ◌++◌, ◌-◌, if◌then◌else◌, fold, length, map, take}
use Rattle.std.specs.List.{flat_map, list_any}
use Rattle.warg_names.specs.Import.{ImportTree}
use Rattle.warg_names.specs.Same.{same_import}
use Rattle.warg_names.specs.View.{import_tree}
use Rattle.warg_plan.specs.Keys.{Key, Named, Parsed}
use Rattle.warg_plan.specs.Walk.{Entry}
use Rattle.warg_client.specs.declared.lock_list.LockListBuilder.{LockListBuilder}

-- the imports of a list, in order
abbrev pub listed_in : LockListBuilder → List ImportTree
listed_in b = map import_tree b.lock_list.keys

-- with an import behind the others, where none of them asks for the same
abbrev pub with_import : List ImportTree → ImportTree → List ImportTree
with_import is i = if list_any (same_import i) is then is else is ++ i ∷ []

abbrev pub imports_at : Key → List ImportTree
imports_at (Named name) = []
imports_at (Parsed i) = i ∷ []

-- what imports ask for that have entries of a plan
abbrev pub imports_among : List Entry → List ImportTree
imports_among es = flat_map (λ e. imports_at e.key) es

-- the entries in front of the last, which is the root
abbrev pub before_root : List Entry → List Entry
before_root es = take (length es - 1) es

-- a list with what the imports of a plan ask for, each once
abbrev pub with_plan : List ImportTree → List Entry → List ImportTree
with_plan is es = fold with_import is (imports_among (before_root es))

-- a list with some imports more
pub record IsGrown (old new : List ImportTree) : Type 0 where
  pub added : List ImportTree
  pub adds : new ≡ fold with_import old added
