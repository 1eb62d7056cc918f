-- What clauses see of the releases that are asked for, as they lie in memory.
use Rattle.std.specs.Prelude.{ℕ, List, [], ◌∷◌, map, Option, Some, None}
use Rattle.warg_names.specs.Import.{ImportTree}
use Rattle.warg_names.specs.View.{import_tree}
use Rattle.warg_bundle.specs.declared.asked.Asked.{Asked}

abbrev pub asked_view : Asked → List ℕ × ImportTree
asked_view a = (a.name.now, import_tree a.import)

abbrev pub one_asked : Option Asked → List (List ℕ × ImportTree)
one_asked (Some a) = asked_view a ∷ []
one_asked None = []

-- what they ask for, in order
abbrev pub imports_of : List Asked → List ImportTree
imports_of asked = map (λ (a : Asked). import_tree a.import) asked
