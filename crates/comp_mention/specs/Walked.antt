-- What is known on the way through what numbers stand for.
use Rattle.std.specs.Prelude.{◌≡◌, ℕ, Bool, true, List, [], ◌∷◌, ◌++◌, ◌==◌, if◌then◌else◌}
use Rattle.std.specs.List.{AllByRecursion, list_any, fold}
use Rattle.comp_mention.specs.declared.what.What.{What}
use Rattle.comp_mention.specs.declared.walk.Visited.{Visited}
use Rattle.comp_mention.specs.declared.walk.Walk.{Walk}
use Rattle.comp_mention.specs.Mentions.{picked_in, tree_mentions}
use Rattle.comp_table.specs.Trees.{PlainTree, tree_at}

abbrev pub has : List ℕ → ℕ → Bool
has seen n = list_any (λ m. m == n) seen

-- a number behind others, where it is not among them
abbrev pub with_number : List ℕ → ℕ → List ℕ
with_number seen n = if has seen n then seen else seen ++ n ∷ []

abbrev pub with_numbers : List ℕ → List ℕ → List ℕ
with_numbers seen ns = fold with_number seen ns

-- what a number stands for mentions nothing more, so deep
abbrev pub IsVisited : What → ℕ → List PlainTree → List ℕ → Visited → Type 0
IsVisited w out ts seen v = AllByRecursion (λ n. has seen n ≡ true) (picked_in w out (tree_mentions v.depth (tree_at ts v.number)))

abbrev pub AreVisited : What → ℕ → List PlainTree → Walk → Type 0
AreVisited w out ts walk = AllByRecursion (IsVisited w out ts walk.seen.keys) walk.visited.keys
