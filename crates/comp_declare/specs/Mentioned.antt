-- Whether trees of heads mention resources.
use Rattle.std.specs.Prelude.{◌≡◌, ℕ, Bool, true, false, ◌||◌, List}
use Rattle.std.specs.List.{AllByRecursion}
use Rattle.comp_table.specs.declared.head.Head.{Head}
use Rattle.comp_table.specs.declared.head.Head.TheVariants as head
use Rattle.comp_table.specs.Trees.{PlainTree, tree, PlainTrees, none, more, tree_at}

abbrev pub names_resource : Head → Bool
names_resource (head.Own r) = true
names_resource (head.Borrow r) = true
names_resource (head.Resource r) = true
names_resource _ = false

-- a resource stands anywhere in it, one of its own scopes too
abbrev mutual
  pub has_resource : PlainTree → Bool
  has_resource (tree h parts) = names_resource h || any_has_resource parts

  pub any_has_resource : PlainTrees → Bool
  any_has_resource none = false
  any_has_resource (more t ts) = has_resource t || any_has_resource ts

-- these numbers stand for what mentions none
abbrev pub AreWithout : List PlainTree → List ℕ → Type 0
AreWithout table numbers = AllByRecursion (λ n. has_resource (tree_at table n) ≡ false) numbers
