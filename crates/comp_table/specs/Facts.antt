-- How large and how deep a type or an entity is, as numbers of the machine.
use Rattle.std.specs.Prelude.{ℕ, ◌+◌, nat_lt, if◌then◌else◌, max}
use Rattle.comp_table.specs.declared.head.Head.{Head}
use Rattle.comp_table.specs.declared.head.Head.TheVariants as head
use Rattle.comp_table.specs.Trees.{PlainTree, tree, PlainTrees, none, more}

-- the largest number of a `usize`, and a number as far as it goes
abbrev pub largest : ℕ
largest = 18446744073709551615

abbrev pub capped : ℕ → ℕ
capped n = if nat_lt n largest then n else largest

-- Labels, lists of imports and exports, and the like only hold other nodes together, and do not count. A function
-- counts as its type.
abbrev pub head_size : Head → ℕ
head_size head.Absent = 0
head_size (head.Label label) = 0
head_size head.Entries = 0
head_size (head.Entry mark name) = 0
head_size head.Func = 0
head_size (head.CoreValue v) = 0
head_size _ = 1

-- how many nodes a type or an entity has
abbrev mutual
  pub tree_size : PlainTree → ℕ
  tree_size (tree h parts) = head_size h + trees_size parts

  pub trees_size : PlainTrees → ℕ
  trees_size none = 0
  trees_size (more t ts) = tree_size t + trees_size ts

-- value types alone are deep
abbrev pub head_depth : Head → ℕ
head_depth (head.Primitive p) = 1
head_depth (head.RecordOf place) = 1
head_depth (head.VariantOf place) = 1
head_depth (head.FlagsOf place) = 1
head_depth (head.EnumOf place) = 1
head_depth head.ListOf = 1
head_depth head.TupleOf = 1
head_depth head.OptionOf = 1
head_depth head.ResultOf = 1
head_depth (head.Own r) = 1
head_depth (head.Borrow r) = 1
head_depth _ = 0

-- how deep a value type is, and of what is none how deep the deepest is that stands in it
abbrev mutual
  pub tree_depth : PlainTree → ℕ
  tree_depth (tree h parts) = head_depth h + trees_depth parts

  pub trees_depth : PlainTrees → ℕ
  trees_depth none = 0
  trees_depth (more t ts) = max (tree_depth t) (trees_depth ts)
