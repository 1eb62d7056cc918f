-- What is known of numbers that were renamed: for a number and a depth, the number of the same in other names.
use Rattle.std.specs.Prelude.{◌≡◌, ℕ, ◌<◌, List, length, Some}
use Rattle.std.specs.BTreeMap.{BTreeMap, get}
use Rattle.std.specs.Ordering.{nat_cmp, ordering_then}
use Rattle.std.specs.declared.cmp.Ordering.{Ordering}
use Rattle.comp_entity.specs.Names.{Change}
use Rattle.comp_rename.specs.declared.rename.Mentioned.{Mentioned}
use Rattle.comp_table.specs.Changes.{tree_by}
use Rattle.comp_table.specs.Trees.{PlainTree, tree_at, Stands}

abbrev pub mentioned_cmp : Mentioned → Mentioned → Ordering
mentioned_cmp a b = ordering_then (nat_cmp a.number b.number) (nat_cmp a.depth b.depth)

pub record IsRenamed (c : Change) (ts : List PlainTree) (m : Mentioned) (n : ℕ) : Type 0 where
  pub there : m.number < length ts
  pub renamed : Stands ts n (tree_by c m.depth (tree_at ts m.number))

abbrev pub IsKnown : Change → List PlainTree → BTreeMap Mentioned ℕ → Type 0
IsKnown c ts known = (m : Mentioned) (n : ℕ) → get mentioned_cmp known m ≡ Some n → IsRenamed c ts m n
