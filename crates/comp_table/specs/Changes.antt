-- Changes of names in trees of heads.
use Rattle.std.specs.Prelude.{ℕ, suc}
use Rattle.comp_entity.specs.Names.{Change, place_by, without_places}
use Rattle.comp_table.specs.declared.head.Head.{Head}
use Rattle.comp_table.specs.declared.head.Head.TheVariants as head
use Rattle.comp_table.specs.Trees.{PlainTree, tree, PlainTrees, none, more}

-- a head that stands so many scopes deep, in other names
abbrev pub head_by : Change → ℕ → Head → Head
head_by c d (head.RecordOf place) = head.RecordOf (place_by c d place)
head_by c d (head.VariantOf place) = head.VariantOf (place_by c d place)
head_by c d (head.FlagsOf place) = head.FlagsOf (place_by c d place)
head_by c d (head.EnumOf place) = head.EnumOf (place_by c d place)
head_by c d (head.Own r) = head.Own (c.resource d r)
head_by c d (head.Borrow r) = head.Borrow (c.resource d r)
head_by c d (head.Resource r) = head.Resource (c.resource d r)
head_by c d (head.Entry mark name) = head.Entry (c.mark mark) name
head_by c d h = h

-- how deep the parts of a head stand that stands so deep
abbrev pub scopes_in : Head → ℕ → ℕ
scopes_in head.InstanceType d = suc d
scopes_in head.ComponentType d = suc (suc d)
scopes_in head.Component d = suc (suc d)
scopes_in h d = d

abbrev mutual
  pub tree_by : Change → ℕ → PlainTree → PlainTree
  tree_by c d (tree h parts) = tree (head_by c d h) (trees_by c (scopes_in h d) parts)

  pub trees_by : Change → ℕ → PlainTrees → PlainTrees
  trees_by c d none = none
  trees_by c d (more t ts) = more (tree_by c d t) (trees_by c d ts)

-- a tree without the places that named types, and with all naming bits
abbrev pub bare_tree : PlainTree → PlainTree
bare_tree t = tree_by without_places 0 t
