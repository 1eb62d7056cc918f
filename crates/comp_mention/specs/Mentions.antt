-- What trees of heads mention, as the entities do whose trees they are.
use Rattle.std.specs.Prelude.{ℕ, Bool, true, false, if◌then◌else◌, List, [], ◌∷◌, ◌++◌, flat_map}
use Rattle.comp_entity.specs.Names.{Mention, OfResource, at_place, resource_at, place_at}
use Rattle.comp_mention.specs.declared.what.What.{What}
use Rattle.comp_mention.specs.declared.what.What.TheVariants as what
use Rattle.comp_table.specs.declared.head.Head.{Head}
use Rattle.comp_table.specs.declared.head.Head.TheVariants as head
use Rattle.comp_table.specs.Changes.{scopes_in}
use Rattle.comp_table.specs.Trees.{PlainTree, tree, PlainTrees, none, more, root, below_root, tree_at}

-- what a head mentions that stands so many scopes deep
abbrev pub head_mentions : ℕ → Head → List (ℕ × Mention)
head_mentions d (head.RecordOf place) = at_place d place
head_mentions d (head.VariantOf place) = at_place d place
head_mentions d (head.FlagsOf place) = at_place d place
head_mentions d (head.EnumOf place) = at_place d place
head_mentions d (head.Own r) = (d, OfResource r) ∷ []
head_mentions d (head.Borrow r) = (d, OfResource r) ∷ []
head_mentions d (head.Resource r) = (d, OfResource r) ∷ []
head_mentions d _ = []

abbrev pub is_func_type : Head → Bool
is_func_type head.FuncType = true
is_func_type _ = false

-- What a tree mentions, from left to right. The result of a function stands in front of its parameters, and is mentioned
-- behind them.
abbrev mutual
  pub tree_mentions : ℕ → PlainTree → List (ℕ × Mention)
  tree_mentions d (tree h parts) =
      head_mentions d h ++ (if is_func_type h then func_mentions (scopes_in h d) parts else trees_mentions (scopes_in h d) parts)

  pub trees_mentions : ℕ → PlainTrees → List (ℕ × Mention)
  trees_mentions d none = []
  trees_mentions d (more t ts) = tree_mentions d t ++ trees_mentions d ts

  pub func_mentions : ℕ → PlainTrees → List (ℕ × Mention)
  func_mentions d none = []
  func_mentions d (more result params) = trees_mentions d params ++ tree_mentions d result

-- what the parts of a tree mention
abbrev pub below_mentions : ℕ → PlainTree → List (ℕ × Mention)
below_mentions d t = if is_func_type (root t) then func_mentions d (below_root t) else trees_mentions d (below_root t)

-- the numbers of those resources, or of those places that named types, that are of the scope so far out
abbrev pub picked : What → ℕ → ℕ × Mention → List ℕ
picked what.Resources out m = resource_at out m
picked what.Places out m = place_at out m

abbrev pub picked_in : What → ℕ → List (ℕ × Mention) → List ℕ
picked_in w out ms = flat_map (picked w out) ms

-- what some numbers stand for mentions, in order
abbrev pub mentions_at : List PlainTree → List ℕ → List (ℕ × Mention)
mentions_at ts numbers = flat_map (λ n. tree_mentions 0 (tree_at ts n)) numbers
