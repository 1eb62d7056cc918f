-- What a scope imports and exports, by numbers of a table.
use Rattle.std.specs.Prelude.{◌≡◌, ℕ, List, length, position, unwrap_or, ◌==◌, flat_map}
use Rattle.comp_entity.specs.Entity.{Entries}
use Rattle.comp_entity.specs.Names.{resource_at, place_at}
use Rattle.comp_entity.specs.Views as views
use Rattle.comp_scope.specs.Closing.{first_mentions, mentions_in}
use Rattle.comp_define.specs.declared.closing.FirstMentions.{FirstMentions}
use Rattle.comp_define.specs.declared.closing.Sides.{Sides}
use Rattle.comp_table.specs.declared.head.Head.TheVariants as head
use Rattle.comp_table.specs.Plain.{plain_entries}
use Rattle.comp_table.specs.Trees.{PlainTree, tree, Stands}

-- imports or exports as one tree
abbrev pub plain_side : Entries → PlainTree
plain_side es = tree head.Entries (plain_entries es)

-- the numbers stand for these imports and these exports
pub record ShowsSides (table : List PlainTree) (part : Sides) (sides : views.Sides) : Type 0 where
  pub imports : Stands table part.imports (plain_side sides.imports)
  pub exports : Stands table part.exports (plain_side sides.exports)

-- the place of a number in an order, behind which all others stand
abbrev pub place_in : List ℕ → ℕ → ℕ
place_in order n = unwrap_or (position (λ m. m == n) order) (length order)

-- what imports and exports mention of what the component makes, each where it is mentioned first, exports first
pub record IsOrderOf (order : FirstMentions) (sides : views.Sides) : Type 0 where
  pub resources : order.resources.keys ≡ first_mentions (flat_map (resource_at 0) (mentions_in sides))
  pub places : order.places.keys ≡ first_mentions (flat_map (place_at 0) (mentions_in sides))
