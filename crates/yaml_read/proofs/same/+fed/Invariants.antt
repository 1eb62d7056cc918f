use Rattle.std.proofs.Common.{◌≡◌, ◌≤◌, length, fold}
use Rattle.yaml_small.specs.View.{view, items_view, members_view}
use Rattle.yaml_read.specs.Fed.{fed_items, fed_members}
use Rattle.yaml_read.proofs.Sizes.{size, items_size, members_size}
use Rattle.yaml_read.proofs.same.+fed.Given as goal

abbrev pub decreases-feed : goal.decreases-feed
decreases-feed g l = size (view l.node.now)

abbrev pub decreases-feed_items : goal.decreases-feed_items
decreases-feed_items g l = items_size (items_view l.items.now)

abbrev pub decreases-feed_pairs : goal.decreases-feed_pairs
decreases-feed_pairs g l = members_size (members_view l.pairs.now)

-- feeding what is left comes to feeding the whole
abbrev pub invariant-feed_items-loop-left : goal.invariant-feed_items-loop-left
invariant-feed_items-loop-left g l = record {
  fed : fold g.H.Hasher.write l.state (fed_items (items_view l.left)) ≡ fold g.H.Hasher.write l.fn.state (fed_items (items_view l.fn.items));
  less : items_size (items_view l.left) ≤ items_size (items_view l.fn.items);
}

abbrev pub decreases-feed_items-loop-left : goal.decreases-feed_items-loop-left
decreases-feed_items-loop-left g l = length l.left

abbrev pub invariant-feed_pairs-loop-left : goal.invariant-feed_pairs-loop-left
invariant-feed_pairs-loop-left g l = record {
  fed : fold g.H.Hasher.write l.state (fed_members (members_view l.left)) ≡ fold g.H.Hasher.write l.fn.state (fed_members (members_view l.fn.pairs));
  less : members_size (members_view l.left) ≤ members_size (members_view l.fn.pairs);
}

abbrev pub decreases-feed_pairs-loop-left : goal.decreases-feed_pairs-loop-left
decreases-feed_pairs-loop-left g l = length l.left
