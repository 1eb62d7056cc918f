use Rattle.std.proofs.Common.{◌≡◌, ◌≤◌, length}
use Rattle.yaml_small.specs.View.{view, items_view, members_view}
use Rattle.yaml_read.specs.Same.{same_items, same_members}
use Rattle.yaml_read.proofs.Sizes.{size, items_size, members_size}
use Rattle.yaml_read.proofs.same.+same.Given as goal

abbrev pub decreases-is_same : goal.decreases-is_same
decreases-is_same l = size (view l.one.now)

abbrev pub decreases-are_same : goal.decreases-are_same
decreases-are_same l = items_size (items_view l.items.now)

abbrev pub decreases-are_same_pairs : goal.decreases-are_same_pairs
decreases-are_same_pairs l = members_size (members_view l.pairs.now)

-- what is left is the same where the whole is
abbrev pub invariant-are_same-loop-left : goal.invariant-are_same-loop-left
invariant-are_same-loop-left l = record {
  same : same_items (items_view l.left) (items_view l.right) ≡ same_items (items_view l.fn.items) (items_view l.fn.others);
  less : items_size (items_view l.left) ≤ items_size (items_view l.fn.items);
}

abbrev pub decreases-are_same-loop-left : goal.decreases-are_same-loop-left
decreases-are_same-loop-left l = length l.left

abbrev pub invariant-are_same_pairs-loop-left : goal.invariant-are_same_pairs-loop-left
invariant-are_same_pairs-loop-left l = record {
  same : same_members (members_view l.left) (members_view l.right) ≡ same_members (members_view l.fn.pairs) (members_view l.fn.others);
  less : members_size (members_view l.left) ≤ members_size (members_view l.fn.pairs);
}

abbrev pub decreases-are_same_pairs-loop-left : goal.decreases-are_same_pairs-loop-left
decreases-are_same_pairs-loop-left l = length l.left
