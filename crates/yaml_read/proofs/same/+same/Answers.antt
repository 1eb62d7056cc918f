use Rattle.std.proofs.Common.{◌∙◌, sym}
use Rattle.yaml_read.proofs.Sizes.{items_left, members_left}
use Rattle.yaml_read.proofs.same.+same.Goals as goal

pub are_same-returns-in-len1-up-right-2 : goal.are_same-returns-in-len1-up-right-2
are_same-returns-in-len1-up-right-2 t c =
    sym (items_left c.loop-left.left.now c.loop-left.right.now c.in_default.len_below c.in-len1-up-right-2.len_at_least) ∙ c.loop-left.invariant.same

pub are_same_pairs-returns-in-len1-up-right-2 : goal.are_same_pairs-returns-in-len1-up-right-2
are_same_pairs-returns-in-len1-up-right-2 t c =
    sym (members_left c.loop-left.left.now c.loop-left.right.now c.in_default.len_below c.in-len1-up-right-2.len_at_least) ∙ c.loop-left.invariant.same
