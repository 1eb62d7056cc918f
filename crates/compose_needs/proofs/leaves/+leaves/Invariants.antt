use Rattle.std.proofs.Common.{◌≡◌, ◌++◌, drop}
use Rattle.comp_entity.specs.Views.{entries_of, named_entities}
use Rattle.compose_needs.specs.Leaves.{leaves_among}
use Rattle.compose_needs.proofs.leaves.+leaves.Given as goal

abbrev pub invariant-push_inner_leaves-loop-entry : goal.invariant-push_inner_leaves-loop-entry
invariant-push_inner_leaves-loop-entry l =
    l.leaves.items ++ leaves_among l.path (entries_of (named_entities (drop l.entry-index l.entries)))
    ≡ l.fn.leaves.items ++ leaves_among l.path (entries_of (named_entities l.entries))
