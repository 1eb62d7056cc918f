use Rattle.std.proofs.Common.{◌≡◌, []}
use Rattle.compose_agree.specs.Order.{needs_of}
use Rattle.compose_check.proofs.InstanceLaws.{all_sources}
use Rattle.compose_check.proofs.instances.empty_lists.Given as goal

abbrev pub invariant-loop-made : goal.invariant-loop-made
invariant-loop-made l = needs_of l.lists.items ≡ all_sources [] l._made
