use Rattle.std.proofs.Common.{◌≡◌, take}
use Rattle.compose_agree.specs.Order.{needs_of}
use Rattle.compose_check.proofs.InstanceLaws.{all_sources}
use Rattle.compose_check.proofs.instances.sources.Given as goal

abbrev pub invariant-loop-wire : goal.invariant-loop-wire
invariant-loop-wire l = needs_of l.lists.items ≡ all_sources (take l.wire-index l.wires) l.instances
