use Rattle.std.proofs.Common.{◌≡◌, drop}
use Rattle.comp_scope.specs.Instances.{all_below}
use Rattle.comp_scope.specs.Spaces.{Spaces}
use Rattle.comp_instance.proofs.core_instances.check_all_below.Given as goal

abbrev pub invariant-loop-index : goal.invariant-loop-index
invariant-loop-index l = (s : Spaces) → all_below l.count l.args s ≡ all_below l.count (drop l.index-index l.args) s
