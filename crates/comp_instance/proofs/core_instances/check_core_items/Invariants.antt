use Rattle.std.proofs.Common.{◌≡◌, List, drop}
use Rattle.comp_scope.specs.Instances.{core_members}
use Rattle.comp_scope.specs.Spaces.{Spaces}
use Rattle.comp_space.specs.SpaceViews.{ShowsSpaces}
use Rattle.comp_table.specs.Trees.{PlainTree}
use Rattle.comp_instance.proofs.core_instances.check_core_items.Given as goal

abbrev pub invariant-loop-sort : goal.invariant-loop-sort
invariant-loop-sort l = (table : List PlainTree) (s : Spaces) → ShowsSpaces table l.space s → core_members s l.items ≡ core_members s (drop l.sort-index l.items)
