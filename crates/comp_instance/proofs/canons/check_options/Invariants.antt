use Rattle.std.proofs.Common.{◌≡◌, List, drop}
use Rattle.comp_scope.specs.Canons.{with_options}
use Rattle.comp_scope.specs.Spaces.{Spaces}
use Rattle.comp_space.specs.SpaceViews.{ShowsSpaces}
use Rattle.comp_table.specs.Trees.{PlainTree}
use Rattle.comp_instance.proofs.canons.check_options.Given as goal

abbrev pub invariant-loop-option : goal.invariant-loop-option
invariant-loop-option l = (table : List PlainTree) (s : Spaces) → ShowsSpaces table l.space s → with_options s l.options ≡ with_options s (drop l.option-index l.options)
