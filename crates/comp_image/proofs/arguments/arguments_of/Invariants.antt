use Rattle.std.specs.Prelude.{◌≡◌, ◌++◌, List, map, drop, option_map}
use Rattle.comp_image.specs.Numbered.{IsEntry, NumberAll, items_of}
use Rattle.comp_image.specs.Progress.{arguments_in}
use Rattle.comp_image.specs.Views.{given_of}
use Rattle.comp_image.proofs.arguments.arguments_of.Given as goal

-- the arguments are those that were seen, and then the rest
abbrev pub invariant-loop-arg : goal.invariant-loop-arg
invariant-loop-arg l = (es : List IsEntry) → NumberAll (items_of l.numbered.spaces.items) es
    → arguments_in es l.args ≡ option_map (λ rest. map given_of l.given.items ++ rest) (arguments_in es (drop l.arg-index l.args))
