use Rattle.std.specs.Prelude.{map, take}
use Rattle.comp_format.specs.Items.{item_tree}
use Rattle.comp_image.specs.Progress.{Imports, is_among}
use Rattle.comp_image.specs.Read.{AllSeen}
use Rattle.comp_image.proofs.read.progress_of.Given as goal

-- the items so far were seen
abbrev pub invariant-loop-number : goal.invariant-loop-number
invariant-loop-number l = (imports : Imports) → AllSeen (is_among l.components.keys) imports (map item_tree (take l.number l.items)) l.progress
