use Rattle.std.proofs.Common.{◌≡◌, map, take}
use Rattle.comp_format.specs.Items.{item_tree}
use Rattle.warg_bundle.specs.Asked.{releases_asked}
use Rattle.warg_bundle.specs.View.{asked_view}
use Rattle.warg_bundle.proofs.asked.releases_asked.Given as goal

abbrev pub invariant-loop-item : goal.invariant-loop-item
invariant-loop-item l = map asked_view l.asked.items ≡ releases_asked (map item_tree (take l.item-index l.items))
