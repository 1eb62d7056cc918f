use Rattle.std.proofs.Common.{◌+◌, ◌*◌, ◌≡◌, map, take, false}
use Rattle.comp_instance.specs.OwnModules.{AreWithout, any_holds}
use Rattle.comp_table.specs.Trees.{tree_at, trees_of}
use Rattle.comp_instance.proofs.own_modules.+looking.Given as goal

abbrev pub decreases-look : goal.decreases-look
decreases-look l = 2 * l.levels

abbrev pub decreases-look_below : goal.decreases-look_below
decreases-look_below l = 2 * l.levels + 1

abbrev pub invariant-look_below-loop-part : goal.invariant-look_below-loop-part
invariant-look_below-loop-part l = record {
  without : AreWithout l.within l.table l.without.keys;
  none : any_holds l.within (trees_of (map (tree_at l.table) (take l.part-index l.parts))) ≡ false;
}
