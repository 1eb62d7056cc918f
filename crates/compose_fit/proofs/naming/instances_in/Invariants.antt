use Rattle.std.proofs.Common.{◌≡◌, List, length, take}
use Rattle.comp_entity.specs.Entity.{ShapeTree}
use Rattle.comp_table.specs.Trees.{Extends}
use Rattle.compose_fit.specs.Seen.{AreInstances, AreSeen, changes}
use Rattle.compose_fit.proofs.naming.instances_in.Given as goal

abbrev pub invariant-loop-at : goal.invariant-loop-at
invariant-loop-at l = record {
  kept : Extends l.fn.table l.table;
  many : length l.seen.items ≡ l.at;
  seen : (shapes : List ShapeTree) → AreInstances l.fn.table l.components l.instances shapes → AreSeen l.table (changes l.naming) 0 l.seen.items (take l.at shapes);
}
