use Rattle.std.proofs.Common.{◌+◌, ◌*◌, ℕ, map, take}
use Rattle.comp_fit.specs.Known.{AreLoosened}
use Rattle.comp_fit.specs.Loose.{loosely}
use Rattle.comp_table.specs.Changes.{tree_by}
use Rattle.comp_table.specs.Trees.{AllStand, Extends, tree_at}
use Rattle.comp_fit.proofs.loosen.+loosening.Given as goal

abbrev pub decreases-loosen : goal.decreases-loosen
decreases-loosen l = 2 * l.levels

abbrev pub decreases-loosen_parts : goal.decreases-loosen_parts
decreases-loosen_parts l = 2 * l.levels + 1

abbrev pub invariant-loosen_parts-loop-part : goal.invariant-loosen_parts-loop-part
invariant-loosen_parts-loop-part l = record {
  extends : Extends l.fn.table l.table;
  known : AreLoosened l.table l.known;
  numbers : (depth : ℕ) → AllStand l.table l.numbers.items (map (λ p. tree_by loosely depth (tree_at l.fn.table p)) (take l.part-index l.parts));
}
