use Rattle.std.proofs.Common.{◌≡◌, drop, map}
use Rattle.comp_entity.specs.Entity.{Entries}
use Rattle.comp_fit.specs.Known.{AreNames}
use Rattle.comp_table.specs.Plain.{plain_entries}
use Rattle.comp_table.specs.Shown.{AreShown}
use Rattle.comp_table.specs.Trees.{tree_at, trees_of}
use Rattle.compose_fit.proofs.LoopLaws.{IsLeft}
use Rattle.compose_fit.proofs.wire.first_unfit.Given as goal

abbrev pub invariant-loop-part : goal.invariant-loop-part
invariant-loop-part l = (given asked : Entries) → AreNames l.table given l.names → trees_of (map (tree_at l.table) l.parts) ≡ plain_entries asked → AreShown asked → IsLeft l.table (drop l.part-index l.parts) given asked
