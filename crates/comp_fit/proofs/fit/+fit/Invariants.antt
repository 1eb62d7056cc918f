use Rattle.std.proofs.Common.{◌+◌, ◌*◌, ◌≡◌, drop, map}
use Rattle.comp_entity.specs.Entity.{Entries}
use Rattle.comp_fit.specs.Known.{AreAnswers, AreNames}
use Rattle.comp_table.specs.Plain.{plain_entries}
use Rattle.comp_table.specs.Shown.{AreShown}
use Rattle.comp_table.specs.Trees.{tree_at, trees_of}
use Rattle.comp_fit.proofs.ExportLaws.{IsLeft}
use Rattle.comp_fit.proofs.fit.+fit.Given as goal

abbrev pub decreases-instance_fits : goal.decreases-instance_fits
decreases-instance_fits l = 4 * l.levels

abbrev pub decreases-entity_fits : goal.decreases-entity_fits
decreases-entity_fits l = 4 * l.levels + 1

abbrev pub decreases-export_fits : goal.decreases-export_fits
decreases-export_fits l = 4 * l.levels + 2

abbrev pub decreases-exports_fit : goal.decreases-exports_fit
decreases-exports_fit l = 4 * l.levels + 3

abbrev pub invariant-exports_fit-loop-part : goal.invariant-exports_fit-loop-part
invariant-exports_fit-loop-part l = record {
  known : AreAnswers l.table l.known;
  left : (given asked : Entries) → AreNames l.table given l.names → trees_of (map (tree_at l.table) l.parts) ≡ plain_entries asked → AreShown asked → IsLeft l.table (drop l.part-index l.parts) given asked;
}
