use Rattle.std.proofs.Common.{◌≡◌, drop, map}
use Rattle.comp_entity.specs.Entity.{Entries}
use Rattle.comp_table.specs.Plain.{plain_entries}
use Rattle.comp_table.specs.Trees.{tree_at, trees_of}
use Rattle.comp_declare.proofs.ExportLaws.{IsLeft}
use Rattle.comp_declare.proofs.exported.export_under.Given as goal

abbrev pub invariant-loop-export : goal.invariant-loop-export
invariant-loop-export l = (es : Entries) → trees_of (map (tree_at l.table) l.exports) ≡ plain_entries es → IsLeft l.table l.name es (drop l.export-index l.exports)
