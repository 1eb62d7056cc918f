use Rattle.std.proofs.Common.{◌≡◌, map, take}
use Rattle.comp_table.specs.Plain.{plain_import}
use Rattle.comp_table.specs.Trees.{tree_at}
use Rattle.comp_view.proofs.modules.build_core_imports.Given as goal

abbrev pub invariant-loop-part : goal.invariant-loop-part
invariant-loop-part l = map plain_import l.imports.items ≡ map (tree_at l.table) (take l.part-index l.part-items)
