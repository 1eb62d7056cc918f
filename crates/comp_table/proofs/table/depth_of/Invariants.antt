use Rattle.std.proofs.Common.{◌≡◌, take}
use Rattle.comp_table.specs.Facts.{capped}
use Rattle.comp_table.specs.Table.{trees}
use Rattle.comp_table.proofs.DepthLaws.{parts_depth}
use Rattle.comp_table.proofs.table.depth_of.Given as goal

abbrev pub invariant-loop-part : goal.invariant-loop-part
invariant-loop-part l = l.depth ≡ capped (parts_depth (trees l.nodes) (take l.part-index l.parts))
