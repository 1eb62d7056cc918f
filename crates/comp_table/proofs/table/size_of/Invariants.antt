use Rattle.std.proofs.Common.{◌≡◌, take}
use Rattle.comp_table.specs.Facts.{capped}
use Rattle.comp_table.specs.Table.{trees}
use Rattle.comp_table.proofs.SizeLaws.{parts_size}
use Rattle.comp_table.proofs.table.size_of.Given as goal

abbrev pub invariant-loop-part : goal.invariant-loop-part
invariant-loop-part l = l.size ≡ capped (parts_size (trees l.nodes) (take l.part-index l.parts))
