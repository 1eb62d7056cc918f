use Rattle.std.proofs.Common.{sym, ◌∙◌}
use Rattle.comp_space.proofs.BoundLaws.{no_depth}
use Rattle.comp_space.proofs.bounds.value_depth.Goals as goal

pub returns-else-is_value : goal.returns-else-is_value
returns-else-is_value c = λ e stands. no_depth c.args.table.now c.args.number c.head.result.now e c.head.ensures stands (sym c.is_value.ensures ∙ c.if-is_value.false)
