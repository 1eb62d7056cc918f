use Rattle.std.proofs.Common.{◌∙◌}
use Rattle.comp_space.specs.SpaceLaws.{sort_is}
use Rattle.comp_space.proofs.space.sort_at.Goals as goal

pub returns : goal.returns
returns c = λ e stands. c.sort_of_head.ensures ∙ sort_is c.args.table.now c.args.number c.head.result.now e c.head.ensures stands
