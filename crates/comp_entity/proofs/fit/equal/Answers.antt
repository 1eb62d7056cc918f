use Rattle.std.proofs.Common.{◌∙◌}
use Rattle.comp_entity.proofs.ViewLaws.{equal_are}
use Rattle.comp_entity.proofs.fit.equal.Goals as goal

pub returns : goal.returns
returns c = c.entity_equal.ensures ∙ equal_are c.args.a.now c.args.b.now
