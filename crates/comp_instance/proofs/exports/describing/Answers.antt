use Rattle.comp_entity.specs.Fits.{stands}
use Rattle.comp_instance.proofs.RenamedLaws.{describing_shown}
use Rattle.comp_instance.proofs.exports.describing.Goals as goal

pub returns : goal.returns
returns c = λ s given asked shows item described.
    describing_shown c.args.table.now c.args.space.now s shows c.in_ok-found.found (stands given asked) (c.in_ok-found.ensures given asked item described)
