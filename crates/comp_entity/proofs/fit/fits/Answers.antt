use Rattle.std.proofs.Common.{◌∙◌}
use Rattle.comp_entity.proofs.ViewLaws.{fits_are}
use Rattle.comp_entity.proofs.fit.fits.Goals as goal

pub returns : goal.returns
returns c = c.entity_fits.ensures ∙ fits_are c.args.given c.args.asked
