use Rattle.std.proofs.Common.{◌≡◌, drop}
use Rattle.comp_entity.specs.Fits.{resource_for}
use Rattle.comp_entity.specs.Comparing.{exports_stand}
use Rattle.comp_entity.proofs.naming.+standing.Given as goal

abbrev pub invariant-export_standing_for-loop-export : goal.invariant-export_standing_for-loop-export
invariant-export_standing_for-loop-export l = resource_for (exports_stand l.given (drop l.export-index l.asked)) l.name ≡ resource_for (exports_stand l.given l.asked) l.name
