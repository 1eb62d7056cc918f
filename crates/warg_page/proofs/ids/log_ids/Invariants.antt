use Rattle.std.proofs.Common.{◌≡◌, take, map}
use Rattle.warg_page.specs.Steps.{id_of, AreDistinct}
use Rattle.warg_page.proofs.ids.log_ids.Given as goal

abbrev pub invariant-loop-package : goal.invariant-loop-package
invariant-loop-package l = record { in_order : l.ids.keys ≡ map id_of (take l.package-index l.packages); distinct : AreDistinct l.ids.keys }
