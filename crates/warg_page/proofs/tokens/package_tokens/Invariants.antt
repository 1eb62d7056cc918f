use Rattle.std.proofs.Common.{◌≡◌, take, map}
use Rattle.warg_page.specs.Logs.{tokens_of}
use Rattle.warg_page.specs.Steps.{id_of, AreDistinct}
use Rattle.warg_page.specs.Views.{package_view}
use Rattle.warg_page.proofs.tokens.package_tokens.Given as goal

abbrev pub invariant-loop-package : goal.invariant-loop-package
invariant-loop-package l = AreDistinct (map id_of l.packages) → l.tokens.entries ≡ tokens_of (map package_view (take l.package-index l.packages))
