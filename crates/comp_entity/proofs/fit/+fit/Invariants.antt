use Rattle.std.proofs.Common.{◌≡◌, drop}
use Rattle.comp_entity.specs.Comparing.{exports_suit}
use Rattle.comp_entity.proofs.fit.+fit.Given as goal

abbrev pub invariant-exports_fit-loop-export : goal.invariant-exports_fit-loop-export
invariant-exports_fit-loop-export l = exports_suit l.naming l.given (drop l.export-index l.asked) ≡ exports_suit l.naming l.given l.asked
