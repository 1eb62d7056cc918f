use Rattle.std.proofs.Common.{◌++◌}
use Rattle.compose_needs.proofs.HidingLaws.{sides_had, sides_hide}
use Rattle.compose_needs.proofs.laws.components_mention_what_can_be_had.Goals as goal

pub returns-clause-had : goal.returns-clause-had
returns-clause-had c = λ s. sides_had (s.imports ++ s.exports)

pub returns-clause-hidden : goal.returns-clause-hidden
returns-clause-hidden c = λ s. sides_hide (s.imports ++ s.exports)
