use Rattle.compose_needs.proofs.HidingLaws.{exports_had, exports_hide}
use Rattle.compose_needs.proofs.laws.exports_mention_what_can_be_had.Goals as goal

pub returns-clause-had : goal.returns-clause-had
returns-clause-had c = exports_had

pub returns-clause-hidden : goal.returns-clause-hidden
returns-clause-hidden c = exports_hide
