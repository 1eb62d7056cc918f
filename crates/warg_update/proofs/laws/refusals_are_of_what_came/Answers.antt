use Rattle.warg_update.proofs.FitLaws.{checkpoint-taken, page-came, signature-taken, heads-taken, continuation-taken}
use Rattle.warg_update.proofs.RunLaws.{fault-behind}
use Rattle.warg_update.proofs.laws.refusals_are_of_what_came.Goals as goal

pub returns-clause-behind : goal.returns-clause-behind
returns-clause-behind c = fault-behind

pub returns-clause-checkpoint : goal.returns-clause-checkpoint
returns-clause-checkpoint c reply checkpoint e = checkpoint-taken e reply checkpoint

pub returns-clause-page : goal.returns-clause-page
returns-clause-page c settings said packages reply page e = page-came e settings said packages reply page

pub returns-clause-signature : goal.returns-clause-signature
returns-clause-signature c accepts operator checkpoint e = signature-taken e accepts operator checkpoint

pub returns-clause-inclusion : goal.returns-clause-inclusion
returns-clause-inclusion c contents logs stored reply bundles e = heads-taken e logs contents stored reply bundles

pub returns-clause-consistency : goal.returns-clause-consistency
returns-clause-consistency c old new reply shown e = continuation-taken e old new reply shown
