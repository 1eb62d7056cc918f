use Rattle.warg_store.proofs.TellingLaws.{tells_same, same_checkpoint, same_operator, same_package, same_publish, same_reset}
use Rattle.warg_store.proofs.laws.telling_goes_on.Goals as goal

pub returns-clause-tells : goal.returns-clause-tells
returns-clause-tells c = tells_same

pub returns-clause-checkpoint : goal.returns-clause-checkpoint
returns-clause-checkpoint c = same_checkpoint

pub returns-clause-operator : goal.returns-clause-operator
returns-clause-operator c = same_operator

pub returns-clause-package : goal.returns-clause-package
returns-clause-package c = same_package

pub returns-clause-publish : goal.returns-clause-publish
returns-clause-publish c = same_publish

pub returns-clause-reset : goal.returns-clause-reset
returns-clause-reset c = same_reset
