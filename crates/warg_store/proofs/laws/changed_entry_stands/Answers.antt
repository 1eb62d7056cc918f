use Rattle.warg_store.proofs.TellingLaws.{checkpoint_stands, operator_stands, package_stands, publish_stands, named_stands}
use Rattle.warg_store.proofs.laws.changed_entry_stands.Goals as goal

pub returns-clause-checkpoint : goal.returns-clause-checkpoint
returns-clause-checkpoint c = checkpoint_stands

pub returns-clause-operator : goal.returns-clause-operator
returns-clause-operator c = operator_stands

pub returns-clause-package : goal.returns-clause-package
returns-clause-package c = package_stands

pub returns-clause-publish : goal.returns-clause-publish
returns-clause-publish c = publish_stands

pub returns-clause-named : goal.returns-clause-named
returns-clause-named c = named_stands
