use Rattle.compose_image.proofs.GivenLaws.{as_many_given, open_given, wired_given}
use Rattle.compose_image.proofs.laws.instances_are_given_each_import.Goals as goal

pub returns-clause-wired : goal.returns-clause-wired
returns-clause-wired a = wired_given

pub returns-clause-left_open : goal.returns-clause-left_open
returns-clause-left_open a = open_given

pub returns-clause-as_many : goal.returns-clause-as_many
returns-clause-as_many a = λ c order instance is. as_many_given c order instance is.apart is.ends
