use Rattle.compose_check.specs.Composition.{wiring}
use Rattle.compose_image.proofs.NameLaws.{own_names, own_settled}
use Rattle.compose_image.proofs.OpenLaws.{open_is_left}
use Rattle.compose_image.proofs.laws.what_is_left_open_is_imported.Goals as goal

pub returns-clause-there : goal.returns-clause-there
returns-clause-there a = λ c order lefts instance sound lt. open_is_left c lefts instance sound.agree lt

pub returns-clause-once : goal.returns-clause-once
returns-clause-once a = λ c order lefts sound. own_names (wiring c) lefts sound.agree.ordered

pub returns-clause-defined : goal.returns-clause-defined
returns-clause-defined a = λ c order lefts sound. own_settled lefts (own_names (wiring c) lefts sound.agree.ordered)
