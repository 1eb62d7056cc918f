use Rattle.warg_log.specs.Choice.{is_candidate}
use Rattle.warg_log.proofs.ChoiceLaws.{greatest_is}
use Rattle.warg_log.proofs.laws.the_choice_is_found.Goals as goal

pub returns : goal.returns
returns c = λ req exact digest rs. greatest_is (is_candidate req exact digest) rs
