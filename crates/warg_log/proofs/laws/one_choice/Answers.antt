use Rattle.warg_log.specs.Choice.{is_candidate}
use Rattle.warg_log.specs.History.{releases_of}
use Rattle.warg_log.specs.Rules.{entries_of}
use Rattle.warg_log.proofs.ChoiceUnique.{one_greatest}
use Rattle.warg_log.proofs.LawfulLaws.{lawful-distinct}
use Rattle.warg_log.proofs.laws.one_choice.Goals as goal

pub returns : goal.returns
returns c = λ kind accepts log req exact digest r s lawful. one_greatest (is_candidate req exact digest) (releases_of (entries_of log)) r s (lawful-distinct kind accepts log lawful)
