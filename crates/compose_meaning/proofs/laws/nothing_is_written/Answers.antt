use Rattle.compose_meaning.proofs.KeepLaws.{keeps_nothing}
use Rattle.compose_meaning.proofs.laws.nothing_is_written.Goals as goal

pub returns : goal.returns
returns c = keeps_nothing
