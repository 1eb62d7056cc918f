use Rattle.warg_names.proofs.StdCuts.{is_behind}
use Rattle.warg_names.proofs.cut.behind.Goals as goal

pub returns : goal.returns
returns c = is_behind c.args.front.now c.args.text.now _ c.strip_prefix.ensures.cases
