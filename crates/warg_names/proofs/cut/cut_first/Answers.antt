use Rattle.warg_names.proofs.StdCuts.{is_cut_first}
use Rattle.warg_names.proofs.cut.cut_first.Goals as goal

pub returns : goal.returns
returns c = is_cut_first c.args.mark c.args.text.now _ c.split_once.ensures.cases c.requires
