use Rattle.warg_names.proofs.StdCuts.{is_cut_last}
use Rattle.warg_names.proofs.cut.cut_last.Goals as goal

pub returns : goal.returns
returns c = is_cut_last c.args.mark c.args.text.now _ c.rsplit_once.ensures.cases c.requires
