use Rattle.compose_files.proofs.Cuts.{is_cut_last}
use Rattle.compose_files.proofs.paths.cut_last.Goals as goal

pub returns : goal.returns
returns c = is_cut_last c.args.mark c.args.text.now _ c.rsplit_once.ensures.cases c.requires
