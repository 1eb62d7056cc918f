use Rattle.warg_registry_files.proofs.PathLaws.{parts_by}
use Rattle.warg_registry_files.proofs.paths.parts.Goals as goal

pub returns : goal.returns
returns c = parts_by c.args.path.now c.split_once.result c.split_once.ensures.cases
