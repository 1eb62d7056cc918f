use Rattle.warg_registry_files.proofs.PathLaws.{behind_none, behind_slash, stripped}
use Rattle.warg_registry_files.proofs.paths.behind.Goals as goal

pub returns-in_default : goal.returns-in_default
returns-in_default c = behind_none c.args.folder.now c.args.path.now c.in_default.ensures.cases

pub returns : goal.returns
returns c = behind_slash c.args.folder.now c.args.path.now c.in-Some.inside.now c.strip_prefix-2.result (stripped c.args.folder.now c.args.path.now c.in-Some.inside.now c.in-Some.ensures.cases) c.strip_prefix-2.ensures.cases
