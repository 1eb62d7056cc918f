use Rattle.std.proofs.Common.{codes}
use Rattle.warg_registry_files.proofs.BackLaws.{unmarked}
use Rattle.warg_registry_files.proofs.PathLaws.{stripped}
use Rattle.warg_registry_files.proofs.paths.without_mark.Goals as goal

pub returns-in-Some : goal.returns-in-Some
returns-in-Some c = λ name. unmarked c.args.folder.now name c.in-Some.name.now (stripped (codes "%%") c.args.folder.now c.in-Some.name.now c.in-Some.ensures.cases)
