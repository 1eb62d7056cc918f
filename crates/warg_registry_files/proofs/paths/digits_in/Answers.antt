use Rattle.std.proofs.Common.{codes}
use Rattle.warg_registry_files.proofs.BackLaws.{behind_front}
use Rattle.warg_registry_files.proofs.paths.digits_in.Goals as goal

pub returns : goal.returns
returns c = behind_front (codes "package-logs/sha256/") c.args.path.now c.strip_prefix.result c.strip_prefix.ensures.cases
