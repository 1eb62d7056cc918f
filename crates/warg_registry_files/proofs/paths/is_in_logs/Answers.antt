use Rattle.std.proofs.Common.{codes}
use Rattle.std.proofs.lemmas.Str.Pattern.{starts_text}
use Rattle.warg_registry_files.proofs.paths.is_in_logs.Goals as goal

pub returns : goal.returns
returns c = starts_text c.starts_with.result (codes "package-logs/") c.args.path.now c.starts_with.ensures.cases
