-- No file is there.
use Rattle.std.proofs.Common.{rules}
use Rattle.warg_config.proofs.FileLaws.{none_first}
use Rattle.warg_config.proofs.config.default_file.Goals as goal

pub returns-in-Ok-false-clause-found : goal.returns-in-Ok-false-clause-found
returns-in-Ok-false-clause-found g c =
    none_first (g.F.Files.told c.args.files.now) _ c.args.cwd.now c.args.dirs.now c.in_ok-path-2.path c.as_str.result.now c.in-Ok-false.field-0 c.in-Ok-false.field-0-test (search rules)
    c.local_file.ensures.kept (search rules) c.in_ok-path-2.ensures.found c.in-Ok-false.ensures.answer
