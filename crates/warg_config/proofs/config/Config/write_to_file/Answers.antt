-- What was written reads back.
use Rattle.std.proofs.Common.{rules}
use Rattle.std.specs.Path.{path_join}
use Rattle.warg_config.specs.Shown.{settings_of}
use Rattle.warg_config.proofs.FileLaws.{reads_back_asked}
use Rattle.warg_config.proofs.config.Config.write_to_file.Goals as goal

pub returns-in-Ok-clause-reads_back : goal.returns-in-Ok-clause-reads_back
returns-in-Ok-clause-reads_back g c =
    reads_back_asked c.as_str.result.now (path_join c.args.cwd.now c.args.path.now) c.as_str-2.result.now (settings_of c.args.self.now) c.in_ok-text.ensures.reads (search rules) (search rules)
