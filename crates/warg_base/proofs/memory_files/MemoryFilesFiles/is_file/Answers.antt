use Rattle.std.proofs.Common.{◌∙◌}
use Rattle.warg_base.proofs.FileMaps.{has_file-tree}
use Rattle.warg_base.proofs.memory_files.MemoryFilesFiles.is_file.Goals as goal

pub returns-clause-answer : goal.returns-clause-answer
returns-clause-answer c =
    rw (← c.self.view_is, ← c.in_ok-path.ensures) (c.is_some.ensures ∙ has_file-tree c.self.inside.files c.in_ok-path.path c.get.result c.get.ensures.value)
