use Rattle.std.proofs.Common.{sym, ◌∙◌}
use Rattle.warg_base.proofs.FileMaps.{file_at-tree}
use Rattle.warg_base.proofs.memory_files.MemoryFilesFiles.read.Goals as goal

pub returns-in-None-clause-missing : goal.returns-in-None-clause-missing
returns-in-None-clause-missing c = λ _. rw (← c.self.view_is, ← c.in_ok-path.ensures) (file_at-tree c.self.inside.files c.in_ok-path.path ∙ sym c.in-None.ensures.value)

pub returns-clause-found : goal.returns-clause-found
returns-clause-found c =
    rw (← c.self.view_is, ← c.in_ok-path.ensures, c.in_ok-from_slice-in-Some.ensures.items, c.as_slice.ensures) (file_at-tree c.self.inside.files c.in_ok-path.path ∙ sym c.in-Some.ensures.value)
