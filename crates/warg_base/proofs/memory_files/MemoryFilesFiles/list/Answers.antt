use Rattle.std.proofs.Common.{◌∙◌}
use Rattle.warg_base.proofs.FileMaps.{listed-tree}
use Rattle.warg_base.proofs.memory_files.MemoryFilesFiles.list.Goals as goal

pub returns-clause-listed : goal.returns-clause-listed
returns-clause-listed c =
    rw (← c.self.view_is) (listed-tree c.self.inside.files c.args.path.now c.as_str.result.now c.in_ok-paths_with.field-0.items c.in_ok-paths_with.ensures.ordered (c.as_str.ensures.value ∙ c.in_ok-folder.ensures.ok) c.in_ok-paths_with.ensures.found)
