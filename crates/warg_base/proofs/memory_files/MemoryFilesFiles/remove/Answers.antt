use Rattle.std.proofs.Common.{ap, ◌∙◌}
use Rattle.std.proofs.lemmas.Result.{err_from_is_err_and}
use Rattle.warg_base.proofs.FileMaps.{nothing_removed, without-tree}
use Rattle.warg_base.proofs.memory_files.MemoryFilesFiles.remove.Goals as goal

pub returns-then-fails_now-clause-refused : goal.returns-then-fails_now-clause-refused
returns-then-fails_now-clause-refused c = nothing_removed _ _ _ (ap (λ h. h.files) c.self.view_is)

pub returns-in_err-folder-clause-refused : goal.returns-in_err-folder-clause-refused
returns-in_err-folder-clause-refused c =
    let p = err_from_is_err_and c.from_residual.result c.from_residual.ensures.1 in
    rw p.1 (nothing_removed _ _ _ (ap (λ h. h.files) c.self.view_is))

pub returns-clause-removed : goal.returns-clause-removed
returns-clause-removed c =
    rw (← c.self.view_is) (without-tree c.self.inside.files.entries c.retain_outside.new.files.entries c.args.path.now c.as_str.result.now (c.as_str.ensures.value ∙ c.in_ok-folder.ensures.ok) c.retain_outside.ensures)
