use Rattle.std.proofs.Common.{ap, rules}
use Rattle.std.proofs.lemmas.Result.{err_from_is_err_and}
use Rattle.std.specs.FinMap as map
use Rattle.warg_base.proofs.FileMaps.{nothing_written, with_file-tree}
use Rattle.warg_base.proofs.memory_files.MemoryFilesFiles.write.Goals as goal

pub returns-clause-written : goal.returns-clause-written
returns-clause-written c = rw (← c.self.view_is, ← c.in_ok-path.ensures, ← c.in_ok-bytes.ensures) (with_file-tree c.self.inside.files c.insert.new.self c.in_ok-path.path c.in_ok-bytes.bytes c.in_ok-insert.ensures.updates)

pub returns-then-fails_now-clause-refused : goal.returns-then-fails_now-clause-refused
returns-then-fails_now-clause-refused c = nothing_written _ _ _ _ (ap (λ h. h.files) c.self.view_is)

pub returns-in_err-path-clause-refused : goal.returns-in_err-path-clause-refused
returns-in_err-path-clause-refused c =
    let p = err_from_is_err_and c.from_residual.result c.from_residual.ensures.1 in
    rw p.1 (nothing_written _ _ _ _ (ap (λ h. h.files) c.self.view_is))

pub returns-in_err-bytes-clause-refused : goal.returns-in_err-bytes-clause-refused
returns-in_err-bytes-clause-refused c =
    let p = err_from_is_err_and c.from_residual-in_err-bytes.result c.from_residual-in_err-bytes.ensures.1 in
    rw p.1 (nothing_written _ _ _ _ (ap (λ h. h.files) c.self.view_is))

pub returns-in_err-insert-clause-refused : goal.returns-in_err-insert-clause-refused
returns-in_err-insert-clause-refused c =
    let p = err_from_is_err_and c.from_residual-in_err-insert.result c.from_residual-in_err-insert.ensures.1 in
    rw p.1 (nothing_written _ _ _ _ (search rules))
