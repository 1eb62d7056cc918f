use Rattle.warg_content_files.proofs.ContentFileLaws.{tells_cleared, leaves_cleared}
use Rattle.warg_content_files.proofs.storage.FileSystemContentStorageContentStorage.clear.Goals as goal

pub returns-in-Ok-clause-cleared : goal.returns-in-Ok-clause-cleared
returns-in-Ok-clause-cleared g c =
    tells_cleared _ _ c.args.self.now.folder (rw (← c.as_str.ensures) c.in-Ok.ensures.removed)

pub returns-in-Err-clause-refused : goal.returns-in-Err-clause-refused
returns-in-Err-clause-refused g c =
    leaves_cleared _ _ c.args.self.now.folder (rw (← c.as_str.ensures) c.in-Err.ensures.refused)
