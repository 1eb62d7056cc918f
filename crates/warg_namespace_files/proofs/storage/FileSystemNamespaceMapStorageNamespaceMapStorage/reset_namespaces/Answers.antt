use Rattle.warg_namespace_files.proofs.FileLaws.{tells_reset, leaves_reset}
use Rattle.warg_namespace_files.proofs.storage.FileSystemNamespaceMapStorageNamespaceMapStorage.reset_namespaces.Goals as goal

pub returns-in-Ok-clause-reset : goal.returns-in-Ok-clause-reset
returns-in-Ok-clause-reset g c = tells_reset _ _ c.args.self.now.path (rw (← c.as_str.ensures) c.in-Ok.ensures.removed)

pub returns-in-Err-clause-refused : goal.returns-in-Err-clause-refused
returns-in-Err-clause-refused g c = leaves_reset _ _ c.args.self.now.path (rw (← c.as_str.ensures) c.in-Err.ensures.refused)
