use Rattle.std.proofs.Common.{refl, rules}
use Rattle.sha2.specs.Sha256.{sha256}
use Rattle.warg_content_files.proofs.ContentFileLaws.{tells_stored, leaves_written, nothing_written, on_err_too}
use Rattle.warg_content_files.proofs.storage.FileSystemContentStorageContentStorage.store_content.Goals as goal

pub returns-in-Ok-clause-stored : goal.returns-in-Ok-clause-stored
returns-in-Ok-clause-stored g c =
    tells_stored _ _ c.args.self.now.folder c.as_str.result.now (sha256 c.args.bytes.now) c.args.bytes.now (search rules) (search rules) c.in-Ok.ensures.written

pub returns-clause-refused : goal.returns-clause-refused
returns-clause-refused g c =
    leaves_written _ _ c.args.self.now.folder c.as_str.result.now c.args.bytes.now (search rules) (search rules) (c.in-Err.ensures.refused)

pub returns-in_err-expect-clause-partly_written : goal.returns-in_err-expect-clause-partly_written
returns-in_err-expect-clause-partly_written g c = on_err_too c.from_residual.result (nothing_written _ _ _ _ refl)

pub returns-in_err-path-clause-partly_written : goal.returns-in_err-path-clause-partly_written
returns-in_err-path-clause-partly_written g c = on_err_too c.from_residual-in_err-path.result (nothing_written _ _ _ _ refl)
