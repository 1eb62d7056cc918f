-- What stands at the path is what is held.
use Rattle.std.proofs.Common.{rules, Some}
use Rattle.warg_content_files.proofs.ContentFileLaws.{held_at}
use Rattle.warg_content_files.proofs.storage.FileSystemContentStorageContentStorage.load_content.Goals as goal

pub returns-clause-found : goal.returns-clause-found
returns-clause-found g c =
    held_at _ c.args.self.now.folder c.as_str.result.now c.args.digest.now (Some c.in-Ok.bytes.items) (search rules) (search rules) (search rules)
