-- Whether a file stands at the path is whether a content is held.
use Rattle.std.proofs.Common.{rules, true}
use Rattle.warg_content_files.proofs.ContentFileLaws.{held_there}
use Rattle.warg_content_files.proofs.storage.FileSystemContentStorageContentStorage.content_location.Goals as goal

pub returns-in-Ok-true-clause-found : goal.returns-in-Ok-true-clause-found
returns-in-Ok-true-clause-found g c =
    held_there _ c.args.self.now.folder c.as_str.result.now c.args.digest.now true (search rules) (search rules) (search rules)
