use Rattle.std.proofs.Common.{◌∙◌, ap, map}
use Rattle.warg_names.specs.View.{import_tree}
use Rattle.warg_client.specs.LockList.{listed_in, with_import}
use Rattle.warg_client.proofs.LockListLaws.{key_added}
use Rattle.warg_client.proofs.lock_list.LockListBuilder.add.Goals as goal

pub returns-in_ok-insert-clause-added : goal.returns-in_ok-insert-clause-added
returns-in_ok-insert-clause-added c =
    rw c.in-Parsed.is (ap (map import_tree) c.in_ok-insert.ensures.keys ∙ key_added c.args.self.now.lock_list.keys c.in_ok-try_clone.field-0 ∙ ap (with_import (listed_in c.args.self.now)) c.in_ok-try_clone.ensures)
