use Rattle.warg_registry_files.proofs.ResetLaws.{took, took_all, took_partly}
use Rattle.warg_registry_files.proofs.storage.FileSystemRegistryStorage.take.Goals as goal

pub returns-in-Ok-clause-others : goal.returns-in-Ok-clause-others
returns-in-Ok-clause-others g c = took _ _ c.args.path.now (rw (← c.as_str.ensures) c.in-Ok.ensures.removed)

pub returns-in-Ok-clause-gone : goal.returns-in-Ok-clause-gone
returns-in-Ok-clause-gone g c = took_all _ _ c.args.path.now (rw (← c.as_str.ensures) c.in-Ok.ensures.removed)

pub returns-in-Err-clause-others : goal.returns-in-Err-clause-others
returns-in-Err-clause-others g c = took_partly _ _ c.args.path.now (rw (← c.as_str.ensures) c.in-Err.ensures.refused)
