use Rattle.warg_store.proofs.ContentLaws.{left_by_store, on_err_too}
use Rattle.warg_store.proofs.memory_content.MemoryContentContentStorage.store_content.Goals as goal

pub returns-in_err-finish-clause-refused : goal.returns-in_err-finish-clause-refused
returns-in_err-finish-clause-refused c =
    on_err_too c.from_residual.result
    (left_by_store c.put-done.result c.planned-failing.result _ _ c.args.bytes.now
    (rw (← c.sha256_of-digest.ensures) c.put-done.ensures.put) c.put-done.ensures.unchanged)
