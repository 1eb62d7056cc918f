use Rattle.std.proofs.Common.{refl}
use Rattle.std.proofs.lemmas.Result.{on_ok_weaker}
use Rattle.warg_store.proofs.HeldLaws.{after_package}
use Rattle.warg_store.proofs.memory_registry.MemoryRegistry.put_package.Goals as goal

pub returns-clause-put : goal.returns-clause-put
returns-clause-put c =
    rw (← c.in_ok-key.ensures, ← c.in_ok-info.ensures) (on_ok_weaker c.put.result (after_package _ _ _ _ _ (λ _. refl) (λ _. refl) refl) c.put.ensures.put)
