use Rattle.std.proofs.Common.{sym, ap, ◌∙◌}
use Rattle.warg_store.specs.Faults.{after_call}
use Rattle.warg_store.proofs.HeldLaws.{is_no_failure, is_not_planned}
use Rattle.warg_store.proofs.memory_registry.MemoryRegistryRegistryStorage.load_all_packages.Goals as goal

pub returns-clause-failed : goal.returns-clause-failed
returns-clause-failed c = (
  λ failed. absurd (is_no_failure c.load_all.result c.load_all.ensures.no_failure failed),
  λ planned. absurd (is_not_planned _ c.fails_now.result c.if-fails_now.false c.fails_now.ensures.planned planned),
)

pub returns-clause-scheduled : goal.returns-clause-scheduled
returns-clause-scheduled c = c.fails_now.ensures.counted ∙ ap (after_call _) (c.if-fails_now.false ∙ sym c.load_all.ensures.no_failure)
