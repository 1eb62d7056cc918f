use Rattle.std.proofs.Common.{◌≡◌, ◌++◌, map, take}
use Rattle.warg_update.specs.Proved.{checkpoint_text}
use Rattle.warg_model.specs.Signatures.{signature_on}
use Rattle.warg_model.proofs.registry.ModelRegistry.list_checkpoints.Given as goal

abbrev pub invariant-loop-checkpoint : goal.invariant-loop-checkpoint
invariant-loop-checkpoint l = l.listed.items ≡ l.fn.listed.items ++ map (λ c. signature_on l.self.key (checkpoint_text c)) (take l.checkpoint-index l.checkpoint-items)
