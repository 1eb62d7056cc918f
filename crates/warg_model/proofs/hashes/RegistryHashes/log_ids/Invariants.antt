use Rattle.std.proofs.Common.{◌≡◌, Some, map, take}
use Rattle.warg_model.specs.Hashes.{log_at}
use Rattle.warg_model.proofs.hashes.RegistryHashes.log_ids.Given as goal

abbrev pub invariant-loop-index : goal.invariant-loop-index
invariant-loop-index l = map (λ id. Some id) l.ids.items ≡ map (log_at l.self.leaves.items) (take l.index-index l.indices)
