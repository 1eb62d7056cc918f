use Rattle.std.proofs.Common.{List, ℕ}
use Rattle.warg_log.specs.declared.keys.KeyFacts.{KeyFacts}
use Rattle.warg_log.specs.Keys.{known}
use Rattle.warg_log.proofs.Copying.{IsCopying}
use Rattle.warg_log.proofs.keys.Keys.try_clone.Given as goal

abbrev pub invariant-loop-id : goal.invariant-loop-id
invariant-loop-id l = IsCopying (λ (id : List ℕ). id) (λ (f : KeyFacts). f) (known (record { map = l.map })) (known l.self) l.id-iterator
