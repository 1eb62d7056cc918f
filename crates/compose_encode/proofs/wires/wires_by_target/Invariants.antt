use Rattle.std.proofs.Common.{◌≡◌, ℕ, take}
use Rattle.std.specs.Prelude.{filter}
use Rattle.compose_check.specs.Composition.{goes_to}
use Rattle.compose_encode.specs.Held.{wires_at}
use Rattle.compose_encode.proofs.wires.wires_by_target.Given as goal

abbrev pub invariant-loop-wire : goal.invariant-loop-wire
invariant-loop-wire l = (n : ℕ) → wires_at l.groups n ≡ filter (goes_to n) (take l.wire-index l.wires)
