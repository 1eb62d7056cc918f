-- Wires that are not there.
use Rattle.std.specs.Prelude.{◌≡◌, ℕ, List, [], ◌∷◌, length, Some}
use Rattle.std.proofs.Common.{arith}
use Rattle.compose_fit.specs.Fit.{WiresFit}
use Rattle.compose_left.specs.Wiring.{Wiring, wire_into}
use Rattle.compose_left.specs.declared.wiring.Wire.{Wire}

none_into : (ws : List Wire) → length ws ≡ 0 → (target import : ℕ) (wire : Wire) → wire_into ws target import ≡ Some wire → ⊥
none_into [] e target import wire is = cc
none_into (w ∷ ws) e target import wire is = omega (arith, e)

-- where there are none, each fits
pub no_wires_fit : (w : Wiring) → length w.wires ≡ 0 → WiresFit w
no_wires_fit w e = record {
  loosely = λ target import j. absurd (none_into w.wires e target import j.wire j.wired);
  in_place = λ target import j. absurd (none_into w.wires e target import j.wire j.wired);
}
