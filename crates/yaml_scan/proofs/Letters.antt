-- No small letter ends a plain scalar.
use Rattle.std.proofs.Common.{◌≡◌, ℕ, ◌<◌, ◌≤◌, List, [], ◌∷◌, Bool, true, false, not, ◌&&◌, eqb, leb, ltb, refl, sym, arith}
use Rattle.std.proofs.lemmas.Bool.{ne_eqb, leb-true, le-ltb}
use Rattle.yaml_scan.specs.Bytes.{is_control, is_control_byte, is_flow_mark}
use Rattle.yaml_scan.specs.Plain.{ends_plain}

other : (c n : ℕ) → 97 ≤ c → n < 97 → eqb c n ≡ false
other c n low less = ne_eqb c n (λ is. absurd (omega (arith, is, low, less)))

above : (c n : ℕ) → c ≤ 122 → 122 < n → eqb c n ≡ false
above c n high more = ne_eqb c n (λ is. absurd (omega (arith, is, high, more)))

quiet_byte : (c : ℕ) → 97 ≤ c → c ≤ 122 → is_control_byte c ≡ false
quiet_byte c low high =
    let printed : ltb c 32 ≡ false = le-ltb c 32 (omega (arith, low)) in
    rw (printed, above c 127 high (omega arith)) refl

quiet : (c : ℕ) (cs : List ℕ) → 97 ≤ c → c ≤ 122 → is_control (c ∷ cs) ≡ false
quiet c [] low high = quiet_byte c low high
quiet c (d ∷ ds) low high = rw (quiet_byte c low high, above c 194 high (omega arith)) refl

no_mark : (c : ℕ) → 97 ≤ c → c ≤ 122 → is_flow_mark c ≡ false
no_mark c low high =
    rw (other c 44 low (omega arith), other c 91 low (omega arith), other c 93 low (omega arith), above c 123 high (omega arith), above c 125 high (omega arith)) refl

letter_goes_on : (flow white : Bool) (c : ℕ) (cs : List ℕ) → 97 ≤ c → c ≤ 122 → ends_plain flow white (c ∷ cs) ≡ false
letter_goes_on true white c cs low high = rw (other c 35 low (omega arith), other c 58 low (omega arith), no_mark c low high, quiet c cs low high) refl
letter_goes_on false white c cs low high = rw (other c 35 low (omega arith), other c 58 low (omega arith), quiet c cs low high) refl

pub letters_go_on : (flow white : Bool) (c : ℕ) (cs : List ℕ) → not (leb 97 c && leb c 122) && ends_plain flow white (c ∷ cs) ≡ ends_plain flow white (c ∷ cs)
letters_go_on flow white c cs = from (leb 97 c) (leb c 122) refl refl
  where
    from : (low high : Bool) → leb 97 c ≡ low → leb c 122 ≡ high → not (low && high) && ends_plain flow white (c ∷ cs) ≡ ends_plain flow white (c ∷ cs)
    from true true low high = sym (letter_goes_on flow white c cs (leb-true 97 c low) (leb-true c 122 high))
    from true false low high = refl
    from false high low also = refl
