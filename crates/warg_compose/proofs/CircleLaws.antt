-- Where each wire comes from an earlier instance, none needs itself.
use Rattle.std.proofs.Common.{◌≡◌, ◌<◌, ◌+◌, sym, subst, refl, arith, ℕ, zero, suc, Bool, true, false, true≢false, cond, ◌||◌, List, [], ◌∷◌, length, map}
use Rattle.std.specs.Prelude.{◌==◌, filter, slice_index_or}
use Rattle.std.specs.List.{AllByRecursion, range_with_len}
use Rattle.compose_agree.specs.Order.{has}
use Rattle.compose_check.specs.Checked.{IsCircle, sources}
use Rattle.compose_check.specs.Circles.{Leads}
use Rattle.compose_check.specs.Composition.{CompositionTree, goes_to, source_of, sources_of}
use Rattle.compose_left.specs.declared.wiring.Wire.{Wire}

abbrev pub IsForward : Wire → Type 0
IsForward w = w.source < w.target

same_number : (a b : ℕ) → (a == b) ≡ true → a ≡ b
same_number a b h = grind (arith, h)

earlier : (t m : ℕ) (ws : List Wire) → AllByRecursion IsForward ws → has (sources_of ws t) m ≡ true → m < t
earlier t m [] all h = absurd (true≢false (sym h))
earlier t m (w ∷ ws) all h = by (goes_to t w) refl h (earlier t m ws all.1)
  where
    here : (b : Bool) → (w.source == m) ≡ b → (w.target == t) ≡ true → (b || has (sources_of ws t) m) ≡ true → (has (sources_of ws t) m ≡ true → m < t) → m < t
    here true e k h later =
        let source = same_number w.source m e in
        let target = same_number w.target t k in
        let lt = all.0 in
        omega (arith, source, target, lt)
    here false e k h later = later h

    by : (b : Bool) → (w.target == t) ≡ b → has (map source_of (cond b (w ∷ filter (goes_to t) ws) (filter (goes_to t) ws))) m ≡ true → (has (sources_of ws t) m ≡ true → m < t) → m < t
    by true k h later = here (w.source == m) refl k h later
    by false k h later = later h

at_number : (f : ℕ → List ℕ) (a n k m : ℕ) → has (slice_index_or (map f (range_with_len a n)) k []) m ≡ true → has (f (a + k)) m ≡ true
at_number f a zero k m h = absurd (true≢false (sym h))
at_number f a (suc n) zero m h = let same : a ≡ a + 0 = omega arith in subst (λ x. has (f x) m ≡ true) same h
at_number f a (suc n) (suc k) m h = let same : (a + 1) + k ≡ a + suc k = omega arith in subst (λ x. has (f x) m ≡ true) same (at_number f (a + 1) n k m h)

from_zero : (ws : List Wire) (n m : ℕ) → has (sources_of ws (0 + n)) m ≡ true → has (sources_of ws n) m ≡ true
from_zero ws n m h = let same : 0 + n ≡ n = omega arith in subst (λ x. has (sources_of ws x) m ≡ true) same h

leads_back : (c : CompositionTree) → AllByRecursion IsForward c.wires → (n : ℕ) (between : List ℕ) (end : ℕ) → Leads (sources c) n between end → end < n
leads_back c all n [] end h = earlier n end c.wires all (from_zero c.wires n end (at_number (sources_of c.wires) 0 (length c.instances) n end h))
leads_back c all n (m ∷ ms) end h =
    let first = earlier n m c.wires all (from_zero c.wires n m (at_number (sources_of c.wires) 0 (length c.instances) n m h.0)) in
    let later = leads_back c all m ms end h.1 in
    omega (arith, first, later)

pub no_circle : (c : CompositionTree) → AllByRecursion IsForward c.wires → (n : ℕ) (name : List ℕ) → IsCircle c n name → ⊥
no_circle c all n name circle =
    let back = leads_back c all n circle.last.on.0 n circle.last.on.1 in
    omega (arith, back)
