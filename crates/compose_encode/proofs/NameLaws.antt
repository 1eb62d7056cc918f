-- Components whose names differ are imported under names that differ.
use Rattle.std.proofs.Common.{◌≡◌, ◌≤◌, ◌+◌, arith, ℕ, zero, suc, Bool, true, false, cond, List, [], ◌∷◌, ◌++◌, length, map, filter, Option, Some, None, refl}
use Rattle.std.specs.Prelude.{bytes_eq, find, flat_map, option_to_list, slice_get}
use Rattle.std.specs.List.{range_with_len}
use Rattle.compose_check.specs.Composition.{ComponentTree, CompositionTree}
use Rattle.compose_image.specs.Imports.{component_import, component_of, is_used, used}
use Rattle.compose_image.specs.Writable.{HaveOwnNames, is_of}
use Rattle.compose_encode.specs.Whole.{AreApart, HaveComponentNames}

-- numbers that rise, from this one on
abbrev Rise : ℕ → List ℕ → Type 0
Rise low [] = Unit {0}
Rise low (n ∷ ns) = (low ≤ n) × Rise (suc n) ns

rise_lower : (low from : ℕ) (ns : List ℕ) → low ≤ from → Rise from ns → Rise low ns
rise_lower low from [] le h = tt
rise_lower low from (n ∷ ns) le h = let at = h.0 in (omega (arith, le, at), h.1)

range_rises : (a n : ℕ) → Rise a (range_with_len a n)
range_rises a zero = tt
range_rises a (suc n) = (omega arith, rise_lower (suc a) (a + 1) (range_with_len (a + 1) n) (omega arith) (range_rises (a + 1) n))

kept_rise : (p : ℕ → Bool) (low : ℕ) (ns : List ℕ) → Rise low ns → Rise low (filter p ns)
kept_rise p low [] h = tt
kept_rise p low (n ∷ ns) h = by (p n) (kept_rise p (suc n) ns h.1)
  where
    by : (b : Bool) → Rise (suc n) (filter p ns) → Rise low (cond b (n ∷ filter p ns) (filter p ns))
    by true rest = (h.0, rest)
    by false rest = let at = h.0 in rise_lower low (suc n) (filter p ns) (omega (arith, at)) rest

module _ (c : CompositionTree) (apart : AreApart c.components) where
  later : (i : ℕ) (x : ComponentTree) → slice_get c.components i ≡ Some x → (ns : List ℕ) → Rise (suc i) ns
      → find (is_of x.name) (map component_import (flat_map (component_of c) ns)) ≡ None
  later i x at [] h = refl
  later i x at (n ∷ ns) h = one (slice_get c.components n) refl (later i x at ns (let le = h.0 in rise_lower (suc i) (suc n) ns (omega (arith, le)) h.1))
    where
      by : (y : ComponentTree) (b : Bool) → b ≡ false → find (is_of x.name) (map component_import (flat_map (component_of c) ns)) ≡ None
          → cond b (Some (component_import y)) (find (is_of x.name) (map component_import (flat_map (component_of c) ns))) ≡ None
      by y true e rest = absurd cc
      by y false e rest = rest

      one : (o : Option ComponentTree) → slice_get c.components n ≡ o
          → find (is_of x.name) (map component_import (flat_map (component_of c) ns)) ≡ None
          → find (is_of x.name) (map component_import (option_to_list o ++ flat_map (component_of c) ns)) ≡ None
      one None e rest = rest
      one (Some y) e rest = by y (bytes_eq x.name y.name) (let le = h.0 in apart i n x y (omega (arith, le)) at e) rest

  own_names : (low : ℕ) (ns : List ℕ) → Rise low ns → HaveOwnNames (map component_import (flat_map (component_of c) ns))
  own_names low [] h = tt
  own_names low (n ∷ ns) h = one (slice_get c.components n) refl (own_names (suc n) ns h.1)
    where
      one : (o : Option ComponentTree) → slice_get c.components n ≡ o
          → HaveOwnNames (map component_import (flat_map (component_of c) ns))
          → HaveOwnNames (map component_import (option_to_list o ++ flat_map (component_of c) ns))
      one None e rest = rest
      one (Some x) e rest = (later n x e ns h.1, rest)

  pub component_names : HaveComponentNames c
  component_names =
      own_names 0 (used c) (kept_rise (is_used c) 0 (range_with_len 0 (length c.components)) (range_rises 0 (length c.components)))
