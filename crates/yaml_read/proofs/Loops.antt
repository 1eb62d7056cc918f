-- One item or entry more of a loop.
use Rattle.std.proofs.Common.{◌≡◌, ℕ, suc, ◌+◌, ◌-◌, ◌<◌, ◌≤◌, List, cond, Result, Ok, refl, arith}
use Rattle.warg_values.specs.Reading.{◌>>=◌}
use Rattle.yaml_read.specs.declared.bracket.Bracket.TheVariants as brackets
use Rattle.yaml_read.specs.Source.{Source, TooManyEvents, Refused, refused}
use Rattle.yaml_read.specs.Collections.{end_at, item_at, items_at, entry_at, entries_at}

pub items_step : {X : Type 0} (fills : X → ℕ → Source → Result (X × Source) Refused) (most at : ℕ) (x : X) (s : Source) → at < most
    → items_at fills (most - at) at x s ≡ (end_at brackets.ListEnd s >>= λ end. cond end.0 (Ok (x, end.1)) (item_at (fills x at) end.1 >>= λ y. items_at fills (most - (at + 1)) (at + 1) y.0 y.1))
unfolding items_at
items_step {X} fills most at x s lt =
    let is : most - at ≡ suc (most - (at + 1)) = omega arith in
    rw is refl

pub items_over : {X : Type 0} (fills : X → ℕ → Source → Result (X × Source) Refused) (most at : ℕ) (x : X) (s : Source) → most ≤ at → items_at fills (most - at) at x s ≡ refused s TooManyEvents
unfolding items_at
items_over fills most at x s le = let is : most - at ≡ 0 = omega arith in rw is refl

pub items_start : {X : Type 0} (fills : X → ℕ → Source → Result (X × Source) Refused) (most : ℕ) (x : X) (s : Source) → items_at fills (most - 0) 0 x s ≡ items_at fills most 0 x s
items_start fills most x s = let is : most - 0 ≡ most = omega arith in rw is refl

pub entries_step : {X : Type 0} (fills : X → List ℕ → Source → Result (X × Source) Refused) (most at : ℕ) (x : X) (s : Source) → at < most
    → entries_at fills (most - at) x s ≡ (end_at brackets.MapEnd s >>= λ end. cond end.0 (Ok (x, end.1)) (entry_at fills x end.1 >>= λ y. entries_at fills (most - (at + 1)) y.0 y.1))
unfolding entries_at
entries_step {X} fills most at x s lt =
    let is : most - at ≡ suc (most - (at + 1)) = omega arith in
    rw is refl

pub entries_over : {X : Type 0} (fills : X → List ℕ → Source → Result (X × Source) Refused) (most at : ℕ) (x : X) (s : Source) → most ≤ at → entries_at fills (most - at) x s ≡ refused s TooManyEvents
unfolding entries_at
entries_over fills most at x s le = let is : most - at ≡ 0 = omega arith in rw is refl

pub entries_start : {X : Type 0} (fills : X → List ℕ → Source → Result (X × Source) Refused) (most : ℕ) (x : X) (s : Source) → entries_at fills (most - 0) x s ≡ entries_at fills most x s
entries_start fills most x s = let is : most - 0 ≡ most = omega arith in rw is refl
