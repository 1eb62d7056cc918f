use Rattle.std.proofs.Common.{◌≡◌, ℕ, length}
use Rattle.std.specs.Prelude.{get_or, []}
use Rattle.comp_image.specs.Numbered.{items_of}
use Rattle.comp_image.proofs.numbered.Numbered.new.Given as goal

abbrev pub invariant-loop : goal.invariant-loop
invariant-loop l = (length l.spaces.items ≡ l.counter) × ((n : ℕ) → get_or (items_of l.spaces.items) n [] ≡ [])
