use Rattle.std.proofs.Common.{◌≡◌, ℕ, ◌<◌, false, List, [], ◌∷◌, length, refl, arith}
use Rattle.std.specs.List.{IsDistinct}
use Rattle.std.specs.Str.{bytes_eq}
use Rattle.std.proofs.lemmas.List.Elements.{All-nil, All-cons}
use Rattle.comp_format.specs.Forms.{AreLabels}
use Rattle.test_components.proofs.encoder.two_cases.Goals as goal

abbrev IsNamed : List ℕ → Type 0
IsNamed label = 0 < length label

two_labels : (a b : List ℕ) → 0 < length a → 0 < length b → bytes_eq a b ≡ false → AreLabels (a ∷ b ∷ [])
unfolding IsDistinct
two_labels a b some more apart = record { named = All-cons IsNamed a (b ∷ []) some (All-cons IsNamed b [] more (All-nil IsNamed)); differ = ((apart, tt), (tt, tt)) }

pub returns : goal.returns
returns c =
    rw (c.in_ok-push-2.ensures.added, c.in_ok-push.ensures.added, c.new-cases.ensures)
    (omega arith, two_labels c.in_ok-copy_of.field-0 c.in_ok-copy_of-2.field-0 (rw c.in_ok-copy_of.ensures (omega arith)) (rw c.in_ok-copy_of-2.ensures (omega arith)) (rw (c.in_ok-copy_of.ensures, c.in_ok-copy_of-2.ensures) refl))
