use Rattle.std.proofs.Common.{ℕ, ◌<◌, List, [], ◌∷◌, length, arith}
use Rattle.std.specs.List.{IsDistinct}
use Rattle.std.proofs.lemmas.List.Elements.{All-nil, All-cons}
use Rattle.comp_format.specs.Forms.{AreLabels}
use Rattle.test_components.proofs.encoder.one_parameter.Goals as goal

abbrev IsNamed : List ℕ → Type 0
IsNamed label = 0 < length label

one_label : (label : List ℕ) → 0 < length label → AreLabels (label ∷ [])
unfolding IsDistinct
one_label label some = record { named = All-cons IsNamed label [] some (All-nil IsNamed); differ = (tt, tt) }

pub returns : goal.returns
returns c = rw (c.in_ok-push.ensures.added, c.new-params.ensures) (one_label c.in_ok-copy_of.field-0 (rw c.in_ok-copy_of.ensures (omega arith)))
