use Rattle.std.proofs.Common.{take, ◌≡◌, false}
use Rattle.std.specs.List.{All}
use Rattle.std.specs.Str.{bytes_eq}
use Rattle.test_types.proofs.form.differs_from.Given as goal

abbrev pub invariant-loop-other : goal.invariant-loop-other
invariant-loop-other g l = All (λ other. bytes_eq l.label other.0 ≡ false) (take l.other-index l.later)
