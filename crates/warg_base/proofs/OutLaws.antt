-- What was written to an output.
use Rattle.std.proofs.Common.{◌≡◌, ℕ, List, [], ◌++◌, take, Some, refl, sym, ◌∙◌}
use Rattle.std.proofs.lemmas.List.{append-nil}
use Rattle.warg_base.specs.Out.{LeavesPartlyAdded}

-- a write that added nothing
pub nothing_added : (old new bytes : List ℕ) → new ≡ old → LeavesPartlyAdded (Some old) (Some new) bytes
nothing_added old new bytes same = (new, refl, (0, same ∙ sym (append-nil old)))
