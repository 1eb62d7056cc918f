use Rattle.std.proofs.Common.{◌≡◌}
use Rattle.std.specs.Prelude.{find, vec_len}
use Rattle.std.specs.Option.{option_or}
use Rattle.std.specs.BTreeMap.{get}
use Rattle.compose_left.specs.declared.spots.Thing.{Thing}
use Rattle.compose_left.specs.Origins.{names}
use Rattle.compose_left.specs.Wired.{thing_cmp}
use Rattle.compose_left.proofs.places.brought.Given as goal

abbrev pub invariant-loop-spot : goal.invariant-loop-spot
invariant-loop-spot l = (t : Thing) → option_or (find (names t) l.spots.items) (get thing_cmp l.found t) ≡ find (names t) l.fn.spots.items

abbrev pub decreases-loop-spot : goal.decreases-loop-spot
decreases-loop-spot l = vec_len l.spots
