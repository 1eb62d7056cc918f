use Rattle.std.proofs.Common.{◌≡◌, ◌++◌, drop}
use Rattle.std.specs.Prelude.{filter}
use Rattle.compose_left.specs.Numbers.{AreOrigins}
use Rattle.compose_left.specs.Wiring.{Wiring}
use Rattle.compose_needs.specs.Exports.{is_made}
use Rattle.compose_needs.specs.Lefts.{lefts_of}
use Rattle.compose_needs.proofs.exports.made.Given as goal

abbrev pub invariant-loop-thing : goal.invariant-loop-thing
invariant-loop-thing l = (w : Wiring) → AreOrigins l.origins w → l.made.items ++ filter (is_made (lefts_of w)) (drop l.thing-index l.things) ≡ filter (is_made (lefts_of w)) l.things
