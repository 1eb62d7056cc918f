use Rattle.std.proofs.Common.{◌≡◌, ◌++◌, drop}
use Rattle.std.specs.Prelude.{filter}
use Rattle.compose_needs.specs.Tied.{is_near}
use Rattle.compose_needs.proofs.tied.near.Given as goal

abbrev pub invariant-loop-thing : goal.invariant-loop-thing
invariant-loop-thing l = l.near.items ++ filter is_near (drop l.thing-index l.things) ≡ filter is_near l.things
