use Rattle.std.proofs.Common.{◌++◌, take}
use Rattle.compose_naming.specs.Settled.{WrittenNames, called_as}
use Rattle.compose_naming.specs.Names.{FindsNames}
use Rattle.compose_naming.proofs.settling.note_calls.Given as goal

abbrev pub invariant-loop-thing : goal.invariant-loop-thing
invariant-loop-thing l = (ws : WrittenNames) → FindsNames l.fn.names ws
    → FindsNames l.names (ws ++ called_as l.written (take l.thing-index l.things))
