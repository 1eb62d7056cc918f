use Rattle.std.proofs.Common.{[], take}
use Rattle.compose_naming.specs.Settled.{along_leaves}
use Rattle.compose_naming.specs.Names.{FindsNames}
use Rattle.compose_naming.proofs.settling.names_of.Given as goal

abbrev pub invariant-loop-leaf : goal.invariant-loop-leaf
invariant-loop-leaf l =
    FindsNames l.names (along_leaves [] l.fn.import.calls.items (take l.leaf-index l.leaf-items))
