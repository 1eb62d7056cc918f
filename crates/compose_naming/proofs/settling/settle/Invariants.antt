use Rattle.std.proofs.Common.{◌≡◌, ◌++◌, map}
use Rattle.compose_naming.specs.Settled.{settled}
use Rattle.compose_order.specs.Known.{left_tree}
use Rattle.compose_naming.proofs.settling.settle.Given as goal

abbrev pub invariant-loop-import : goal.invariant-loop-import
invariant-loop-import l = map left_tree l.written.items ++ map settled (map left_tree l.import-iterator.rest.items)
    ≡ map settled (map left_tree l.fn.imports.items)
