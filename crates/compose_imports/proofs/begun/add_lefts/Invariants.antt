use Rattle.compose_order.specs.Known.{left_tree}
use Rattle.compose_imports.proofs.AddedLaws.{AreAdded}
use Rattle.compose_imports.proofs.LeftLaws.{alone_of}
use Rattle.compose_imports.proofs.begun.add_lefts.Given as goal

abbrev pub invariant-loop-left : goal.invariant-loop-left
invariant-loop-left l = AreAdded (alone_of left_tree) l.lefts l.left-index l.initial.begun l.begun
