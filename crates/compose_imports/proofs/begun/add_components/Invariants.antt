use Rattle.compose_check.specs.Composition.{composition_tree}
use Rattle.compose_imports.specs.Begun.{imports_at}
use Rattle.compose_imports.proofs.AddedLaws.{AreAdded}
use Rattle.compose_imports.proofs.begun.add_components.Given as goal

abbrev pub invariant-loop-number : goal.invariant-loop-number
invariant-loop-number l =
    AreAdded (imports_at (composition_tree l.composition)) l.numbers l.number-index l.initial.begun l.begun
