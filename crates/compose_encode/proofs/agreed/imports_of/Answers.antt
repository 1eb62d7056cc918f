use Rattle.std.proofs.Common.{◌∙◌, ap, map, subst, sym}
use Rattle.std.specs.List.{AllByRecursion}
use Rattle.compose_order.specs.Known.{left_tree}
use Rattle.compose_imports.specs.Calls.{HasNamedCalls}
use Rattle.compose_encode.proofs.AgreedLaws.{settled_calls}
use Rattle.compose_encode.proofs.agreed.imports_of.Goals as goal

pub write_imports-requires-clause-called : goal.write_imports-requires-clause-called
write_imports-requires-clause-called c =
    subst (AllByRecursion HasNamedCalls) (sym (ap (map left_tree) c.deref-2.ensures.value ∙ c.in_ok-settled.ensures))
    (settled_calls (map left_tree c.args.lefts.items) c.requires.called)
