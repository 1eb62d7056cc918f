use Rattle.std.specs.Prelude.{string_bytes}
use Rattle.warg_log.specs.Namespaces.{space, namespace_view}
use Rattle.warg_log.proofs.Copying.{IsCopying}
use Rattle.warg_log.proofs.namespaces.Namespaces.try_clone.Given as goal

abbrev pub invariant-loop-name : goal.invariant-loop-name
invariant-loop-name l = IsCopying string_bytes namespace_view (space l.copies) (space l.self) l.name-iterator
