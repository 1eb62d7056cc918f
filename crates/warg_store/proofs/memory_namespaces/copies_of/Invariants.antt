-- what was copied, and what is left, are the whole, in which no key stands twice
use Rattle.std.proofs.Common.{◌≡◌, ◌++◌}
use Rattle.std.specs.Prelude.{bytes_eq}
use Rattle.std.specs.List.{IsDistinct}
use Rattle.std.specs.Map.{keys_of}
use Rattle.warg_store.proofs.memory_namespaces.copies_of.Given as goal

abbrev pub invariant-loop-namespace : goal.invariant-loop-namespace
invariant-loop-namespace l = (l.copies.entries ++ l.namespace-iterator ≡ l.names.entries) × IsDistinct bytes_eq (keys_of l.names.entries)
