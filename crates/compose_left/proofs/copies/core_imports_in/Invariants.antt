use Rattle.std.proofs.Common.{◌≡◌, take}
use Rattle.compose_left.proofs.copies.core_imports_in.Given as goal

abbrev pub invariant-loop-import : goal.invariant-loop-import
invariant-loop-import l = l.copies.items ≡ take l.import-index l.imports
