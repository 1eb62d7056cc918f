use Rattle.std.proofs.Common.{take}
use Rattle.compose_naming.specs.Names.{FindsCalls}
use Rattle.compose_naming.proofs.paths.calls_by_path.Given as goal

abbrev pub invariant-loop-call : goal.invariant-loop-call
invariant-loop-call l = FindsCalls l.paths (take l.call-index l.calls)
