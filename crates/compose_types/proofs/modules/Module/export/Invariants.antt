use Rattle.std.proofs.Common.{◌≡◌, drop}
use Rattle.compose_writing.specs.WriteModules.{module_exports}
use Rattle.compose_types.specs.Modules.{IsCounted, module_scope}
use Rattle.compose_types.proofs.modules.Module.export.Given as goal

abbrev pub invariant-loop-export : goal.invariant-loop-export
invariant-loop-export l = record {
  written : module_exports (drop l.export-index l.exports) (module_scope l.self) ≡ module_exports l.fn.exports (module_scope l.fn.self);
  counted : IsCounted (module_scope l.fn.self) → IsCounted (module_scope l.self);
}
