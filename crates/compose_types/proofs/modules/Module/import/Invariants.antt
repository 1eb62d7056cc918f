use Rattle.std.proofs.Common.{◌≡◌, drop}
use Rattle.compose_writing.specs.WriteModules.{module_imports}
use Rattle.compose_types.specs.Modules.{IsCounted, module_scope}
use Rattle.compose_types.proofs.modules.Module.import.Given as goal

abbrev pub invariant-loop-import : goal.invariant-loop-import
invariant-loop-import l = record {
  written : module_imports (drop l.import-index l.imports) (module_scope l.self) ≡ module_imports l.fn.imports (module_scope l.fn.self);
  counted : IsCounted (module_scope l.fn.self) → IsCounted (module_scope l.self);
}
