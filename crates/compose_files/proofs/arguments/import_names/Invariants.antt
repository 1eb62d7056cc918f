use Rattle.std.proofs.Common.{◌≡◌, ℕ, List, map, take}
use Rattle.comp_entity.specs.Entity.{EntityTree}
use Rattle.comp_entity.specs.Views.{named_entities}
use Rattle.compose_files.proofs.arguments.import_names.Given as goal

abbrev pub invariant-loop-import : goal.invariant-loop-import
invariant-loop-import l = l.names.items ≡ map (λ (i : List ℕ × EntityTree). i.0) (named_entities (take l.import-index l.import-items))
