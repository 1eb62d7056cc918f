use Rattle.std.proofs.Common.{take, ◌<◌, length}
use Rattle.std.specs.List.{All}
use Rattle.std.specs.Prelude.{ℕ, List}
use Rattle.comp_entity.specs.declared.entity.Entity.{Entity}
use Rattle.comp_entity.specs.Views.{entity_tree}
use Rattle.compose_writing.specs.Conditions.{KeepsForm}
use Rattle.test_types.proofs.form.+entities.Given as goal

abbrev pub invariant-keep_entries-loop-entry : goal.invariant-keep_entries-loop-entry
invariant-keep_entries-loop-entry l = All (λ (e : List ℕ × Entity). (0 < length e.0) × KeepsForm (entity_tree e.1)) (take l.entry-index l.entries)
