use Rattle.std.proofs.Common.{take}
use Rattle.comp_entity.specs.Views.{named_entities}
use Rattle.compose_left.specs.Merged.{FindsNames}
use Rattle.compose_left.proofs.merge.note_names.Given as goal

abbrev pub invariant-loop-place : goal.invariant-loop-place
invariant-loop-place l = FindsNames l.names (named_entities (take l.place l.exports))
