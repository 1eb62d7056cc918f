use Rattle.std.proofs.Common.{◌≡◌, drop}
use Rattle.std.specs.List.{position_from}
use Rattle.comp_entity.specs.Views.{named_entities}
use Rattle.compose_files.specs.Choice.{is_instance_named}
use Rattle.compose_files.proofs.choice.instance_export.Given as goal

abbrev pub invariant-loop-place : goal.invariant-loop-place
invariant-loop-place l =
    position_from (is_instance_named l.name) l.place (named_entities (drop l.place l.exports)) ≡ position_from (is_instance_named l.name) 0 (named_entities l.exports)
