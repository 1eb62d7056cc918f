use Rattle.std.proofs.Common.{◌≡◌, false, None, drop}
use Rattle.std.specs.List.{position_from}
use Rattle.comp_entity.specs.Views.{named_entities}
use Rattle.compose_graph.specs.Listed.{graph_of}
use Rattle.compose_files.specs.Built.{IsJudged}
use Rattle.compose_files.specs.Choice.{is_instance_for}
use Rattle.compose_files.specs.Needs.{need_of}
use Rattle.compose_files.proofs.choice.fitting_export.Given as goal

abbrev pub invariant-loop-place : goal.invariant-loop-place
invariant-loop-place l = (j : IsJudged (graph_of l.graph) l.source.0 None (need_of l.need) false)
    → position_from (is_instance_for j.asked) l.place (named_entities (drop l.place l.exports.items)) ≡ position_from (is_instance_for j.asked) 0 (named_entities l.exports.items)
