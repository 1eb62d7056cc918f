use Rattle.comp_entity.specs.Views.{named_entities}
use Rattle.compose_check.specs.Merging.{AreMerged, AreMerging, lefts_in}
use Rattle.compose_check.proofs.open.merged.Given as goal

abbrev pub invariant-loop-name : goal.invariant-loop-name
invariant-loop-name l = record {
  merging : AreMerging l.merging;
  so_far : AreMerged (named_entities l.fn.asked.items) (named_entities l.name-iterator.rest.items) (lefts_in l.merging.list.items);
}
