use Rattle.std.proofs.Common.{◌≡◌, drop}
use Rattle.comp_entity.specs.Views.{entries_of, named_entities}
use Rattle.compose_left.specs.Merging.{equal_on_both}
use Rattle.compose_left.proofs.merge.agrees.Given as goal

abbrev pub invariant-loop-export : goal.invariant-loop-export
invariant-loop-export l = equal_on_both (entries_of (named_entities l.exports)) (entries_of (named_entities (drop l.export-index l.asked))) ≡ equal_on_both (entries_of (named_entities l.exports)) (entries_of (named_entities l.asked))
