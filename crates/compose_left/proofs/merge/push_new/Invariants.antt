use Rattle.std.proofs.Common.{◌≡◌, ◌++◌, take}
use Rattle.comp_entity.specs.Views.{named_entities}
use Rattle.compose_left.specs.Merged.{absent_from}
use Rattle.compose_left.proofs.merge.push_new.Given as goal

abbrev pub invariant-loop-export : goal.invariant-loop-export
invariant-loop-export l = named_entities l.exports.items ≡ named_entities l.fn.exports.items ++ absent_from (named_entities l.fn.exports.items) (named_entities (take l.export-index l.asked))
