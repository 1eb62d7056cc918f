use Rattle.std.proofs.Common.{◌≡◌, ◌++◌, drop, take}
use Rattle.comp_entity.specs.Views.{named_entities}
use Rattle.compose_needs.specs.Exports.{side_hides, sides_named}
use Rattle.compose_needs.specs.Seen.{Holds, Things}
use Rattle.compose_needs.proofs.exports.first_untied.Given as goal

abbrev pub invariant-loop-entry : goal.invariant-loop-entry
invariant-loop-entry l = record {
  seen : (s : Things) → Holds l.fn.seen s → Holds l.seen (s ++ sides_named (named_entities (take l.entry-index l.entries)));
  found : (s : Things) → Holds l.fn.seen s → side_hides (s ++ sides_named (named_entities (take l.entry-index l.entries))) (named_entities (drop l.entry-index l.entries)) ≡ side_hides s (named_entities l.entries);
}
