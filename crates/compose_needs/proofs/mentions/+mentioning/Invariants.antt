use Rattle.std.proofs.Common.{◌≡◌, ◌++◌, drop}
use Rattle.comp_entity.specs.Names.{in_entries}
use Rattle.comp_entity.specs.Views.{entries_of, named_entities}
use Rattle.compose_needs.specs.Mentioned.{outwards}
use Rattle.compose_needs.proofs.mentions.+mentioning.Given as goal

abbrev pub invariant-push_entries-loop-entry : goal.invariant-push_entries-loop-entry
invariant-push_entries-loop-entry l =
    l.things.items ++ outwards (in_entries l.depth (entries_of (named_entities (drop l.entry-index l.entries))))
    ≡ l.fn.things.items ++ outwards (in_entries l.depth (entries_of (named_entities l.entries)))
