use Rattle.std.proofs.Common.{◌≡◌, map, take}
use Rattle.comp_entity.specs.Views.{named_entities}
use Rattle.compose_left.specs.Renaming.{change_of, entry_by}
use Rattle.compose_left.proofs.copies.+entities.Given as goal

abbrev pub invariant-entries_in-loop-entry : goal.invariant-entries_in-loop-entry
invariant-entries_in-loop-entry l = named_entities l.copies.items ≡ map (entry_by (change_of l.renaming) l.depth) (named_entities (take l.entry-index l.entries))
