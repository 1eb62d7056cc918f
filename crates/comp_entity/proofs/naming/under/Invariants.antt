use Rattle.std.proofs.Common.{◌≡◌, drop}
use Rattle.comp_entity.specs.Fits.{under}
use Rattle.comp_entity.specs.Views.{entries_of, named_entities}
use Rattle.comp_entity.proofs.naming.under.Given as goal

abbrev pub invariant-loop-entry : goal.invariant-loop-entry
invariant-loop-entry l = under l.name (entries_of (named_entities (drop l.entry-index l.entries))) ≡ under l.name (entries_of (named_entities l.entries))
