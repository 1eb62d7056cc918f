use Rattle.std.proofs.Common.{◌≡◌, take}
use Rattle.comp_entity.specs.Views.{named_entities}
use Rattle.warg_compose.specs.Read.{names_in}
use Rattle.warg_compose.proofs.reader.names_of.Given as goal

abbrev pub invariant-loop-name : goal.invariant-loop-name
invariant-loop-name l = l.names.items ≡ names_in (named_entities (take l.name-index l.entities))
