use Rattle.warg_model.specs.Held.{registry_of}
use Rattle.warg_model.specs.State.{held}
use Rattle.warg_model.proofs.ListLaws.{Fills}
use Rattle.warg_model.proofs.registry.ModelRegistry.lists_asked.Given as goal

abbrev pub invariant-loop-id : goal.invariant-loop-id
invariant-loop-id l = Fills (registry_of (held l.self)) l.length l.asked.entries l.id-iterator l.listed.entries
