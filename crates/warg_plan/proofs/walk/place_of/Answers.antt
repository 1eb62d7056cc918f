use Rattle.std.proofs.Common.{sym, ◌∙◌}
use Rattle.warg_plan.proofs.FoundSteps.{place_there, place_behind}
use Rattle.warg_plan.proofs.walk.place_of.Goals as goal

pub returns-in-Some : goal.returns-in-Some
returns-in-Some c = place_there c.args.key.now c.args.entries.now.entries c.in-Some.place (sym c.in-Some.ensures.index)

pub returns-in-None : goal.returns-in-None
returns-in-None c = c.len.ensures.len ∙ place_behind c.args.key.now c.args.entries.now.entries (sym c.in-None.ensures.index)
