use Rattle.comp_space.specs.StandingLaws.{resource_found}
use Rattle.comp_space.proofs.parts.resource_standing.Goals as goal

pub returns-in-Resource : goal.returns-in-Resource
returns-in-Resource c = λ e stands.
    resource_found c.args.table.now c.args.standing.number c.args.standing.named c.head.result.now c.in-Resource.resource e c.head.ensures c.in-Resource.is stands
