use Rattle.std.proofs.Common.{◌≡◌, subst}
use Rattle.std.specs.Result.{IfOk}
use Rattle.comp_entity.specs.Names.{Change, entity_by}
use Rattle.comp_entity.specs.Views.{entity_tree}
use Rattle.compose_left.proofs.PlacedLaws.{change_is}
use Rattle.compose_left.proofs.known.Origins.place.Goals as goal

pub returns : goal.returns
returns c = λ w are n.
    subst (λ (change : Change). IfOk c.entity_in.result (λ copy. entity_tree copy ≡ entity_by change 0 (entity_tree c.args.entity.now))) (change_is c.args.self.now w are n c.args.at) c.entity_in.ensures
