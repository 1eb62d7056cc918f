use Rattle.warg_model.specs.State.{held}
use Rattle.warg_model.proofs.GrowLaws.{taken-up, model-grown}
use Rattle.warg_model.proofs.registry.ModelRegistry.take_up.Goals as goal

pub returns-clause-grown : goal.returns-clause-grown
returns-clause-grown c is = taken-up (held c.args.self.now) c.args.growth is

pub returns-clause-sound : goal.returns-clause-sound
returns-clause-sound c is sound = model-grown (held c.args.self.now) _ (taken-up (held c.args.self.now) c.args.growth is) sound
