use Rattle.std.proofs.lemmas.Result.{on_ok_weaker}
use Rattle.warg_model.proofs.registry.ModelRegistry.add_release.Goals as goal

pub returns-clause-sound : goal.returns-clause-sound
returns-clause-sound c =
    on_ok_weaker c.add.result
    (λ added follows valid sound. added (c.in_ok-open.ensures.follows follows) (c.release_of.ensures.form valid) (c.in_ok-open.ensures.sound follows sound))
    c.add.ensures.sound
