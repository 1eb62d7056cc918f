use Rattle.semver.specs.Identifiers.{parts_of}
use Rattle.warg_model.specs.Held.{with_yank}
use Rattle.warg_model.specs.State.{held}
use Rattle.warg_vectors.proofs.SoundLaws.{kept-changed, yank-starts}
use Rattle.warg_vectors.proofs.registry.yank_in.Goals as goal

pub returns-clause-sound : goal.returns-clause-sound
returns-clause-sound c sound =
    let h = held c.args.named.now.registry in
    let version = parts_of c.args.version.now in
    let l = with_yank h c.args.name.now version in
    record {
      model = c.yank.ensures.sound sound.model;
      hashes = kept-changed c.yank.result h (held c.yank.new.self) l c.args.named.now.hashes c.yank.ensures.yanked c.yank.ensures.same (yank-starts h c.args.name.now version) sound.model sound.hashes;
    }
