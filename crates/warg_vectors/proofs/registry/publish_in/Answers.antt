use Rattle.semver.specs.Identifiers.{parts_of}
use Rattle.warg_model.specs.Held.{with_release}
use Rattle.warg_model.specs.State.{held}
use Rattle.warg_vectors.proofs.SoundLaws.{kept-changed, release-starts}
use Rattle.warg_vectors.proofs.registry.publish_in.Goals as goal

pub returns-clause-sound : goal.returns-clause-sound
returns-clause-sound c sound =
    let h = held c.args.named.now.registry in
    let version = parts_of c.args.version.now in
    let l = with_release h c.args.name.now version c.args.digest.now in
    record {
      model = c.publish.ensures.sound sound.model;
      hashes = kept-changed c.publish.result h (held c.publish.new.self) l c.args.named.now.hashes c.publish.ensures.published c.publish.ensures.same (release-starts h c.args.name.now version c.args.digest.now) sound.model sound.hashes;
    }
