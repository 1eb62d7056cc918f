use Rattle.std.proofs.Common.{sym, subst, length}
use Rattle.warg_model.specs.Held.{registry_of}
use Rattle.warg_model.specs.Hashes.{AreHashesBelow}
use Rattle.warg_model.specs.State.{held}
use Rattle.warg_model.specs.declared.hashes.RegistryHashes.{RegistryHashes}
use Rattle.warg_vectors.proofs.SoundLaws.{kept-grown}
use Rattle.warg_vectors.proofs.registry.take_up_in.Goals as goal

pub returns-clause-sound : goal.returns-clause-sound
returns-clause-sound c is sound =
    let h = held c.args.named.now.registry in
    let w = registry_of h in
    record {
      model = c.take_up-hashes.ensures.sound is sound.model;
      hashes = kept-grown h (held c.take_up-hashes.new.self) c.take_up-hashes.result (c.take_up-hashes.ensures.grown is) (subst (λ (g : RegistryHashes). AreHashesBelow w (length w.entries) g) (sym c.take_up-hashes.ensures.hashes) is.hashes);
    }
