use Rattle.std.proofs.Common.{◌∙◌, ap, map, take, reverse}
use Rattle.warg_proof.specs.Leaves.{entry_hash}
use Rattle.warg_prover.specs.Maps.{map_of}
use Rattle.warg_model.specs.Held.{registry_of}
use Rattle.warg_model.specs.State.{held}
use Rattle.warg_model.proofs.HashLaws.{log-hashes, newest-heads}
use Rattle.warg_model.proofs.registry.ModelRegistry.hashes.Goals as goal

pub returns : goal.returns
returns c =
    let first = take c.args.length (registry_of (held c.args.self.now)).entries in
    record {
      leaves = c.in_ok-new.ensures.leaves ∙ c.in_ok-leaves.ensures;
      log = c.in_ok-new.ensures.log ∙ ap (map entry_hash) c.in_ok-leaves.ensures ∙ log-hashes first;
      map = ap map_of (c.in_ok-new.ensures.map ∙ ap reverse c.in_ok-leaves.ensures) ∙ newest-heads first;
    }
