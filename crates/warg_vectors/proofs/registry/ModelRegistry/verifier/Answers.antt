use Rattle.std.proofs.Common.{[], rules}
use Rattle.std.specs.List.Sorted.{IsPermutation}
use Rattle.warg_vectors.specs.State.{world}
use Rattle.warg_vectors.specs.World.{signatures_in}
use Rattle.warg_vectors.proofs.SignedLaws.{each-accepted}
use Rattle.warg_vectors.proofs.registry.ModelRegistry.verifier.Goals as goal

pub returns-clause-accepts : goal.returns-clause-accepts
returns-clause-accepts c =
    let same : IsPermutation (signatures_in (world c.args.self.now)) c.new.result = search rules in
    each-accepted c.what_is_listed_is_accepted.ensures c.new.result [] (world c.args.self.now).registries same
