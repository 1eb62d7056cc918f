use Rattle.std.proofs.Common.{◌≡◌, map, take}
use Rattle.std.specs.List.{flat_map}
use Rattle.warg_model.specs.Held.{signatures_of}
use Rattle.warg_vectors.specs.State.{named_view}
use Rattle.warg_vectors.proofs.registry.signatures_of_all.Given as goal

abbrev pub invariant-loop-named : goal.invariant-loop-named
invariant-loop-named l = l.listed.items ≡ flat_map (λ r. signatures_of r.held) (map named_view (take l.named-index l.registries))
