use Rattle.std.proofs.Common.{◌≡◌, drop}
use Rattle.std.specs.Prelude.{find, option_copied}
use Rattle.warg_vectors.specs.Named.{same_name}
use Rattle.warg_vectors.proofs.registry.registry_named.Given as goal

abbrev pub invariant-loop-named : goal.invariant-loop-named
invariant-loop-named l =
    find (λ r. same_name r.name (option_copied l.name)) (drop l.named-index l.registries)
    ≡ find (λ r. same_name r.name (option_copied l.name)) l.registries
