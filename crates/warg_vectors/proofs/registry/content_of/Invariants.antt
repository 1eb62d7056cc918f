use Rattle.std.proofs.Common.{◌≡◌, drop}
use Rattle.std.specs.Prelude.{find, bytes_eq}
use Rattle.warg_vectors.proofs.registry.content_of.Given as goal

abbrev pub invariant-loop-content : goal.invariant-loop-content
invariant-loop-content l =
    find (λ c. bytes_eq c.digest l.digest) (drop l.content-index l.contents)
    ≡ find (λ c. bytes_eq c.digest l.digest) l.contents
