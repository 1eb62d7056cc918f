use Rattle.std.proofs.Common.{◌≡◌, drop}
use Rattle.std.specs.Prelude.{find, bytes_eq}
use Rattle.warg_vectors.proofs.ask.first_header.Given as goal

abbrev pub invariant-loop-known : goal.invariant-loop-known
invariant-loop-known l = find (λ h. bytes_eq h.0 l.name) (drop l.known-index l.request.headers) ≡ find (λ h. bytes_eq h.0 l.name) l.request.headers
