use Rattle.std.proofs.Common.{◌≡◌, ◌+◌, drop, map}
use Rattle.std.specs.Prelude.{option_map, option_copied}
use Rattle.warg_vectors.specs.State.{named_view}
use Rattle.warg_vectors.specs.World.{place_in}
use Rattle.warg_vectors.proofs.registry.place_of.Given as goal

abbrev pub invariant-loop-named : goal.invariant-loop-named
invariant-loop-named l = record {
  place : l.place ≡ l.named-index;
  known : option_map (λ p. p + l.place) (place_in (map named_view (drop l.named-index l.registries)) (option_copied l.name)) ≡ place_in (map named_view l.registries) (option_copied l.name);
}
