use Rattle.std.proofs.Common.{◌≡◌, take}
use Rattle.std.specs.Prelude.{filter, flat_map}
use Rattle.compose_image.specs.Instances.{comes_from}
use Rattle.compose_encode.proofs.wires.by_source.Given as goal

abbrev pub invariant-loop-source : goal.invariant-loop-source
invariant-loop-source l = l.ordered.items ≡ flat_map (λ source. filter (comes_from source) l.wires) (take l.source-index l.source-items)
