use Rattle.std.proofs.Common.{◌≡◌, take}
use Rattle.comp_encoder.specs.Builder.{entries_of}
use Rattle.compose_bundle.specs.Bundled.{content_in, singles}
use Rattle.compose_bundle.proofs.ItemLaws.{stand}
use Rattle.compose_bundle.proofs.bundling.built.Given as goal

abbrev pub invariant-loop-item : goal.invariant-loop-item
invariant-loop-item l = entries_of l.builder ≡ singles (stand (content_in l.contents) (take l.item-index l.items))
