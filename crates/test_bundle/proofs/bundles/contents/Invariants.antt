use Rattle.compose_bundle.specs.Bundled.{AreComponents, content_in}
use Rattle.test_bundle.proofs.bundles.contents.Given as goal

abbrev pub invariant-loop-name : goal.invariant-loop-name
invariant-loop-name l = AreComponents (content_in l.contents)
