use Rattle.std.proofs.Common.{◌≡◌, ◌++◌}
use Rattle.yaml_scan.specs.Block as spec
use Rattle.yaml_scan.proofs.block.push_feeds.Given as goal

abbrev pub invariant-loop-done : goal.invariant-loop-done
invariant-loop-done l = l.text.items ≡ l.fn.text.items ++ spec.feeds l.done
