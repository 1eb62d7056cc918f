use Rattle.std.proofs.Common.{◌≡◌, take}
use Rattle.warg_page.specs.Logs.{indices_of, leafs_of}
use Rattle.warg_page.specs.Views.{logs_view, AreSound}
use Rattle.warg_page.proofs.heads.heads_of.Given as goal

abbrev pub invariant-loop-package : goal.invariant-loop-package
invariant-loop-package l = record {
  indices : AreSound l.operator l.packages → l.heads.indices.items ≡ indices_of (logs_view l.operator (take l.package-index l.packages));
  leafs : AreSound l.operator l.packages → l.heads.leafs.items ≡ leafs_of (logs_view l.operator (take l.package-index l.packages));
}
