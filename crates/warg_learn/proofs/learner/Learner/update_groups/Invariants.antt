use Rattle.std.proofs.Common.{List, length}
use Rattle.warg_fetch.specs.Groups.{Group}
use Rattle.warg_learn.specs.Gathered.{AreFound, groups_in}
use Rattle.warg_learn.specs.Groups.{proved_logs}
use Rattle.warg_learn.specs.Seen.{seen, tells}
use Rattle.warg_learn.proofs.GroupSteps.{AreTaken}
use Rattle.warg_learn.proofs.learner.Learner.update_groups.Given as goal

abbrev pub invariant-loop-registry : goal.invariant-loop-registry
invariant-loop-registry g l =
    let tell = tells g.V.Verifier.good g.L.Link.told g.L.Link.faults g.R.RegistryStorage.told g.R.RegistryStorage.faults g.C.ContentStorage.told g.C.ContentStorage.faults g.N.NamespaceMapStorage.told g.N.NamespaceMapStorage.faults in
    (updates : List Group)
    × AreFound (proved_logs updates) l.found
    × AreTaken g.L.Link.Steps (groups_in l.fn.groups) (seen tell l.fn.self) (groups_in l.groups) (seen tell l.self) updates

abbrev pub decreases-loop-registry : goal.decreases-loop-registry
decreases-loop-registry g l = length l.groups.entries
