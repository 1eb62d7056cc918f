use Rattle.std.proofs.Common.{take}
use Rattle.warg_learn.specs.Gathered.{groups_in}
use Rattle.warg_learn.specs.Groups.{AreGrouped}
use Rattle.warg_learn.specs.Seen.{seen, tells}
use Rattle.warg_learn.proofs.learner.Learner.group_names.Given as goal

abbrev pub invariant-loop-name : goal.invariant-loop-name
invariant-loop-name g l =
    let tell = tells g.V.Verifier.good g.L.Link.told g.L.Link.faults g.R.RegistryStorage.told g.R.RegistryStorage.faults g.C.ContentStorage.told g.C.ContentStorage.faults g.N.NamespaceMapStorage.told g.N.NamespaceMapStorage.faults in
    AreGrouped (seen tell l.fn.self) (seen tell l.self) (take l.name-index l.names) (groups_in l.groups)
