use Rattle.std.proofs.Common.{◌≡◌, drop, map}
use Rattle.warg_log.specs.Facts.{known_by, each_unheld}
use Rattle.warg_log.proofs.facts.Facts.check_permissions.Given as goal

abbrev pub invariant-loop-permission : goal.invariant-loop-permission
invariant-loop-permission g l =
    each_unheld l.signer (known_by l.self) (map g.P.LogPermission.text_of (drop l.permission-index l.permissions)) ≡ each_unheld l.signer (known_by l.self) (map g.P.LogPermission.text_of l.permissions)
