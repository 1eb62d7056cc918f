use Rattle.std.proofs.Common.{◌≡◌, take, map}
use Rattle.warg_log.specs.Permissions.{set_of}
use Rattle.warg_log.proofs.permissions.PermissionSet.of.Given as goal

abbrev pub invariant-loop-permission : goal.invariant-loop-permission
invariant-loop-permission g l = l.set ≡ set_of (map g.P.LogPermission.text_of (take l.permission-index l.permissions))
