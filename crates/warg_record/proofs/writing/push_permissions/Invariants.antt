use Rattle.std.proofs.Common.{◌≡◌, ◌++◌, take, map}
use Rattle.warg_record.specs.Wire.{fields}
use Rattle.warg_record.proofs.writing.push_permissions.Given as goal

abbrev pub invariant-loop-permission : goal.invariant-loop-permission
invariant-loop-permission g l = l.out.items ≡ l.fn.out.items ++ fields 2 (map g.P.LogPermission.text_of (take l.permission-index l.permissions))
