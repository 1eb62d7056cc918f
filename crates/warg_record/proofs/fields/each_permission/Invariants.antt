use Rattle.std.proofs.Common.{◌≡◌, length, map}
use Rattle.warg_record.specs.Reading.{each_field, permission_of}
use Rattle.warg_record.proofs.Loop.{behind}
use Rattle.warg_record.proofs.fields.each_permission.Given as goal

abbrev pub invariant-loop-rest : goal.invariant-loop-rest
invariant-loop-rest g l =
    behind (map g.P.LogPermission.text_of l.permissions.items) (each_field (permission_of g.P.LogPermission.kind) 2 (length l.rest) l.rest)
    ≡ each_field (permission_of g.P.LogPermission.kind) 2 (length l.bytes) l.bytes

abbrev pub decreases-loop-rest : goal.decreases-loop-rest
decreases-loop-rest g l = length l.rest
