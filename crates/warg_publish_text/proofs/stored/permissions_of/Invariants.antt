-- the permissions so far
use Rattle.std.proofs.Common.{◌≡◌, map}
use Rattle.warg_record.specs.View.{package_permission_text}
use Rattle.warg_publish_text.specs.declared.stored.StoredPermission.{StoredPermission}
use Rattle.warg_publish_text.proofs.stored.permissions_of.Given as goal

abbrev pub invariant-loop-stored : goal.invariant-loop-stored
invariant-loop-stored l =
    map package_permission_text l.permissions.items
    ≡ map (λ (s : StoredPermission). package_permission_text s.permission) l.yielded
