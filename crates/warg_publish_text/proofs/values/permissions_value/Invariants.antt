-- the permissions so far
use Rattle.std.proofs.Common.{◌≡◌, map, take}
use Rattle.serde_json.specs.Data.{string}
use Rattle.serde_json.specs.View.{view}
use Rattle.warg_record.specs.View.{package_permission_text}
use Rattle.warg_publish_text.proofs.values.permissions_value.Given as goal

abbrev pub invariant-loop-permission : goal.invariant-loop-permission
invariant-loop-permission l =
    map view l.values.items ≡ map string (map package_permission_text (take l.permission-index l.permissions))
