-- Names by which types are written, and what is called at paths, found by maps.
use Rattle.std.specs.Prelude.{◌≡◌, List, [], ◌∷◌, Option, Some, None, Vec, if◌then◌else◌}
use Rattle.std.specs.Global.{Global}
use Rattle.std.specs.BTreeMap.{BTreeMap, get}
use Rattle.comp_entity.specs.Entity.{Name}
use Rattle.comp_entity.specs.Fits.{same_name}
use Rattle.compose_left.specs.Spots.{named_type}
use Rattle.compose_left.specs.Wired.{thing_cmp}
use Rattle.compose_left.specs.declared.path.Path.{Path}
use Rattle.compose_left.specs.declared.spots.Spot.{Spot}
use Rattle.compose_left.specs.declared.spots.Thing.{Thing}
use Rattle.compose_order.specs.Known.{NamePath, things_at}
use Rattle.compose_order.specs.Needs.{called_at}
use Rattle.compose_naming.specs.Settled.{WrittenNames}

-- the first name that is noted for one
abbrev pub noted : WrittenNames → Name → Option Name
noted [] n = None
noted (w ∷ ws) n = if same_name w.0 n then Some w.1 else noted ws n

abbrev pub FindsNames : BTreeMap Thing Name → WrittenNames → Type 0
FindsNames names ws = (n : Name) → get thing_cmp names (named_type n) ≡ noted ws n

abbrev pub FindsCalls : BTreeMap Path (Vec Thing Global) → List Spot → Type 0
FindsCalls paths calls = (path : NamePath) → things_at paths path ≡ called_at calls path
