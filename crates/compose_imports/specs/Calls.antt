-- What those that need an import call in it.
use Rattle.std.specs.Prelude.{◌<◌, All, length}
use Rattle.std.specs.List.{AllByRecursion}
use Rattle.compose_left.specs.declared.spots.Spot.{Spot}
use Rattle.compose_order.specs.Needs.{LeftTree}

-- what stands at a path of names that are not empty
abbrev pub IsNamedCall : Spot → Type 0
IsNamedCall s = All (λ name. 0 < length name) s.path

abbrev pub HasNamedCalls : LeftTree → Type 0
HasNamedCalls l = AllByRecursion IsNamedCall l.calls
