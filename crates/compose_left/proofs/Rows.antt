-- Worked rows of origins.
use Rattle.std.proofs.Common.{◌≡◌, [], ◌∷◌, None, refl, true}
use Rattle.comp_entity.specs.Entity.{made, brought, Resource, EntityTree, IsType, IsFunc, IsInstance, no_entry, entry, ShapeTree}
use Rattle.compose_left.specs.declared.origin.Origin.TheVariants as origins
use Rattle.compose_left.specs.Spots.{resource}
use Rattle.compose_left.specs.Wiring.{Wiring}
use Rattle.compose_left.specs.Origins.{origin, origin_within, number_of, table}
use Rattle.compose_left.specs.Merging.{union}

-- a component that makes a resource r, and one that imports m and n with one r
abbrev making : ShapeTree
making = record { imports = []; exports = (0x72 ∷ [], IsType (Resource (made 0))) ∷ [] }

abbrev sharing : ShapeTree
sharing = record {
  imports = (0x6d ∷ [], IsInstance (entry (0x72 ∷ []) (IsType (Resource (brought 0))) true no_entry)) ∷ (0x6e ∷ [], IsInstance (entry (0x72 ∷ []) (IsType (Resource (brought 0))) true no_entry)) ∷ [];
  exports = [];
}

abbrev from_two : Wiring
from_two = record {
  shapes = making ∷ making ∷ sharing ∷ [];
  wires = record { target = 2; import = 0; source = 0; export = None } ∷ record { target = 2; import = 1; source = 1; export = None } ∷ [];
}

-- r has the origin of m's
wired_row : origin from_two (record { instance = 2; thing = resource (brought 0) }) ≡ origins.Made 0 0
unfolding origin_within
wired_row = refl

-- left open, r is m's
left_row : origin (record from_two { wires = [] }) (record { instance = 2; thing = resource (brought 0) }) ≡ origins.Left (0x6d ∷ []) ((0x72 ∷ []) ∷ [])
unfolding origin_within
left_row = refl

-- the table holds it once
table_row : table (record from_two { wires = [] }) ≡ origins.Left (0x6d ∷ []) ((0x72 ∷ []) ∷ []) ∷ []
unfolding origin_within
table_row = refl

-- three instances and the table count in turn
number_row : number_of (record from_two { wires = [] }) (record { instance = 2; thing = resource (brought 0) }) ≡ 3
unfolding origin_within
number_row = refl

-- first names first
func : EntityTree
func = IsFunc (record { params = []; result = None })

union_row : union (IsInstance (entry (0x31 ∷ []) func true (entry (0x33 ∷ []) func true no_entry))) (IsInstance (entry (0x32 ∷ []) func true (entry (0x33 ∷ []) func true no_entry)))
    ≡ IsInstance (entry (0x31 ∷ []) func true (entry (0x33 ∷ []) func true (entry (0x32 ∷ []) func true no_entry)))
union_row = refl
