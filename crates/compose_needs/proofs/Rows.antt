-- Worked rows of what exports mention.
use Rattle.std.proofs.Common.{◌≡◌, [], ◌∷◌, Some, None, refl, true}
use Rattle.comp_entity.specs.Entity.{made, Own, Resource, EntityTree, IsType, IsFunc, IsComponent, no_entry, entry, ShapeTree}
use Rattle.compose_needs.specs.Exports.{component_hides, export_hides}
use Rattle.compose_needs.specs.Lefts.{Lefts}

-- an instance makes the resource
abbrev of_none : Lefts
of_none k = None

abbrev handing : EntityTree
handing = IsFunc (record { params = []; result = Some (Own (made 0)) })

-- an instance exports a function that gives a resource which it hides
hidden_row : export_hides of_none [] ((0x66 ∷ [], handing) ∷ []) ≡ Some (0x66 ∷ [])
hidden_row = refl

given_row : export_hides of_none [] ((0x72 ∷ [], IsType (Resource (made 0))) ∷ (0x66 ∷ [], handing) ∷ []) ≡ None
given_row = refl

-- a component that does so is not imported
hiding : ShapeTree
hiding = record { imports = []; exports = (0x66 ∷ [], handing) ∷ [] }

hiding_row : component_hides hiding ≡ Some (0x66 ∷ [])
unfolding hiding
hiding_row = refl

-- nor one that exports a component which does so
holding_row : component_hides (record { imports = []; exports = (0x63 ∷ [], IsComponent no_entry (entry (0x66 ∷ []) handing true no_entry)) ∷ [] }) ≡ Some (0x63 ∷ [])
holding_row = refl
