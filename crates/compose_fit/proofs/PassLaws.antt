-- The two ways in which wires are compared, as numbers of a table are.
use Rattle.std.specs.Prelude.{◌≡◌, ℕ, Bool, true, refl}
use Rattle.comp_entity.specs.Entity.{Name, EntityTree}
use Rattle.comp_entity.specs.Fits.{fits_with, same_name}
use Rattle.comp_entity.specs.Names.{Change, changing, entity_by}
use Rattle.comp_fit.specs.Loose as loose
use Rattle.compose_left.specs.Origins.{of_resource, of_type}
use Rattle.compose_left.specs.Renaming.{placed_resource, placed_type}
use Rattle.compose_left.specs.Wiring.{Wiring}
use Rattle.compose_left.specs.declared.known.Origins.{Origins}
use Rattle.compose_fit.specs.Fit.{loosely, in_place}
use Rattle.compose_fit.specs.Seen.{compared_by}

-- a change of names that is one to one keeps fit
abbrev pub KeepsFit : Type 0
KeepsFit = (c : Change) (before after : Name → Name → Bool) → ((depth : ℕ) (m n : Name) → after (c.resource depth m) (c.resource depth n) ≡ before m n)
    → (depth : ℕ) (given asked : EntityTree) → fits_with after (entity_by c depth given) (entity_by c depth asked) ≡ fits_with before given asked

pub compared_loosely : KeepsFit → compared_by (λ i. loose.loosely) ≡ loosely
compared_loosely keeps = λ k source given target asked. keeps loose.loosely (λ r s. true) same_name (λ depth m n. refl) 0 given asked k

pub compared_in_place : (o : Origins) (w : Wiring) → ((at : ℕ) → changing (placed_resource o at) (placed_type o at) ≡ changing (of_resource w at) (of_type w at))
    → compared_by (λ i. changing (placed_resource o i) (placed_type o i)) ≡ in_place w
compared_in_place o w placed = λ k source given target asked. fits_with same_name (entity_by (placed source k) 0 given) (entity_by (placed target k) 0 asked)
