-- Lists of types, each of which is read, or the first of which has a fault.
use Rattle.std.specs.Prelude.{◌≡◌, ℕ, Bool, true, ◌&&◌, List, [], ◌∷◌, map, Result, Ok}
use Rattle.warg_values.specs.Reading.{◌>>=◌}
use Rattle.comp_format.specs.declared.types.ValType.{ValType}
use Rattle.std.specs.Prelude.{Option}
use Rattle.comp_entity.specs.Entity.{ValueTree, Payload}
use Rattle.comp_entity.specs.Bounds.{ShapeFault}
use Rattle.comp_scope.specs.Spaces.{Spaces}
use Rattle.comp_scope.specs.Values.{part_of, payload_of}
use Rattle.comp_space.specs.declared.parts.Parts.{Parts}
use Rattle.comp_table.specs.Plain.{under_label, plain_payload}
use Rattle.comp_table.specs.Trees.{PlainTree, AllStand}

abbrev pub all_of : {X Y : Type 0} → (X → Result Y ShapeFault) → List X → Result (List Y) ShapeFault
all_of f [] = Ok []
all_of f (x ∷ xs) = f x >>= λ y. all_of f xs >>= λ ys. Ok (y ∷ ys)

-- whether all have the naming bit
abbrev pub all_named : {Y : Type 0} → List (Y × Bool) → Bool
all_named [] = true
all_named (r ∷ rs) = r.1 && all_named rs

-- a field or a parameter under its label, and a case
abbrev pub field_of : Spaces → List ℕ × ValType → Result ((List ℕ × ValueTree) × Bool) ShapeFault
field_of s f = part_of s f.1 >>= λ v. Ok ((f.0, v.0), v.1)

abbrev pub case_of : Spaces → List ℕ × Option ValType → Result ((List ℕ × Payload) × Bool) ShapeFault
case_of s c = payload_of s c.1 >>= λ p. Ok ((c.0, p.0), p.1)

abbrev pub plain_case : List ℕ × Payload → PlainTree
plain_case c = under_label c.0 (plain_payload c.1)

-- The numbers stand for these, and the truth value is whether all of them have the naming bit.
pub record ShowsRows {Y : Type 0} (plain : Y → PlainTree) (table : List PlainTree) (parts : Parts) (rows : List (Y × Bool)) : Type 0 where
  pub stand : AllStand table parts.numbers.items (map (λ r. plain r.0) rows)
  pub named_is : parts.named ≡ all_named rows
