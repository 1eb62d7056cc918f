-- The parts of value types, as they are written one after the other.
use Rattle.std.specs.Prelude.{ℕ, Box, List, [], ◌∷◌, Option, Some, None, option_map, option_and_then}
use Rattle.std.specs.Global.{Global}
use Rattle.comp_format.specs.declared.types.Primitive.{Primitive as PrimitiveType}
use Rattle.comp_format.specs.declared.types.ValType.{ValType}
use Rattle.comp_entity.specs.declared.entity.ValueShape.{ValueShape}
use Rattle.comp_entity.specs.Entity.{ValueTree, Primitive, Payload}
use Rattle.comp_entity.specs.Views.{value_tree, payload_of}
use Rattle.compose_writing.specs.Scopes.{WrittenScope, Wrote, wrote_as}
use Rattle.compose_writing.specs.WriteValues.{write_value, write_payload}

-- some things, one after the other
unfoldable pub write_each : {X Y : Type 0} → (X → List WrittenScope → Wrote Y) → List X → List WrittenScope → Wrote (List Y)
write_each one [] ms = Some (ms, [])
write_each one (x ∷ xs) ms = option_and_then (λ y. wrote_as (λ ys. y.1 ∷ ys) (write_each one xs y.0)) (one x ms)

abbrev pub held_tree : Option ValueShape → Payload
held_tree held = payload_of (option_map value_tree held)

abbrev pub boxed_tree : Option (Box ValueShape Global) → Payload
boxed_tree held = payload_of (option_map (λ (t : Box ValueShape Global). value_tree t.value) held)

abbrev pub field_tree : List ℕ × ValueShape → List ℕ × ValueTree
field_tree f = (f.0, value_tree f.1)

abbrev pub case_tree : List ℕ × Option ValueShape → List ℕ × Option ValueTree
case_tree c = (c.0, option_map value_tree c.1)

abbrev pub write_part : ValueShape → List WrittenScope → Wrote ValType
write_part t ms = write_value (value_tree t) ms

abbrev pub write_field : List ℕ × ValueShape → List WrittenScope → Wrote (List ℕ × ValType)
write_field f ms = wrote_as (λ t. (f.0, t)) (write_value (value_tree f.1) ms)

abbrev pub write_case : List ℕ × Option ValueShape → List WrittenScope → Wrote (List ℕ × Option ValType)
write_case c ms = wrote_as (λ t. (c.0, t)) (write_payload (held_tree c.1) ms)

-- the primitive type that a value type is, where it is one
abbrev pub primitive_of : ValueTree → Option PrimitiveType
primitive_of (Primitive p) = Some p
primitive_of t = None
