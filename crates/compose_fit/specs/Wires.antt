-- What wires join: what an import of an instance asks for, and what the wire into it gives.
use Rattle.std.specs.Prelude.{◌≡◌, ℕ, List, Option, Some, None, option_map, option_and_then, slice_get}
use Rattle.comp_entity.specs.Entity.{EntityTree, Entries, ShapeTree}
use Rattle.comp_entity.specs.Views.{entries_of}
use Rattle.compose_left.specs.declared.wiring.Wire.{Wire}
use Rattle.compose_left.specs.Wiring.{Wiring, wire_into}

-- an instance as a whole, by its exports, or one of its exports, with its name
pub data Given : Type 0 where
  Whole : Entries → Given
  Export : List ℕ → EntityTree → Given

abbrev pub given_of : ShapeTree → Option ℕ → Option Given
given_of s None = Some (Whole (entries_of s.exports))
given_of s (Some e) = option_map (λ (x : List ℕ × EntityTree). Export x.0 x.1) (slice_get s.exports e)

-- what a wire gives, where it is there
abbrev pub given_by : List ShapeTree → Wire → Option Given
given_by shapes wire = option_and_then (λ s. given_of s wire.export) (slice_get shapes wire.source)

-- the name of an import, and what it asks for, where it is there
abbrev pub asked_at : List ShapeTree → ℕ → ℕ → Option (List ℕ × EntityTree)
asked_at shapes target import = option_and_then (λ (s : ShapeTree). slice_get s.imports import) (slice_get shapes target)

-- a wire into this import of this instance
pub record Joined (w : Wiring) (target import : ℕ) : Type 0 where
  pub wire : Wire
  pub name : List ℕ
  pub asked : EntityTree
  pub given : Given
  pub wired : wire_into w.wires target import ≡ Some wire
  pub asks : asked_at w.shapes target import ≡ Some (name, asked)
  pub gives : given_by w.shapes wire ≡ Some given
