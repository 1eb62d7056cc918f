-- What is asked of shapes and wires, so that a place that names a type has an origin of its own (Component Model,
-- Explainer.md, "Import and Export Definitions": the names of imports, and of exports, are unique).
use Rattle.std.specs.Prelude.{◌≡◌, ℕ, suc, true, List, Some}
use Rattle.std.specs.List.{AllByRecursion}
use Rattle.comp_entity.specs.Entity.{brought, EntityTree, IsInstance, Entries, no_entry, entry, ShapeTree}
use Rattle.comp_entity.specs.Names.{Mention, OfResource, OfPlace, in_entity}
use Rattle.comp_entity.specs.Views.{entries_of}
use Rattle.comp_coherence.specs.Coherence.{IsCoherent}
use Rattle.compose_left.specs.declared.wiring.Wire.{Wire}
use Rattle.compose_left.specs.declared.spots.Spot.{Spot}
use Rattle.compose_left.specs.declared.spots.Thing.{Thing}
use Rattle.compose_left.specs.Merging.{is_absent}
use Rattle.compose_left.specs.Origins.{brought_at}
use Rattle.compose_left.specs.Spots.{named_type}
use Rattle.compose_left.specs.Wiring.{Wiring, wire_into}
use Rattle.compose_fit.specs.Wires.{Given, given_by}

-- no two exports of an instance have one name, nor of an instance in it
abbrev mutual
  pub HasOwnNames : EntityTree → Type 0
  HasOwnNames (IsInstance es) = HaveOwnNames es
  HasOwnNames _ = Unit {0}

  pub HaveOwnNames : Entries → Type 0
  HaveOwnNames no_entry = Unit {0}
  HaveOwnNames (entry name e mark es) = (is_absent name es ≡ true) × HasOwnNames e × HaveOwnNames es

-- the imports of a shape bring a thing
abbrev pub ImportsBring : ShapeTree → Thing → Type 0
ImportsBring s t = (spot : Spot) × (brought_at s t ≡ Some spot)

-- a place that is mentioned so many scopes deep within an entity, if it is said to be brought, is brought
abbrev pub BringsMention : ShapeTree → ℕ × Mention → Type 0
BringsMention s (depth, OfResource r) = Unit {0}
BringsMention s (depth, OfPlace n) = n.out ≡ suc depth → ImportsBring s (named_type (brought n.number))

abbrev pub BringsAll : ShapeTree → List (List ℕ × EntityTree) → Type 0
BringsAll s es = AllByRecursion (λ (e : List ℕ × EntityTree). AllByRecursion (BringsMention s) (in_entity 0 e.1)) es

-- A shape in which one name stands for one type, of which imports bring the places that it mentions as brought, and in
-- which names differ.
pub record IsWellNamed (s : ShapeTree) : Type 0 where
  pub coherent : IsCoherent s
  pub imports_brought : BringsAll s s.imports
  pub exports_brought : BringsAll s s.exports
  pub imports_apart : AllByRecursion (λ (e : List ℕ × EntityTree). HasOwnNames e.1) s.imports
  pub exports_apart : HaveOwnNames (entries_of s.exports)

-- each wire comes from what is there: an instance, or an export of one
abbrev pub WiresBegin : Wiring → Type 0
WiresBegin w = (target import : ℕ) (wire : Wire) → wire_into w.wires target import ≡ Some wire
    → (given : Given) × (given_by w.shapes wire ≡ Some given)
