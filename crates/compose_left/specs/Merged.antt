-- What merged imports are in code.
use Rattle.std.specs.Prelude.{◌≡◌, ℕ, suc, Bool, true, false, filter, is_none, List, [], ◌∷◌, Option, Some, None, option_map, if◌then◌else◌}
use Rattle.std.specs.BTreeMap.{BTreeMap, get}
use Rattle.std.specs.Cmp.Lexicographic.{slice_cmp}
use Rattle.std.specs.Ordering.{nat_cmp}
use Rattle.std.specs.declared.cmp.Ordering.{Ordering}
use Rattle.std.specs.Str.{bytes_eq}
use Rattle.warg_values.specs.declared.text.Text.{Text}
use Rattle.comp_entity.specs.Entity.{EntityTree, IsInstance}
use Rattle.comp_entity.specs.declared.entity.Entity.{Entity}
use Rattle.comp_entity.specs.Views.{entity_tree, entries_of, named_entities}
use Rattle.compose_left.specs.declared.merge.MergedImport.{MergedImport}
use Rattle.compose_left.specs.declared.spots.Spot.{Spot}

-- an entity under a name, and some
abbrev pub NamedEntity : Type 0
NamedEntity = List ℕ × EntityTree

abbrev pub Named : Type 0
Named = List NamedEntity

abbrev pub is_instance : EntityTree → Bool
is_instance (IsInstance es) = true
is_instance e = false

abbrev pub name_cmp : List ℕ → List ℕ → Ordering
name_cmp = slice_cmp nat_cmp

-- the place of the first export of a name
abbrev pub name_place : List ℕ → List (List ℕ × EntityTree) → Option ℕ
name_place name [] = None
name_place name (e ∷ es) = if bytes_eq name e.0 then Some 0 else option_map suc (name_place name es)

abbrev pub FindsNames : BTreeMap Text ℕ → List (List ℕ × EntityTree) → Type 0
FindsNames names es = (name : List ℕ) → get name_cmp names name ≡ name_place name es

abbrev pub import_name : MergedImport → List ℕ
import_name m = m.name

-- the entity that is written for a left import
abbrev pub merged_of : Option Entity → List (List ℕ × EntityTree) → EntityTree
merged_of None es = IsInstance (entries_of es)
merged_of (Some e) es = entity_tree e

abbrev pub merged : MergedImport → EntityTree
merged m = merged_of m.other (named_entities m.exports.items)

-- what those that need a left import name as resources and as types, in the order in which they were merged
abbrev pub calls : MergedImport → List Spot
calls m = m.called.items

-- the exports are found by their names
abbrev pub IsOther : Option Entity → Type 0
IsOther None = Unit {0}
IsOther (Some e) = is_instance (entity_tree e) ≡ false

pub record IsMerged (m : MergedImport) : Type 0 where
  pub names : FindsNames m.names (named_entities m.exports.items)
  pub other : IsOther m.other

abbrev pub Bytes : Type 0
Bytes = List ℕ

-- a disagreement about an import of this name, where needs do not agree
pub record IsDisagreement (name told : Bytes) (agrees : Bool) : Type 0 where
  pub named : told ≡ name
  pub differ : agrees ≡ false

-- those exports whose names others have not
abbrev pub absent_from : List (List ℕ × EntityTree) → List (List ℕ × EntityTree) → List (List ℕ × EntityTree)
absent_from es fs = filter (λ (f : List ℕ × EntityTree). is_none (name_place f.0 es)) fs

abbrev pub if_absent : Option ℕ → NamedEntity → Named
if_absent place e = if is_none place then e ∷ [] else []
