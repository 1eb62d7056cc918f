-- The composition of a plan: a component for each release, an instance for each entry, and the wires between the instances
-- (Component Model, Explainer.md, "Instance Definitions").
use Rattle.std.specs.Prelude.{◌≡◌, ℕ, suc, List, [], ◌∷◌, ◌++◌, map, bytes_eq, length, Option, Some, None, if◌then◌else◌}
use Rattle.std.specs.List.{fold, position_or_len}
use Rattle.std.specs.Map.{lookup}
use Rattle.compose_left.specs.declared.wiring.Wire.{Wire}
use Rattle.compose_check.specs.Composition.{ComponentTree, CompositionTree}
use Rattle.comp_shape.specs.Shape.{HasShape}
use Rattle.compose_config.specs.Arguments.{is_among}
use Rattle.warg_names.specs.Texts.{locked_text}
use Rattle.warg_plan.specs.Walk.{Arg, Left, OfEntry, Entry}

-- ---- releases

-- the name of the release of an entry: that of a locked package, with the version and the digest
abbrev pub release_name : Entry → List ℕ
release_name e = locked_text e.name e.version e.digest

abbrev pub release_names : List Entry → List (List ℕ)
release_names es = map release_name es

abbrev pub with_release : List Entry → Entry → List Entry
with_release rs e = if is_among (release_names rs) (release_name e) then rs else rs ++ e ∷ []

-- the first entry of each release, in order
unfoldable pub releases : List Entry → List Entry
releases es = fold with_release [] es

-- the place of the release of an entry among those of a plan
abbrev pub release_place : List Entry → Entry → ℕ
release_place es e = position_or_len (bytes_eq (release_name e)) (release_names (releases es))

-- ---- contents

-- the content of a release, under its name
abbrev pub named_content : Entry → List ℕ × List ℕ
named_content e = (release_name e, e.content)

-- the content of the release of a name, where a plan has one
abbrev pub content_of : List Entry → List ℕ → Option (List ℕ)
content_of es name = lookup (bytes_eq name) (map named_content (releases es))

-- ---- components

-- a component is the content of an entry, under the name of its release
pub record IsComponentOf (e : Entry) (c : ComponentTree) : Type 0 where
  pub named : c.name ≡ release_name e
  pub bytes : c.bytes ≡ e.content
  pub has_shape : HasShape e.content c.shape

-- one component for each of some entries, in order
abbrev pub AreComponentsOf : List Entry → List ComponentTree → Type 0
AreComponentsOf [] [] = Unit {0}
AreComponentsOf (e ∷ es) (c ∷ cs) = IsComponentOf e c × AreComponentsOf es cs
AreComponentsOf _ _ = ⊥

-- ---- wires

-- an argument that is an entry is the whole instance of that
abbrev pub wire_to : ℕ → ℕ → Arg → List Wire
wire_to target import Left = []
wire_to target import (OfEntry source) = (record { target = target; import = import; source = source; export = None }) ∷ []

-- the wires into the imports of an instance, from this import on
abbrev pub wires_to : ℕ → ℕ → List (List ℕ × Arg) → List Wire
wires_to target import [] = []
wires_to target import (a ∷ args) = wire_to target import a.1 ++ wires_to target (suc import) args

-- the wires into instances, from this one on
abbrev pub wires_from : ℕ → List Entry → List Wire
wires_from target [] = []
wires_from target (e ∷ es) = wires_to target 0 e.arguments ++ wires_from (suc target) es

-- ---- the composition

-- One component for each release, in the order of first use; one instance for each entry, in order, of the component of its
-- release; and a wire for each argument that is an entry.
pub record IsComposed (es : List Entry) (c : CompositionTree) : Type 0 where
  pub components : AreComponentsOf (releases es) c.components
  pub instances : c.instances ≡ map (release_place es) es
  pub wires : c.wires ≡ wires_from 0 es

-- the instance of the root, which is the last entry
abbrev pub root_of : List Entry → Option ℕ
root_of [] = None
root_of (e ∷ es) = Some (length es)
