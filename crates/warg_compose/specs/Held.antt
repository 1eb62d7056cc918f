-- The components of a plan as they lie in memory.
use Rattle.std.specs.Prelude.{◌≡◌, ℕ, Bool, true, false, List, [], ◌∷◌, ◌++◌, map, bytes_eq}
use Rattle.std.specs.Borrow.{Bor}
use Rattle.std.specs.List.{list_any, position_or_len}
use Rattle.indexmap.specs.IndexMap.{keys}
use Rattle.comp_entity.specs.Entity.{ShapeTree}
use Rattle.comp_shape.specs.Shape.{HasShape}
use Rattle.compose_check.specs.Composition.{ComponentTree}
use Rattle.compose_component.specs.Component.{bytes_of, name_of, shape_of}
use Rattle.compose_component.specs.declared.component.Component.{Component}
use Rattle.warg_plan.specs.Walk.{Entry}
use Rattle.warg_plan.specs.declared.plan.PlanEntry.{PlanEntry}
use Rattle.warg_compose.specs.Composed.{AreComponentsOf, named_content, release_name, release_place, releases}
use Rattle.warg_compose.specs.declared.releases.Releases.{Releases}

abbrev pub held_component : Component → ComponentTree
held_component c = record { name = name_of c; bytes = bytes_of c; shape = shape_of c }

-- a component is that of a content, under a name
pub record IsHeldOf (name content : List ℕ) (c : Component) : Type 0 where
  pub named : name_of c ≡ name
  pub bytes : bytes_of c ≡ content
  pub has_shape : HasShape content (shape_of c)

-- the content of an entry is a component
abbrev pub HasComponent : PlanEntry → Type 0
HasComponent e = (tree : ShapeTree) × HasShape e.content.items tree

-- a content by its name, as it is lent
abbrev pub lent_content : List ℕ × Bor (List ℕ) → List ℕ × List ℕ
lent_content c = (c.0, c.1.now)

-- The contents of the releases of some entries by the names of these, their components, and for each entry the place of its
-- release.
pub record AreReleases (r : Releases) (es : List Entry) : Type 0 where
  pub contents : map lent_content r.contents.entries ≡ map named_content (releases es)
  pub components : AreComponentsOf (releases es) (map held_component r.components.items)
  pub instances : r.instances.items ≡ map (release_place es) es

-- The component of a content stands behind others under a name.
pub record IsNew (name content : List ℕ) (old new : List Component) : Type 0 where
  pub component : Component
  pub held : IsHeldOf name content component
  pub added : new ≡ old ++ component ∷ []

-- a release of this name is there
abbrev pub is_known : Releases → List ℕ → Bool
is_known r name = list_any (bytes_eq name) (keys r.contents)

-- the place of a name among those of releases, and behind them where it is not there
abbrev pub number_of : Releases → List ℕ → ℕ
number_of r name = position_or_len (bytes_eq name) (keys r.contents)

-- A release stands behind others: its content under its name, and the component of that.
pub record IsWithRelease (name content : List ℕ) (old new : Releases) : Type 0 where
  pub contents : map lent_content new.contents.entries ≡ map lent_content old.contents.entries ++ (name, content) ∷ []
  pub component : IsNew name content old.components.items new.components.items
  pub instances : new.instances ≡ old.instances

-- the release of an entry is there: it was, or it is added
pub record HasRelease (e : Entry) (old new : Releases) : Type 0 where
  pub kept : is_known old (release_name e) ≡ true → new ≡ old
  pub added : is_known old (release_name e) ≡ false → IsWithRelease (release_name e) e.content old new
