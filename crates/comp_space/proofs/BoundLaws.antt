-- Laws of bounds.
use Rattle.std.specs.Prelude.{◌≡◌, ℕ, false, List, refl}
use Rattle.std.proofs.Common.{sym, ◌∙◌, ap}
use Rattle.comp_entity.specs.Entity.{Value, Resource, Func, Instance, Component, EntityTree, IsType, IsFunc, IsInstance, IsComponent, IsModule, IsOwnModule}
use Rattle.comp_entity.specs.Bounds.{depth_of}
use Rattle.comp_space.specs.Heads.{is_value_head}
use Rattle.comp_space.specs.StandingLaws.{is_value_at}
use Rattle.comp_table.specs.declared.head.Head.{Head}
use Rattle.comp_table.specs.Facts.{capped}
use Rattle.comp_table.specs.Plain.{plain_entity}
use Rattle.comp_table.specs.Trees.{PlainTree, Stands, tree_at, root}

pub no_depth : (ts : List PlainTree) (n : ℕ) (h : Head) (e : EntityTree) → h ≡ root (tree_at ts n) → Stands ts n (plain_entity e) → is_value_head h ≡ false → 0 ≡ capped (depth_of e)
no_depth ts n h (IsType (Value t)) is s v = absurd (let no = sym v ∙ ap is_value_head (is ∙ ap root s.tree_is) ∙ is_value_at t in cc)
no_depth ts n h (IsType (Resource r)) is s v = refl
no_depth ts n h (IsType (Func f)) is s v = refl
no_depth ts n h (IsType (Instance es)) is s v = refl
no_depth ts n h (IsType (Component is' es)) is s v = refl
no_depth ts n h (IsFunc f) is s v = refl
no_depth ts n h (IsInstance es) is s v = refl
no_depth ts n h (IsComponent is' es) is s v = refl
no_depth ts n h (IsModule m) is s v = refl
no_depth ts n h IsOwnModule is s v = refl
