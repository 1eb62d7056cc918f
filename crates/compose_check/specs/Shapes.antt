-- The shapes of components by numbers of a table.
use Rattle.std.specs.Prelude.{List, [], ◌∷◌}
use Rattle.std.specs.Borrow.{Bor}
use Rattle.comp_entity.specs.Entity.{ShapeTree}
use Rattle.comp_table.specs.Trees.{PlainTree}
use Rattle.compose_component.specs.declared.component.Component.{Component}
use Rattle.compose_component.specs.Component.{shape_of}
use Rattle.compose_fit.specs.Seen.{IsNumbered}
use Rattle.compose_fit.specs.declared.numbered.ShapeNumbers.{ShapeNumbers}

-- a component that is lent, by its shape
abbrev pub lent_shape_tree : Bor Component → ShapeTree
lent_shape_tree c = shape_of c.now

-- the numbers are those of these shapes
abbrev pub AreNumbered : List PlainTree → List ShapeNumbers → List ShapeTree → Type 0
AreNumbered ts [] [] = Unit {0}
AreNumbered ts (n ∷ ns) (s ∷ ss) = IsNumbered ts n s × AreNumbered ts ns ss
AreNumbered ts [] (s ∷ ss) = ⊥
AreNumbered ts (n ∷ ns) [] = ⊥
