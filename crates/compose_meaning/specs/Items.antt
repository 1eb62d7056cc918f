-- The declarations of the outermost scope, as items of a component.
use Rattle.std.specs.Prelude.{List, [], ◌∷◌}
use Rattle.comp_format.specs.Definitions as tree
use Rattle.comp_format.specs.Definitions.{Decls}
use Rattle.comp_format.specs.Items.{ItemTree, CoreTy, Ty, Aliased, Import}
use Rattle.comp_scope.specs.Shape.{Parts, nothing, in_front_of}

-- exports of the outermost scope are no declarations: it has none
abbrev pub items_for : Decls → List ItemTree
items_for tree.none = []
items_for (tree.more (tree.CoreTy t) ds) = CoreTy t ∷ items_for ds
items_for (tree.more (tree.Ty t) ds) = Ty t ∷ items_for ds
items_for (tree.more (tree.Aliased a) ds) = Aliased a ∷ items_for ds
items_for (tree.more (tree.Import name ty) ds) = Import (record { name = name; ty = ty }) ∷ items_for ds
items_for (tree.more (tree.Export name ty) ds) = items_for ds

abbrev pub parts_for : Decls → Parts
parts_for ds = in_front_of (items_for ds) nothing
