-- What is written into a scope, as declarations, and the items of a component that are declarations.
use Rattle.std.specs.Prelude.{◌≡◌, true, false, List, [], ◌∷◌}
use Rattle.comp_format.specs.Forms.{AreDecls}
use Rattle.comp_format.specs.Definitions as tree
use Rattle.comp_format.specs.Definitions.{Decls}
use Rattle.comp_format.specs.Items.{CoreTy, Aliased, Ty, Import}
use Rattle.comp_format.specs.Views.{instance_type_tree, component_type_tree}
use Rattle.comp_encoder.specs.Builder.{entries_of}
use Rattle.comp_encoder.specs.Writing.{Entry, Single}
use Rattle.compose_types.specs.declared.body.Scope.{Scope}
use Rattle.compose_types.specs.declared.body.Scope.TheVariants as kind
use Rattle.compose_types.specs.declared.body.Items.{Items}
use Rattle.compose_types.specs.declared.body.Items.TheVariants as items

-- The declarations of a scope without exports, as what is added to a component.
abbrev pub entries_for : Decls → List Entry
entries_for tree.none = []
entries_for (tree.more (tree.CoreTy t) ds) = Single (CoreTy t) ∷ entries_for ds
entries_for (tree.more (tree.Ty t) ds) = Single (Ty t) ∷ entries_for ds
entries_for (tree.more (tree.Aliased a) ds) = Single (Aliased a) ∷ entries_for ds
entries_for (tree.more (tree.Import name ty) ds) = Single (Import (record { name = name; ty = ty })) ∷ entries_for ds
entries_for (tree.more (tree.Export name ty) ds) = entries_for ds

-- and back
abbrev pub before_entry : Entry → Decls → Decls
before_entry (Single (CoreTy t)) ds = tree.more (tree.CoreTy t) ds
before_entry (Single (Ty t)) ds = tree.more (tree.Ty t) ds
before_entry (Single (Aliased a)) ds = tree.more (tree.Aliased a) ds
before_entry (Single (Import i)) ds = tree.more (tree.Import i.name i.ty) ds
before_entry _ ds = ds

abbrev pub decls_in : List Entry → Decls
decls_in [] = tree.none
decls_in (e ∷ es) = before_entry e (decls_in es)

-- what is written into a scope, and the scope's kind
abbrev pub declared : Items → Decls
declared (items.OfBuilder b) = decls_in (entries_of b)
declared (items.OfInstance t) = instance_type_tree t
declared (items.OfComponent t) = component_type_tree t

abbrev pub kind_in : Items → Scope
kind_in (items.OfBuilder b) = kind.Builder
kind_in (items.OfInstance t) = kind.Instance
kind_in (items.OfComponent t) = kind.Component

-- declarations that may stand where they do
abbrev pub AreWritten : Items → Type 0
AreWritten (items.OfBuilder b) = entries_of b ≡ entries_for (decls_in (entries_of b))
AreWritten (items.OfInstance t) = AreDecls false (instance_type_tree t)
AreWritten (items.OfComponent t) = AreDecls true (component_type_tree t)
