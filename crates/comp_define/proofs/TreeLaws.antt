-- Types that hold declarations as trees, by what they hold.
use Rattle.std.proofs.Common.{◌≡◌, ℕ, List, map, Option, sym, ap, ◌∙◌}
use Rattle.comp_format.specs.declared.core_types.CoreType.{CoreType}
use Rattle.comp_format.specs.declared.types.Alias.{Alias}
use Rattle.comp_format.specs.declared.types.ComponentType.{ComponentType, fold-roll-ComponentType}
use Rattle.comp_format.specs.declared.types.Decl.{fold-roll-Decl}
use Rattle.comp_format.specs.declared.types.Decl.TheOpen as layer
use Rattle.comp_format.specs.declared.types.Decl.TheVariants as declared
use Rattle.comp_format.specs.declared.types.DefinedType.{DefinedType}
use Rattle.comp_format.specs.declared.types.DefType.{DefType, fold-roll-DefType}
use Rattle.comp_format.specs.declared.types.DefType.TheVariants as defined
use Rattle.comp_format.specs.declared.types.FuncType.{FuncType}
use Rattle.comp_format.specs.declared.types.InstanceType.{InstanceType, fold-roll-InstanceType}
use Rattle.comp_format.specs.declared.types.TypeRef.{TypeRef}
use Rattle.comp_format.specs.Definitions as tree
use Rattle.comp_format.specs.Definitions.{TypeTree, DeclTree, Decls, decls_of}
use Rattle.comp_format.specs.Views.{core_tree, decl_step, type_step, component_step, instance_step, type_tree, decl_tree, component_type_tree, instance_type_tree}

pub component_is : (t : ComponentType) → component_type_tree t ≡ decls_of (map decl_tree t.decls.items)
component_is t = fold-roll-ComponentType DeclTree TypeTree Decls Decls decl_step type_step component_step instance_step (record { decls = t.decls })

pub instance_is : (t : InstanceType) → instance_type_tree t ≡ decls_of (map decl_tree t.decls.items)
instance_is t = fold-roll-InstanceType DeclTree TypeTree Decls Decls decl_step type_step component_step instance_step (record { decls = t.decls })

pub type_defined : (d : DefinedType) → type_tree (defined.Defined d) ≡ tree.Defined d
type_defined d = ap type_tree (sym (defined.rolls-Defined d)) ∙ fold-roll-DefType DeclTree TypeTree Decls Decls decl_step type_step component_step instance_step (layer.Defined d)

pub type_func : (f : FuncType) → type_tree (defined.Func f) ≡ tree.Func f
type_func f = ap type_tree (sym (defined.rolls-Func f)) ∙ fold-roll-DefType DeclTree TypeTree Decls Decls decl_step type_step component_step instance_step (layer.Func f)

pub type_component : (t : ComponentType) → type_tree (defined.Component t) ≡ tree.Component (component_type_tree t)
type_component t = ap type_tree (sym (defined.rolls-Component t)) ∙ fold-roll-DefType DeclTree TypeTree Decls Decls decl_step type_step component_step instance_step (layer.Component t)

pub type_instance : (t : InstanceType) → type_tree (defined.Instance t) ≡ tree.Instance (instance_type_tree t)
type_instance t = ap type_tree (sym (defined.rolls-Instance t)) ∙ fold-roll-DefType DeclTree TypeTree Decls Decls decl_step type_step component_step instance_step (layer.Instance t)

pub type_resource : (destructor : Option ℕ) → type_tree (defined.Resource destructor) ≡ tree.Resource destructor
type_resource destructor = ap type_tree (sym (defined.rolls-Resource destructor)) ∙ fold-roll-DefType DeclTree TypeTree Decls Decls decl_step type_step component_step instance_step (layer.Resource destructor)

pub decl_ty : (t : DefType) → decl_tree (declared.Ty t) ≡ tree.Ty (type_tree t)
decl_ty t = ap decl_tree (sym (declared.rolls-Ty t)) ∙ fold-roll-Decl DeclTree TypeTree Decls Decls decl_step type_step component_step instance_step (layer.Ty t)

pub decl_core_ty : (t : CoreType) → decl_tree (declared.CoreTy t) ≡ tree.CoreTy (core_tree t)
decl_core_ty t = ap decl_tree (sym (declared.rolls-CoreTy t)) ∙ fold-roll-Decl DeclTree TypeTree Decls Decls decl_step type_step component_step instance_step (layer.CoreTy t)

pub decl_alias : (a : Alias) → decl_tree (declared.Alias a) ≡ tree.Aliased a
decl_alias a = ap decl_tree (sym (declared.rolls-Alias a)) ∙ fold-roll-Decl DeclTree TypeTree Decls Decls decl_step type_step component_step instance_step (layer.Alias a)

pub decl_import : (name : List ℕ) (ty : TypeRef) → decl_tree (declared.Import name ty) ≡ tree.Import name ty
decl_import name ty = ap decl_tree (sym (declared.rolls-Import name ty)) ∙ fold-roll-Decl DeclTree TypeTree Decls Decls decl_step type_step component_step instance_step (layer.Import name ty)

pub decl_export : (name : List ℕ) (ty : TypeRef) → decl_tree (declared.Export name ty) ≡ tree.Export name ty
decl_export name ty = ap decl_tree (sym (declared.rolls-Export name ty)) ∙ fold-roll-Decl DeclTree TypeTree Decls Decls decl_step type_step component_step instance_step (layer.Export name ty)
