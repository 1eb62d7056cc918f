-- Types that hold declarations as plain trees, and one declaration more.
use Rattle.std.proofs.Common.{◌≡◌, ℕ, suc, List, [], ◌∷◌, ◌++◌, length, map, Option, refl, sym, ap, ◌∙◌, Vec, Global}
use Rattle.std.proofs.lemmas.List.{map_push, length-map}
use Rattle.comp_format.specs.declared.core_types.ModuleType.{ModuleType, roll-ModuleType, fold-roll-ModuleType}
use Rattle.comp_format.specs.declared.core_types.CoreType.{CoreType, fold-roll-CoreType}
use Rattle.comp_format.specs.declared.core_types.CoreType.TheOpen as core_layer
use Rattle.comp_format.specs.declared.core_types.CoreDesc.{CoreDesc}
use Rattle.comp_format.specs.declared.core_types.ModuleDecl.{ModuleDecl, fold-roll-ModuleDecl}
use Rattle.comp_format.specs.declared.core_types.ModuleDecl.TheVariants as module_declared
use Rattle.comp_format.specs.declared.types.Alias.{Alias}
use Rattle.comp_format.specs.declared.types.TypeRef.{TypeRef}
use Rattle.comp_format.specs.declared.core_types.CoreVal.{CoreVal}
use Rattle.comp_format.specs.declared.core_types.CoreType.TheVariants as core_made
use Rattle.comp_format.specs.declared.types.DefType.TheVariants as made
use Rattle.comp_format.specs.declared.types.DefinedType.{DefinedType}
use Rattle.comp_format.specs.declared.types.FuncType.{FuncType}
use Rattle.comp_format.specs.declared.types.ComponentType.{ComponentType, roll-ComponentType, fold-roll-ComponentType}
use Rattle.comp_format.specs.declared.types.InstanceType.{InstanceType, roll-InstanceType, fold-roll-InstanceType}
use Rattle.comp_format.specs.declared.types.Decl.{Decl, fold-roll-Decl}
use Rattle.comp_format.specs.declared.types.Decl.TheVariants as declared
use Rattle.comp_format.specs.declared.types.Decl.TheOpen as layer
use Rattle.comp_format.specs.declared.types.DefType.{DefType, fold-roll-DefType}
use Rattle.comp_format.specs.CoreTypes as core
use Rattle.comp_format.specs.CoreTypes.{CoreTree, ModuleDeclTree, ModuleDecls, module_decls, module_count, with_module_decl}
use Rattle.comp_format.specs.Definitions as tree
use Rattle.comp_format.specs.Definitions.{TypeTree, DeclTree, Decls, decls_of, decl_count, with_decl}
use Rattle.comp_format.specs.Views.{core_step, module_decl_step, module_step, core_tree, module_decl_tree, module_tree, decl_step, type_step, component_step, instance_step, type_tree, decl_tree, component_type_tree, instance_type_tree}

-- ---- declarations as a list

decls_push : (ds : List DeclTree) (d : DeclTree) → decls_of (ds ++ d ∷ []) ≡ with_decl (decls_of ds) d
decls_push [] d = refl
decls_push (first ∷ ds) d = ap (tree.more first) (decls_push ds d)

decls_counted : (ds : List DeclTree) → decl_count (decls_of ds) ≡ length ds
decls_counted [] = refl
decls_counted (d ∷ ds) = ap suc (decls_counted ds)

module_push : (ds : List ModuleDeclTree) (d : ModuleDeclTree) → module_decls (ds ++ d ∷ []) ≡ with_module_decl (module_decls ds) d
module_push [] d = refl
module_push (first ∷ ds) d = ap (core.more first) (module_push ds d)

module_counted : (ds : List ModuleDeclTree) → module_count (module_decls ds) ≡ length ds
module_counted [] = refl
module_counted (d ∷ ds) = ap suc (module_counted ds)

-- ---- types of instances

pub instance_is : (t : InstanceType) → instance_type_tree t ≡ decls_of (map decl_tree t.decls.items)
instance_is t = fold-roll-InstanceType DeclTree TypeTree Decls Decls decl_step type_step component_step instance_step (record { decls = t.decls })

pub instance_counted : (t : InstanceType) → decl_count (instance_type_tree t) ≡ length t.decls.items
instance_counted t = ap decl_count (instance_is t) ∙ decls_counted (map decl_tree t.decls.items) ∙ length-map t.decls.items decl_tree

pub instance_pushed : (t : InstanceType) (v : Vec Decl Global) (d : Decl) → v.items ≡ t.decls.items ++ d ∷ [] → instance_type_tree (roll-InstanceType (record { decls = v })) ≡ with_decl (instance_type_tree t) (decl_tree d)
instance_pushed t v d e =
    instance_is (roll-InstanceType (record { decls = v })) ∙ ap (λ (ds : List Decl). decls_of (map decl_tree ds)) e ∙ ap decls_of (map_push decl_tree t.decls.items d)
    ∙ decls_push (map decl_tree t.decls.items) (decl_tree d) ∙ ap (λ (ds : Decls). with_decl ds (decl_tree d)) (sym (instance_is t))

-- ---- types of components

pub component_is : (t : ComponentType) → component_type_tree t ≡ decls_of (map decl_tree t.decls.items)
component_is t = fold-roll-ComponentType DeclTree TypeTree Decls Decls decl_step type_step component_step instance_step (record { decls = t.decls })

pub component_counted : (t : ComponentType) → decl_count (component_type_tree t) ≡ length t.decls.items
component_counted t = ap decl_count (component_is t) ∙ decls_counted (map decl_tree t.decls.items) ∙ length-map t.decls.items decl_tree

pub component_pushed : (t : ComponentType) (v : Vec Decl Global) (d : Decl) → v.items ≡ t.decls.items ++ d ∷ [] → component_type_tree (roll-ComponentType (record { decls = v })) ≡ with_decl (component_type_tree t) (decl_tree d)
component_pushed t v d e =
    component_is (roll-ComponentType (record { decls = v })) ∙ ap (λ (ds : List Decl). decls_of (map decl_tree ds)) e ∙ ap decls_of (map_push decl_tree t.decls.items d)
    ∙ decls_push (map decl_tree t.decls.items) (decl_tree d) ∙ ap (λ (ds : Decls). with_decl ds (decl_tree d)) (sym (component_is t))

-- ---- types of core modules

pub module_is : (t : ModuleType) → module_tree t ≡ module_decls (map module_decl_tree t.decls.items)
module_is t = fold-roll-ModuleType CoreTree ModuleDeclTree ModuleDecls core_step module_decl_step module_step (record { decls = t.decls })

pub modules_counted : (t : ModuleType) → module_count (module_tree t) ≡ length t.decls.items
modules_counted t = ap module_count (module_is t) ∙ module_counted (map module_decl_tree t.decls.items) ∙ length-map t.decls.items module_decl_tree

pub module_pushed : (t : ModuleType) (v : Vec ModuleDecl Global) (d : ModuleDecl) → v.items ≡ t.decls.items ++ d ∷ [] → module_tree (roll-ModuleType (record { decls = v })) ≡ with_module_decl (module_tree t) (module_decl_tree d)
module_pushed t v d e =
    module_is (roll-ModuleType (record { decls = v })) ∙ ap (λ (ds : List ModuleDecl). module_decls (map module_decl_tree ds)) e ∙ ap module_decls (map_push module_decl_tree t.decls.items d)
    ∙ module_push (map module_decl_tree t.decls.items) (module_decl_tree d) ∙ ap (λ (ds : ModuleDecls). with_module_decl ds (module_decl_tree d)) (sym (module_is t))

-- ---- declarations

pub decl_ty : (t : DefType) → decl_tree (declared.Ty t) ≡ tree.Ty (type_tree t)
decl_ty t = ap decl_tree (sym (declared.rolls-Ty t)) ∙ fold-roll-Decl DeclTree TypeTree Decls Decls decl_step type_step component_step instance_step (layer.Ty t)

pub decl_core_ty : (t : CoreType) → decl_tree (declared.CoreTy t) ≡ tree.CoreTy (core_tree t)
decl_core_ty t = ap decl_tree (sym (declared.rolls-CoreTy t)) ∙ fold-roll-Decl DeclTree TypeTree Decls Decls decl_step type_step component_step instance_step (layer.CoreTy t)

pub module_decl_core_ty : (t : CoreType) → module_decl_tree (module_declared.CoreTy t) ≡ core.CoreTy (core_tree t)
module_decl_core_ty t = ap module_decl_tree (sym (module_declared.rolls-CoreTy t)) ∙ fold-roll-ModuleDecl CoreTree ModuleDeclTree ModuleDecls core_step module_decl_step module_step (core_layer.CoreTy t)

pub decl_alias : (a : Alias) → decl_tree (declared.Alias a) ≡ tree.Aliased a
decl_alias a = ap decl_tree (sym (declared.rolls-Alias a)) ∙ fold-roll-Decl DeclTree TypeTree Decls Decls decl_step type_step component_step instance_step (layer.Alias a)

pub decl_import : (name : List ℕ) (ty : TypeRef) → decl_tree (declared.Import name ty) ≡ tree.Import name ty
decl_import name ty = ap decl_tree (sym (declared.rolls-Import name ty)) ∙ fold-roll-Decl DeclTree TypeTree Decls Decls decl_step type_step component_step instance_step (layer.Import name ty)

pub decl_export : (name : List ℕ) (ty : TypeRef) → decl_tree (declared.Export name ty) ≡ tree.Export name ty
decl_export name ty = ap decl_tree (sym (declared.rolls-Export name ty)) ∙ fold-roll-Decl DeclTree TypeTree Decls Decls decl_step type_step component_step instance_step (layer.Export name ty)

pub module_decl_alias : (count index : ℕ) → module_decl_tree (module_declared.OuterAlias count index) ≡ core.OuterAlias count index
module_decl_alias count index = ap module_decl_tree (sym (module_declared.rolls-OuterAlias count index)) ∙ fold-roll-ModuleDecl CoreTree ModuleDeclTree ModuleDecls core_step module_decl_step module_step (core_layer.OuterAlias count index)

pub module_decl_import : (m name : List ℕ) (item : CoreDesc) → module_decl_tree (module_declared.Import m name item) ≡ core.Import m name item
module_decl_import m name item = ap module_decl_tree (sym (module_declared.rolls-Import m name item)) ∙ fold-roll-ModuleDecl CoreTree ModuleDeclTree ModuleDecls core_step module_decl_step module_step (core_layer.Import m name item)

pub module_decl_export : (name : List ℕ) (item : CoreDesc) → module_decl_tree (module_declared.Export name item) ≡ core.Export name item
module_decl_export name item = ap module_decl_tree (sym (module_declared.rolls-Export name item)) ∙ fold-roll-ModuleDecl CoreTree ModuleDeclTree ModuleDecls core_step module_decl_step module_step (core_layer.Export name item)

-- ---- types

pub type_defined : (d : DefinedType) → type_tree (made.Defined d) ≡ tree.Defined d
type_defined d = ap type_tree (sym (made.rolls-Defined d)) ∙ fold-roll-DefType DeclTree TypeTree Decls Decls decl_step type_step component_step instance_step (layer.Defined d)

pub type_func : (f : FuncType) → type_tree (made.Func f) ≡ tree.Func f
type_func f = ap type_tree (sym (made.rolls-Func f)) ∙ fold-roll-DefType DeclTree TypeTree Decls Decls decl_step type_step component_step instance_step (layer.Func f)

pub type_component : (t : ComponentType) → type_tree (made.Component t) ≡ tree.Component (component_type_tree t)
type_component t = ap type_tree (sym (made.rolls-Component t)) ∙ fold-roll-DefType DeclTree TypeTree Decls Decls decl_step type_step component_step instance_step (layer.Component t)

pub type_instance : (t : InstanceType) → type_tree (made.Instance t) ≡ tree.Instance (instance_type_tree t)
type_instance t = ap type_tree (sym (made.rolls-Instance t)) ∙ fold-roll-DefType DeclTree TypeTree Decls Decls decl_step type_step component_step instance_step (layer.Instance t)

pub type_resource : (destructor : Option ℕ) → type_tree (made.Resource destructor) ≡ tree.Resource destructor
type_resource destructor = ap type_tree (sym (made.rolls-Resource destructor)) ∙ fold-roll-DefType DeclTree TypeTree Decls Decls decl_step type_step component_step instance_step (layer.Resource destructor)

pub core_func : (params results : List CoreVal) → core_tree (core_made.Func params results) ≡ core.Func params results
core_func params results = ap core_tree (sym (core_made.rolls-Func params results)) ∙ fold-roll-CoreType CoreTree ModuleDeclTree ModuleDecls core_step module_decl_step module_step (core_layer.Func params results)

pub core_module : (t : ModuleType) → core_tree (core_made.Module t) ≡ core.Module (module_tree t)
core_module t = ap core_tree (sym (core_made.rolls-Module t)) ∙ fold-roll-CoreType CoreTree ModuleDeclTree ModuleDecls core_step module_decl_step module_step (core_layer.Module t)
