-- Types that hold declarations as plain trees.
use Rattle.std.proofs.Common.{◌≡◌, map, sym, ap, ◌∙◌, Vec, Global}
use Rattle.comp_format.specs.declared.core_types.CoreType.{fold-roll-CoreType}
use Rattle.comp_format.specs.declared.core_types.CoreType.TheVariants as core_made
use Rattle.comp_format.specs.declared.core_types.CoreType.TheOpen as core_layer
use Rattle.comp_format.specs.declared.core_types.ModuleType.{ModuleType, roll-ModuleType, fold-roll-ModuleType}
use Rattle.comp_format.specs.declared.types.DefType.{fold-roll-DefType}
use Rattle.comp_format.specs.declared.types.DefType.TheVariants as made
use Rattle.comp_format.specs.declared.types.Decl.TheOpen as layer
use Rattle.comp_format.specs.declared.types.ComponentType.{ComponentType, roll-ComponentType, fold-roll-ComponentType}
use Rattle.comp_format.specs.declared.types.InstanceType.{InstanceType, roll-InstanceType, fold-roll-InstanceType}
use Rattle.comp_format.specs.declared.core_types.ModuleDecl.{ModuleDecl}
use Rattle.comp_format.specs.declared.types.Decl.{Decl}
use Rattle.comp_format.specs.declared.types.FuncType.{FuncType}
use Rattle.comp_format.specs.declared.types.DefinedType.{DefinedType}
use Rattle.comp_format.specs.CoreTypes as core
use Rattle.comp_format.specs.CoreTypes.{CoreTree, ModuleDeclTree, ModuleDecls, module_decls}
use Rattle.comp_format.specs.Definitions as tree
use Rattle.comp_format.specs.Definitions.{TypeTree, DeclTree, Decls, decls_of}
use Rattle.comp_format.specs.Views.{core_step, module_decl_step, module_step, core_tree, module_decl_tree, decl_step, type_step, component_step, instance_step, type_tree, decl_tree}

pub tree_module : (v : Vec ModuleDecl Global) → core_tree (core_made.Module (roll-ModuleType (record { decls = v }))) ≡ core.Module (module_decls (map module_decl_tree v.items))
tree_module v =
    let ds : ModuleType = roll-ModuleType (record { decls = v }) in
    ap core_tree (sym (core_made.rolls-Module ds)) ∙ fold-roll-CoreType CoreTree ModuleDeclTree ModuleDecls core_step module_decl_step module_step (core_layer.Module ds)
    ∙ ap core.Module (fold-roll-ModuleType CoreTree ModuleDeclTree ModuleDecls core_step module_decl_step module_step (record { decls = v }))

pub tree_component : (v : Vec Decl Global) → type_tree (made.Component (roll-ComponentType (record { decls = v }))) ≡ tree.Component (decls_of (map decl_tree v.items))
tree_component v =
    let ds : ComponentType = roll-ComponentType (record { decls = v }) in
    ap type_tree (sym (made.rolls-Component ds)) ∙ fold-roll-DefType DeclTree TypeTree Decls Decls decl_step type_step component_step instance_step (layer.Component ds)
    ∙ ap tree.Component (fold-roll-ComponentType DeclTree TypeTree Decls Decls decl_step type_step component_step instance_step (record { decls = v }))

pub tree_instance : (v : Vec Decl Global) → type_tree (made.Instance (roll-InstanceType (record { decls = v }))) ≡ tree.Instance (decls_of (map decl_tree v.items))
tree_instance v =
    let ds : InstanceType = roll-InstanceType (record { decls = v }) in
    ap type_tree (sym (made.rolls-Instance ds)) ∙ fold-roll-DefType DeclTree TypeTree Decls Decls decl_step type_step component_step instance_step (layer.Instance ds)
    ∙ ap tree.Instance (fold-roll-InstanceType DeclTree TypeTree Decls Decls decl_step type_step component_step instance_step (record { decls = v }))

pub tree_func : (f : FuncType) → type_tree (made.Func f) ≡ tree.Func f
tree_func f = ap type_tree (sym (made.rolls-Func f)) ∙ fold-roll-DefType DeclTree TypeTree Decls Decls decl_step type_step component_step instance_step (layer.Func f)

pub tree_defined : (d : DefinedType) → type_tree (made.Defined d) ≡ tree.Defined d
tree_defined d = ap type_tree (sym (made.rolls-Defined d)) ∙ fold-roll-DefType DeclTree TypeTree Decls Decls decl_step type_step component_step instance_step (layer.Defined d)
