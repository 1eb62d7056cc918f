-- Types as plain trees.
use Rattle.comp_format.specs.declared.core_types.CoreType.{CoreType, CoreType-F, fold-CoreType}
use Rattle.comp_format.specs.declared.core_types.CoreType.TheOpen as core_layer
use Rattle.comp_format.specs.declared.core_types.ModuleDecl.{ModuleDecl, ModuleDecl-F, fold-ModuleDecl}
use Rattle.comp_format.specs.declared.core_types.ModuleType.{ModuleType, ModuleType-F, fold-ModuleType}
use Rattle.comp_format.specs.declared.types.DefType.{DefType, DefType-F, fold-DefType}
use Rattle.comp_format.specs.declared.types.Decl.TheOpen as layer
use Rattle.comp_format.specs.declared.types.Decl.{Decl, Decl-F, fold-Decl}
use Rattle.comp_format.specs.declared.types.ComponentType.{ComponentType, ComponentType-F, fold-ComponentType}
use Rattle.comp_format.specs.declared.types.InstanceType.{InstanceType, InstanceType-F, fold-InstanceType}
use Rattle.comp_format.specs.CoreTypes as core
use Rattle.comp_format.specs.CoreTypes.{CoreTree, ModuleDeclTree, ModuleDecls, module_decls}
use Rattle.comp_format.specs.Definitions as tree
use Rattle.comp_format.specs.Definitions.{TypeTree, DeclTree, Decls, decls_of}

abbrev pub core_step : CoreType-F CoreTree ModuleDeclTree ModuleDecls → CoreTree
core_step (core_layer.Func params results) = core.Func params results
core_step (core_layer.Module ds) = core.Module ds

abbrev pub module_decl_step : ModuleDecl-F CoreTree ModuleDeclTree ModuleDecls → ModuleDeclTree
module_decl_step (core_layer.Import m name item) = core.Import m name item
module_decl_step (core_layer.CoreTy t) = core.CoreTy t
module_decl_step (core_layer.OuterAlias count index) = core.OuterAlias count index
module_decl_step (core_layer.Export name item) = core.Export name item

abbrev pub module_step : ModuleType-F CoreTree ModuleDeclTree ModuleDecls → ModuleDecls
module_step f = module_decls f.decls.items

abbrev pub core_tree : CoreType → CoreTree
core_tree = fold-CoreType CoreTree ModuleDeclTree ModuleDecls core_step module_decl_step module_step

abbrev pub module_decl_tree : ModuleDecl → ModuleDeclTree
module_decl_tree = fold-ModuleDecl CoreTree ModuleDeclTree ModuleDecls core_step module_decl_step module_step

abbrev pub module_tree : ModuleType → ModuleDecls
module_tree = fold-ModuleType CoreTree ModuleDeclTree ModuleDecls core_step module_decl_step module_step

abbrev pub decl_step : Decl-F DeclTree TypeTree Decls Decls → DeclTree
decl_step (layer.CoreTy t) = tree.CoreTy (core_tree t)
decl_step (layer.Ty t) = tree.Ty t
decl_step (layer.Alias a) = tree.Aliased a
decl_step (layer.Import name ty) = tree.Import name ty
decl_step (layer.Export name ty) = tree.Export name ty

abbrev pub type_step : DefType-F DeclTree TypeTree Decls Decls → TypeTree
type_step (layer.Defined d) = tree.Defined d
type_step (layer.Func f) = tree.Func f
type_step (layer.Component ds) = tree.Component ds
type_step (layer.Instance ds) = tree.Instance ds
type_step (layer.Resource destructor) = tree.Resource destructor

abbrev pub component_step : ComponentType-F DeclTree TypeTree Decls Decls → Decls
component_step f = decls_of f.decls.items

abbrev pub instance_step : InstanceType-F DeclTree TypeTree Decls Decls → Decls
instance_step f = decls_of f.decls.items

abbrev pub type_tree : DefType → TypeTree
type_tree = fold-DefType DeclTree TypeTree Decls Decls decl_step type_step component_step instance_step

abbrev pub decl_tree : Decl → DeclTree
decl_tree = fold-Decl DeclTree TypeTree Decls Decls decl_step type_step component_step instance_step

abbrev pub component_type_tree : ComponentType → Decls
component_type_tree = fold-ComponentType DeclTree TypeTree Decls Decls decl_step type_step component_step instance_step

abbrev pub instance_type_tree : InstanceType → Decls
instance_type_tree = fold-InstanceType DeclTree TypeTree Decls Decls decl_step type_step component_step instance_step
