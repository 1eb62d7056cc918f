-- Types that hold declarations as trees, by what they hold.
use Rattle.std.proofs.Common.{◌≡◌, ℕ, List, map, sym, ap, ◌∙◌}
use Rattle.comp_format.specs.declared.core_types.ModuleType.{ModuleType, fold-roll-ModuleType}
use Rattle.comp_format.specs.declared.core_types.CoreType.{fold-roll-CoreType}
use Rattle.comp_format.specs.declared.core_types.CoreType.{CoreType}
use Rattle.comp_format.specs.declared.core_types.CoreType.TheOpen as core_layer
use Rattle.comp_format.specs.declared.core_types.CoreType.TheVariants as core_made
use Rattle.comp_format.specs.declared.core_types.CoreDesc.{CoreDesc}
use Rattle.comp_format.specs.declared.core_types.CoreVal.{CoreVal}
use Rattle.comp_format.specs.declared.core_types.ModuleDecl.{fold-roll-ModuleDecl}
use Rattle.comp_format.specs.declared.core_types.ModuleDecl.TheVariants as module_declared
use Rattle.comp_format.specs.CoreTypes as core
use Rattle.comp_format.specs.CoreTypes.{CoreTree, ModuleDeclTree, ModuleDecls, module_decls}
use Rattle.comp_format.specs.Views.{core_step, module_decl_step, module_step, core_tree, module_decl_tree, module_tree}

pub core_func : (params results : List CoreVal) → core_tree (core_made.Func params results) ≡ core.Func params results
core_func params results = ap core_tree (sym (core_made.rolls-Func params results)) ∙ fold-roll-CoreType CoreTree ModuleDeclTree ModuleDecls core_step module_decl_step module_step (core_layer.Func params results)

pub core_module : (t : ModuleType) → core_tree (core_made.Module t) ≡ core.Module (module_tree t)
core_module t = ap core_tree (sym (core_made.rolls-Module t)) ∙ fold-roll-CoreType CoreTree ModuleDeclTree ModuleDecls core_step module_decl_step module_step (core_layer.Module t)

pub module_is : (t : ModuleType) → module_tree t ≡ module_decls (map module_decl_tree t.decls.items)
module_is t = fold-roll-ModuleType CoreTree ModuleDeclTree ModuleDecls core_step module_decl_step module_step (record { decls = t.decls })

pub module_decl_core_ty : (t : CoreType) → module_decl_tree (module_declared.CoreTy t) ≡ core.CoreTy (core_tree t)
module_decl_core_ty t = ap module_decl_tree (sym (module_declared.rolls-CoreTy t)) ∙ fold-roll-ModuleDecl CoreTree ModuleDeclTree ModuleDecls core_step module_decl_step module_step (core_layer.CoreTy t)

pub module_decl_alias : (count index : ℕ) → module_decl_tree (module_declared.OuterAlias count index) ≡ core.OuterAlias count index
module_decl_alias count index = ap module_decl_tree (sym (module_declared.rolls-OuterAlias count index)) ∙ fold-roll-ModuleDecl CoreTree ModuleDeclTree ModuleDecls core_step module_decl_step module_step (core_layer.OuterAlias count index)

pub module_decl_import : (m name : List ℕ) (item : CoreDesc) → module_decl_tree (module_declared.Import m name item) ≡ core.Import m name item
module_decl_import m name item = ap module_decl_tree (sym (module_declared.rolls-Import m name item)) ∙ fold-roll-ModuleDecl CoreTree ModuleDeclTree ModuleDecls core_step module_decl_step module_step (core_layer.Import m name item)

pub module_decl_export : (name : List ℕ) (item : CoreDesc) → module_decl_tree (module_declared.Export name item) ≡ core.Export name item
module_decl_export name item = ap module_decl_tree (sym (module_declared.rolls-Export name item)) ∙ fold-roll-ModuleDecl CoreTree ModuleDeclTree ModuleDecls core_step module_decl_step module_step (core_layer.Export name item)
