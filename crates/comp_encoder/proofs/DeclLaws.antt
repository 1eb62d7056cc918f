-- Declarations as bytes, and one declaration more.
use Rattle.std.proofs.Common.{◌≡◌, ℕ, max, List, [], ◌∷◌, ◌++◌, length, map, sym, ap, ◌∙◌, append_assoc, arith}
use Rattle.std.proofs.lemmas.List.{append-nil}
use Rattle.comp_format.specs.declared.types.ComponentType.{ComponentType}
use Rattle.comp_format.specs.declared.types.InstanceType.{InstanceType}
use Rattle.comp_format.specs.declared.core_types.ModuleType.{ModuleType}
use Rattle.comp_format.specs.Numbers.{number_text}
use Rattle.comp_format.specs.CoreTypes as core
use Rattle.comp_format.specs.CoreTypes.{ModuleDeclTree, ModuleDecls, module_decls, core_text, module_decl_text, module_text}
use Rattle.comp_format.specs.Definitions as tree
use Rattle.comp_format.specs.Definitions.{DeclTree, Decls, decls_of, definition_text, decl_text, decls_text}
use Rattle.comp_format.specs.Views.{module_decl_tree, module_tree, decl_tree, component_type_tree, instance_type_tree}
use Rattle.comp_format.specs.ViewLaws.{module_is, modules_counted, component_is, instance_is, component_counted, instance_counted}
use Rattle.comp_encoder.specs.Largest.{module_decl_largest, module_largest, decl_largest, decls_largest}
use Rattle.comp_encoder.specs.Texts.{TextsOfModuleDecl, TextsOfModule, TextsOfDecl, TextsOfDecls}

-- ---- of types of core modules

pub module_text_push : (ds : List ModuleDeclTree) (d : ModuleDeclTree) → module_text (module_decls (ds ++ d ∷ [])) ≡ module_text (module_decls ds) ++ module_decl_text d
unfolding module_text
module_text_push [] d = append-nil (module_decl_text d)
module_text_push (first ∷ ds) d = ap (λ (t : List ℕ). module_decl_text first ++ t) (module_text_push ds d) ∙ sym (append_assoc (module_decl_text first) (module_text (module_decls ds)) (module_decl_text d))

pub module_largest_push : (ds : List ModuleDeclTree) (d : ModuleDeclTree) → module_largest (module_decls (ds ++ d ∷ [])) ≡ max (module_largest (module_decls ds)) (module_decl_largest d)
unfolding module_largest
module_largest_push [] d = omega arith
module_largest_push (first ∷ ds) d = ap (max (module_decl_largest first)) (module_largest_push ds d) ∙ omega arith

pub module_texts_push : (ds : List ModuleDeclTree) (d : ModuleDeclTree) → TextsOfModule (module_decls ds) → TextsOfModuleDecl d → TextsOfModule (module_decls (ds ++ d ∷ []))
unfolding TextsOfModule
module_texts_push [] d h here = (here, tt)
module_texts_push (first ∷ ds) d h here = (h.0, module_texts_push ds d h.1 here)

-- ---- of types of components and instances

pub decls_text_push : (ds : List DeclTree) (d : DeclTree) → decls_text (decls_of (ds ++ d ∷ [])) ≡ decls_text (decls_of ds) ++ decl_text d
unfolding decls_text
decls_text_push [] d = append-nil (decl_text d)
decls_text_push (first ∷ ds) d = ap (λ (t : List ℕ). decl_text first ++ t) (decls_text_push ds d) ∙ sym (append_assoc (decl_text first) (decls_text (decls_of ds)) (decl_text d))

pub decls_largest_push : (ds : List DeclTree) (d : DeclTree) → decls_largest (decls_of (ds ++ d ∷ [])) ≡ max (decls_largest (decls_of ds)) (decl_largest d)
unfolding decls_largest
decls_largest_push [] d = omega arith
decls_largest_push (first ∷ ds) d = ap (max (decl_largest first)) (decls_largest_push ds d) ∙ omega arith

pub decls_texts_push : (ds : List DeclTree) (d : DeclTree) → TextsOfDecls (decls_of ds) → TextsOfDecl d → TextsOfDecls (decls_of (ds ++ d ∷ []))
unfolding TextsOfDecls
decls_texts_push [] d h here = (here, tt)
decls_texts_push (first ∷ ds) d h here = (h.0, decls_texts_push ds d h.1 here)

-- ---- types that hold declarations

pub component_text_is : (t : ComponentType) → definition_text (tree.Component (component_type_tree t)) ≡ 0x41 ∷ (number_text (length t.decls.items) ++ decls_text (decls_of (map decl_tree t.decls.items)))
unfolding definition_text
component_text_is t =
    ap (λ n. 0x41 ∷ (number_text n ++ decls_text (component_type_tree t))) (component_counted t)
    ∙ ap (λ (ds : Decls). 0x41 ∷ (number_text (length t.decls.items) ++ decls_text ds)) (component_is t)

pub instance_text_is : (t : InstanceType) → definition_text (tree.Instance (instance_type_tree t)) ≡ 0x42 ∷ (number_text (length t.decls.items) ++ decls_text (decls_of (map decl_tree t.decls.items)))
unfolding definition_text
instance_text_is t =
    ap (λ n. 0x42 ∷ (number_text n ++ decls_text (instance_type_tree t))) (instance_counted t)
    ∙ ap (λ (ds : Decls). 0x42 ∷ (number_text (length t.decls.items) ++ decls_text ds)) (instance_is t)

pub module_text_is : (t : ModuleType) → core_text (core.Module (module_tree t)) ≡ 0x50 ∷ (number_text (length t.decls.items) ++ module_text (module_decls (map module_decl_tree t.decls.items)))
unfolding core_text
module_text_is t =
    ap (λ n. 0x50 ∷ (number_text n ++ module_text (module_tree t))) (modules_counted t)
    ∙ ap (λ (ds : ModuleDecls). 0x50 ∷ (number_text (length t.decls.items) ++ module_text ds)) (module_is t)
