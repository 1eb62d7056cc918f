-- Declarations of scopes, one behind others.
use Rattle.std.proofs.Common.{◌≡◌, Bool, ℕ, List, [], ◌∷◌, ◌++◌, refl, sym, ap, ◌∙◌}
use Rattle.comp_format.specs.CoreTypes as core
use Rattle.comp_format.specs.CoreTypes.{CoreTree, ModuleDeclTree, ModuleDecls}
use Rattle.comp_format.specs.Views.{core_tree, core_step, module_decl_step, module_step, module_tree}
use Rattle.comp_format.specs.declared.core_types.CoreType.{fold-roll-CoreType}
use Rattle.comp_format.specs.declared.core_types.CoreType.TheOpen as layer
use Rattle.comp_format.specs.declared.core_types.CoreType.TheVariants as made
use Rattle.comp_format.specs.declared.core_types.ModuleType.{ModuleType}
use Rattle.comp_format.specs.Definitions as tree
use Rattle.comp_format.specs.Definitions.{DeclTree, Decls, TypeTree, with_decl}
use Rattle.comp_format.specs.Forms.{AreDecls, IsDecl}
use Rattle.comp_format.specs.Items.{Custom, CoreModule, CoreMade, CoreTy, Component, Instance, Aliased, Ty, Canonical, Import, Export}
use Rattle.comp_format.specs.declared.types.Alias.{Alias}
use Rattle.comp_format.specs.declared.types.TypeRef.{TypeRef}
use Rattle.comp_encoder.specs.Writing.{Entry, Single, GivenSection}
use Rattle.compose_types.specs.Bodies.{entries_for, before_entry, decls_in}

pub decls_pushed : (imports : Bool) (ds : Decls) (d : DeclTree) → AreDecls imports ds → IsDecl imports d → AreDecls imports (with_decl ds d)
decls_pushed imports tree.none d are is = (is, tt)
decls_pushed imports (tree.more first ds) d are is = (are.0, decls_pushed imports ds d are.1 is)

behind : (x : Entry) (ds : Decls) (d : DeclTree) → before_entry x (with_decl ds d) ≡ with_decl (before_entry x ds) d
behind (Single (Custom name bytes)) ds d = refl
behind (Single (CoreModule bytes)) ds d = refl
behind (Single (CoreMade item)) ds d = refl
behind (Single (CoreTy t)) ds d = refl
behind (Single (Component bytes)) ds d = refl
behind (Single (Instance item)) ds d = refl
behind (Single (Aliased a)) ds d = refl
behind (Single (Ty t)) ds d = refl
behind (Single (Canonical c)) ds d = refl
behind (Single (Import i)) ds d = refl
behind (Single (Export e)) ds d = refl
behind (GivenSection id content items) ds d = refl

-- an entry that is a declaration
pushed : (es : List Entry) (e : Entry) (d : DeclTree) → ((ds : Decls) → before_entry e ds ≡ tree.more d ds) → decls_in (es ++ e ∷ []) ≡ with_decl (decls_in es) d
pushed [] e d is = is tree.none
pushed (x ∷ es) e d is = ap (before_entry x) (pushed es e d is) ∙ behind x (decls_in es) d

entries_pushed : (ds : Decls) (e : Entry) (d : DeclTree) → ((ds : Decls) → entries_for (tree.more d ds) ≡ e ∷ entries_for ds) → entries_for (with_decl ds d) ≡ entries_for ds ++ e ∷ []
entries_pushed tree.none e d is = is tree.none
entries_pushed (tree.more (tree.CoreTy t) ds) e d is = ap (λ es. Single (CoreTy t) ∷ es) (entries_pushed ds e d is)
entries_pushed (tree.more (tree.Ty t) ds) e d is = ap (λ es. Single (Ty t) ∷ es) (entries_pushed ds e d is)
entries_pushed (tree.more (tree.Aliased a) ds) e d is = ap (λ es. Single (Aliased a) ∷ es) (entries_pushed ds e d is)
entries_pushed (tree.more (tree.Import name ty) ds) e d is = ap (λ es. Single (Import (record { name = name; ty = ty })) ∷ es) (entries_pushed ds e d is)
entries_pushed (tree.more (tree.Export name ty) ds) e d is = entries_pushed ds e d is

-- what is added stays a list of declarations
kept : (es : List Entry) (e : Entry) (d : DeclTree) → ((ds : Decls) → before_entry e ds ≡ tree.more d ds) → ((ds : Decls) → entries_for (tree.more d ds) ≡ e ∷ entries_for ds)
    → es ≡ entries_for (decls_in es) → es ++ e ∷ [] ≡ entries_for (decls_in (es ++ e ∷ []))
kept es e d is back all =
    ap (λ xs. xs ++ e ∷ []) all ∙ sym (entries_pushed (decls_in es) e d back) ∙ ap entries_for (sym (pushed es e d is))

-- the same by the kind of the entry, of the entries behind
pub type_pushed : (es more : List Entry) (t : TypeTree) → more ≡ es ++ Single (Ty t) ∷ [] → decls_in more ≡ with_decl (decls_in es) (tree.Ty t)
type_pushed es more t is = rw is (pushed es (Single (Ty t)) (tree.Ty t) (λ ds. refl))

pub type_kept : (es more : List Entry) (t : TypeTree) → more ≡ es ++ Single (Ty t) ∷ [] → es ≡ entries_for (decls_in es) → more ≡ entries_for (decls_in more)
type_kept es more t is all = rw is (kept es (Single (Ty t)) (tree.Ty t) (λ ds. refl) (λ ds. refl) all)

pub core_pushed : (es more : List Entry) (t : CoreTree) → more ≡ es ++ Single (CoreTy t) ∷ [] → decls_in more ≡ with_decl (decls_in es) (tree.CoreTy t)
core_pushed es more t is = rw is (pushed es (Single (CoreTy t)) (tree.CoreTy t) (λ ds. refl))

pub core_kept : (es more : List Entry) (t : CoreTree) → more ≡ es ++ Single (CoreTy t) ∷ [] → es ≡ entries_for (decls_in es) → more ≡ entries_for (decls_in more)
core_kept es more t is all = rw is (kept es (Single (CoreTy t)) (tree.CoreTy t) (λ ds. refl) (λ ds. refl) all)

pub alias_pushed : (es more : List Entry) (a : Alias) → more ≡ es ++ Single (Aliased a) ∷ [] → decls_in more ≡ with_decl (decls_in es) (tree.Aliased a)
alias_pushed es more a is = rw is (pushed es (Single (Aliased a)) (tree.Aliased a) (λ ds. refl))

pub alias_kept : (es more : List Entry) (a : Alias) → more ≡ es ++ Single (Aliased a) ∷ [] → es ≡ entries_for (decls_in es) → more ≡ entries_for (decls_in more)
alias_kept es more a is all = rw is (kept es (Single (Aliased a)) (tree.Aliased a) (λ ds. refl) (λ ds. refl) all)

pub import_pushed : (es more : List Entry) (name : List ℕ) (ty : TypeRef) → more ≡ es ++ Single (Import (record { name = name; ty = ty })) ∷ [] → decls_in more ≡ with_decl (decls_in es) (tree.Import name ty)
import_pushed es more name ty is = rw is (pushed es (Single (Import (record { name = name; ty = ty }))) (tree.Import name ty) (λ ds. refl))

pub import_kept : (es more : List Entry) (name : List ℕ) (ty : TypeRef) → more ≡ es ++ Single (Import (record { name = name; ty = ty })) ∷ [] → es ≡ entries_for (decls_in es) → more ≡ entries_for (decls_in more)
import_kept es more name ty is all = rw is (kept es (Single (Import (record { name = name; ty = ty }))) (tree.Import name ty) (λ ds. refl) (λ ds. refl) all)

pub core_module : (t : ModuleType) → core_tree (made.Module t) ≡ core.Module (module_tree t)
core_module t = ap core_tree (sym (made.rolls-Module t)) ∙ fold-roll-CoreType CoreTree ModuleDeclTree ModuleDecls core_step module_decl_step module_step (layer.Module t)
