-- Types and their declarations, by how many scopes may be open.
use Rattle.std.proofs.Common.{◌≡◌, ℕ, zero, suc, ◌-◌, ◌<◌, Bool, true, false, List, Ok, refl, ap, ◌∙◌, arith}
use Rattle.comp_format.specs.declared.types.FuncType.{FuncType}
use Rattle.comp_format.specs.Vectors.{vector_at, byte_at}
use Rattle.comp_format.specs.Types.{func_at}
use Rattle.comp_format.specs.CoreTypes as core
use Rattle.comp_format.specs.CoreTypes.{ModuleDeclTree, module_decls, module_decl_at, module_at, core_with, core_at}
use Rattle.comp_format.specs.Definitions as tree
use Rattle.comp_format.specs.Definitions.{DeclTree, decls_of, decl_at, type_with, definition_at}
use Rattle.comp_reader.specs.Nested.{module_decls_at, decls_at}

pub core_is : (scopes : ℕ) (bytes : List ℕ) → core_at scopes bytes ≡ core_with (module_decls_at scopes) bytes
unfolding core_at module_decls_at
core_is zero bytes = refl
core_is (suc scopes) bytes = refl

pub module_decls_are : (scopes : ℕ) (bytes : List ℕ) → 0 < scopes → module_decls_at scopes bytes ≡ vector_at (module_decl_at (core_at (scopes - 1))) bytes
unfolding module_decls_at
module_decls_are zero bytes some = absurd (omega arith)
module_decls_are (suc scopes) bytes some =
    let same : scopes ≡ suc scopes - 1 = omega arith in
    ap (λ (n : ℕ). vector_at (module_decl_at (core_at n)) bytes) same

pub definition_is : (scopes : ℕ) (bytes : List ℕ) → definition_at scopes bytes ≡ type_with (decls_at scopes) bytes
unfolding definition_at decls_at
definition_is zero bytes = refl
definition_is (suc scopes) bytes = refl

pub decls_are : (scopes : ℕ) (imports : Bool) (bytes : List ℕ) → 0 < scopes → decls_at scopes imports bytes ≡ vector_at (decl_at imports (core_at (scopes - 1)) (definition_at (scopes - 1))) bytes
unfolding decls_at
decls_are zero imports bytes some = absurd (omega arith)
decls_are (suc scopes) imports bytes some =
    let same : scopes ≡ suc scopes - 1 = omega arith in
    ap (λ (n : ℕ). vector_at (decl_at imports (core_at n) (definition_at n)) bytes) same

-- a module type that was read
pub core_module : (scopes : ℕ) (bytes : List ℕ) (b : ℕ) (rest : List ℕ) (ds : List ModuleDeclTree) (after : List ℕ) → byte_at bytes ≡ Ok (b, rest) → b ≡ 0x50 → module_decls_at scopes rest ≡ Ok (ds, after)
    → core_at scopes bytes ≡ Ok (core.Module (module_decls ds), after)
unfolding core_with module_at
core_module scopes bytes b rest ds after front is read = core_is scopes bytes ∙ rw (front, is, read) refl

-- types that were read
pub type_func : (scopes : ℕ) (bytes : List ℕ) (b : ℕ) (rest : List ℕ) (f : FuncType) (after : List ℕ) → byte_at bytes ≡ Ok (b, rest) → b ≡ 0x40 → func_at rest ≡ Ok (f, after) → definition_at scopes bytes ≡ Ok (tree.Func f, after)
unfolding type_with
type_func scopes bytes b rest f after front is read = definition_is scopes bytes ∙ rw (front, is, read) refl

pub type_component : (scopes : ℕ) (bytes : List ℕ) (b : ℕ) (rest : List ℕ) (ds : List DeclTree) (after : List ℕ) → byte_at bytes ≡ Ok (b, rest) → b ≡ 0x41 → decls_at scopes true rest ≡ Ok (ds, after)
    → definition_at scopes bytes ≡ Ok (tree.Component (decls_of ds), after)
unfolding type_with
type_component scopes bytes b rest ds after front is read = definition_is scopes bytes ∙ rw (front, is, read) refl

pub type_instance : (scopes : ℕ) (bytes : List ℕ) (b : ℕ) (rest : List ℕ) (ds : List DeclTree) (after : List ℕ) → byte_at bytes ≡ Ok (b, rest) → b ≡ 0x42 → decls_at scopes false rest ≡ Ok (ds, after)
    → definition_at scopes bytes ≡ Ok (tree.Instance (decls_of ds), after)
unfolding type_with
type_instance scopes bytes b rest ds after front is read = definition_is scopes bytes ∙ rw (front, is, read) refl
