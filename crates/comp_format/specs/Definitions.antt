-- Types that components define, which may hold declarations, as bytes (Component Model, Binary.md, "Type Definitions").
use Rattle.std.specs.Prelude.{◌≡◌, ℕ, zero, suc, Bool, true, false, List, [], ◌∷◌, ◌++◌, Option, Ok, Err, ◌==◌, if◌then◌else◌}
use Rattle.warg_values.specs.Reading.{◌>>=◌}
use Rattle.comp_format.specs.declared.types.CoreSort.TheVariants as core
use Rattle.comp_format.specs.declared.types.Sort.{Sort}
use Rattle.comp_format.specs.declared.types.Sort.TheVariants as sort
use Rattle.comp_format.specs.declared.types.TypeRef.{TypeRef}
use Rattle.comp_format.specs.declared.types.Alias.{Alias}
use Rattle.comp_format.specs.declared.types.Alias.TheVariants as alias
use Rattle.comp_format.specs.declared.types.DefinedType.{DefinedType}
use Rattle.comp_format.specs.declared.types.FuncType.{FuncType}
use Rattle.comp_format.specs.Fault.{Form, TooDeep}
use Rattle.comp_format.specs.Numbers.{Byte, Then, Number, number_at, number_text}
use Rattle.comp_format.specs.Vectors.{ReaderOf, Optional, vector_at, byte_at, mark_at, optional_at, name_text, optional_text}
use Rattle.comp_format.specs.Types.{DefinedForm, FuncForm, defined_of, func_at, defined_text, func_text}
use Rattle.comp_format.specs.CoreTypes.{CoreTree, CoreForm, core_at, core_text}
use Rattle.comp_format.specs.Parts.{DescriptionForm, ExportName, AliasForm, description_at, export_name_at, alias_at, description_text, alias_text}

-- a type, wherever its parts lie in memory
mutual
  pub data TypeTree : Type 0 where
    Defined : DefinedType → TypeTree
    Func : FuncType → TypeTree
    Component : Decls → TypeTree
    Instance : Decls → TypeTree
    Resource : Option ℕ → TypeTree

  pub data DeclTree : Type 0 where
    CoreTy : CoreTree → DeclTree
    Ty : TypeTree → DeclTree
    Aliased : Alias → DeclTree
    Import : List ℕ → TypeRef → DeclTree
    Export : List ℕ → TypeRef → DeclTree

  pub data Decls : Type 0 where
    none : Decls
    more : DeclTree → Decls → Decls

abbrev pub decls_of : List DeclTree → Decls
decls_of [] = none
decls_of (d ∷ ds) = more d (decls_of ds)

abbrev pub decl_count : Decls → ℕ
decl_count none = zero
decl_count (more d ds) = suc (decl_count ds)

-- declarations, and one behind them
abbrev pub with_decl : Decls → DeclTree → Decls
with_decl none d = more d none
with_decl (more first ds) d = more first (with_decl ds d)

abbrev pub is_resource : TypeTree → Bool
is_resource (Resource d) = true
is_resource _ = false

-- what a declaration may be an alias of
abbrev pub is_exported_sort : Sort → Bool
is_exported_sort sort.Ty = true
is_exported_sort sort.Instance = true
is_exported_sort _ = false

abbrev pub is_outer_type : Sort → Bool
is_outer_type sort.Ty = true
is_outer_type (sort.Core core.Ty) = true
is_outer_type _ = false

abbrev pub is_declared : Alias → Bool
is_declared (alias.Export kind from name) = is_exported_sort kind
is_declared (alias.CoreExport kind from name) = false
is_declared (alias.Outer kind count index) = is_outer_type kind

abbrev mutual
  pub DefForm : TypeTree → List ℕ → List ℕ → Type 0
  DefForm (Defined d) bytes rest = DefinedForm d bytes rest
  DefForm (Func f) bytes rest = Then (Byte 0x40) (FuncForm f) bytes rest
  DefForm (Component ds) bytes rest = Then (Byte 0x41) (Then (Number (decl_count ds)) (DeclsForm true ds)) bytes rest
  DefForm (Instance ds) bytes rest = Then (Byte 0x42) (Then (Number (decl_count ds)) (DeclsForm false ds)) bytes rest
  DefForm (Resource destructor) bytes rest = Then (Byte 0x3f) (Then (Byte 0x7f) (Optional Number destructor)) bytes rest

  -- a declaration, where there may be imports, or not
  pub DeclForm : Bool → DeclTree → List ℕ → List ℕ → Type 0
  DeclForm imports (CoreTy t) bytes rest = Then (Byte 0) (CoreForm t) bytes rest
  DeclForm imports (Ty t) bytes rest = (is_resource t ≡ false) × Then (Byte 1) (DefForm t) bytes rest
  DeclForm imports (Aliased a) bytes rest = (is_declared a ≡ true) × Then (Byte 2) (AliasForm a) bytes rest
  DeclForm imports (Import name ty) bytes rest = (imports ≡ true) × Then (Byte 3) (Then (ExportName name) (DescriptionForm ty)) bytes rest
  DeclForm imports (Export name ty) bytes rest = Then (Byte 4) (Then (ExportName name) (DescriptionForm ty)) bytes rest

  -- declarations, one behind the other
  pub DeclsForm : Bool → Decls → List ℕ → List ℕ → Type 0
  DeclsForm imports none bytes rest = bytes ≡ rest
  DeclsForm imports (more d ds) bytes rest = (after : List ℕ) × DeclForm imports d bytes after × DeclsForm imports ds after rest

-- reading

-- an item under the name of an import or export
unfoldable pub described_at : {X : Type 0} → (List ℕ → TypeRef → X) → ReaderOf X
described_at item bytes = export_name_at bytes >>= λ name. description_at name.1 >>= λ ty. Ok (item name.0 ty.0, ty.1)

-- a type in a declaration: no resource
unfoldable pub inner_type_at : ReaderOf TypeTree → ReaderOf DeclTree
inner_type_at ty bytes = ty bytes >>= λ t. if is_resource t.0 then Err Form else Ok (Ty t.0, t.1)

unfoldable pub inner_alias_at : ReaderOf DeclTree
inner_alias_at bytes = alias_at bytes >>= λ a. if is_declared a.0 then Ok (Aliased a.0, a.1) else Err Form

-- a declaration, where types and core types are read so
unfoldable pub decl_at : Bool → ReaderOf CoreTree → ReaderOf TypeTree → ReaderOf DeclTree
decl_at imports core ty bytes = byte_at bytes >>= λ b.
    if b.0 == 0 then (core b.1 >>= λ t. Ok (CoreTy t.0, t.1))
    else if b.0 == 1 then inner_type_at ty b.1
    else if b.0 == 2 then inner_alias_at b.1
    else if b.0 == 3 then (if imports then described_at Import b.1 else Err Form)
    else if b.0 == 4 then described_at Export b.1
    else Err Form

unfoldable pub resource_at : ReaderOf TypeTree
resource_at bytes = mark_at 0x7f bytes >>= λ after. optional_at number_at after >>= λ d. Ok (Resource d.0, d.1)

-- a type, where declarations with imports and without are read so
unfoldable pub type_with : (Bool → ReaderOf (List DeclTree)) → ReaderOf TypeTree
type_with decls bytes = byte_at bytes >>= λ b.
    if b.0 == 0x40 then (func_at b.1 >>= λ f. Ok (Func f.0, f.1))
    else if b.0 == 0x41 then (decls true b.1 >>= λ ds. Ok (Component (decls_of ds.0), ds.1))
    else if b.0 == 0x42 then (decls false b.1 >>= λ ds. Ok (Instance (decls_of ds.0), ds.1))
    else if b.0 == 0x3f then resource_at b.1
    else (defined_of b.0 b.1 >>= λ d. Ok (Defined d.0, d.1))

-- a type in which at most so many scopes are open at one place
unfoldable pub definition_at : ℕ → ReaderOf TypeTree
definition_at zero = type_with (λ imports bytes. Err TooDeep)
definition_at (suc scopes) = type_with (λ imports. vector_at (decl_at imports (core_at scopes) (definition_at scopes)))

-- writing
unfoldable mutual
  pub definition_text : TypeTree → List ℕ
  definition_text (Defined d) = defined_text d
  definition_text (Func f) = 0x40 ∷ func_text f
  definition_text (Component ds) = 0x41 ∷ (number_text (decl_count ds) ++ decls_text ds)
  definition_text (Instance ds) = 0x42 ∷ (number_text (decl_count ds) ++ decls_text ds)
  definition_text (Resource destructor) = 0x3f ∷ 0x7f ∷ optional_text number_text destructor

  pub decl_text : DeclTree → List ℕ
  decl_text (CoreTy t) = 0 ∷ core_text t
  decl_text (Ty t) = 1 ∷ definition_text t
  decl_text (Aliased a) = 2 ∷ alias_text a
  decl_text (Import name ty) = 3 ∷ 0 ∷ (name_text name ++ description_text ty)
  decl_text (Export name ty) = 4 ∷ 0 ∷ (name_text name ++ description_text ty)

  pub decls_text : Decls → List ℕ
  decls_text none = []
  decls_text (more d ds) = decl_text d ++ decls_text ds
