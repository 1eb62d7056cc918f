-- Core types as bytes (Component Model, Binary.md, "Core Type Definitions"; WebAssembly core specification, "Types").
use Rattle.std.specs.Prelude.{◌≡◌, ℕ, zero, suc, Bool, true, false, List, [], ◌∷◌, ◌++◌, Option, Some, None, Ok, Err, ◌==◌, if◌then◌else◌}
use Rattle.warg_values.specs.Reading.{◌>>=◌}
use Rattle.comp_format.specs.declared.core_types.CoreVal.{CoreVal}
use Rattle.comp_format.specs.declared.core_types.CoreVal.TheVariants as core_value
use Rattle.comp_format.specs.declared.core_types.Limits.{Limits}
use Rattle.comp_format.specs.declared.core_types.CoreDesc.{CoreDesc}
use Rattle.comp_format.specs.declared.core_types.CoreDesc.TheVariants as core_item
use Rattle.comp_format.specs.Fault.{NotCarried, TooDeep}
use Rattle.comp_format.specs.Numbers.{FormOf, Byte, Then, Number, number_at, number_text}
use Rattle.comp_format.specs.Vectors.{ReaderOf, Vector, AnyName, vector_at, any_name_at, byte_at, carried_at, known_or, vector_text, name_text}

-- a core type, wherever its parts lie in memory
mutual
  pub data CoreTree : Type 0 where
    Func : List CoreVal → List CoreVal → CoreTree
    Module : ModuleDecls → CoreTree

  pub data ModuleDeclTree : Type 0 where
    Import : List ℕ → List ℕ → CoreDesc → ModuleDeclTree
    CoreTy : CoreTree → ModuleDeclTree
    OuterAlias : ℕ → ℕ → ModuleDeclTree
    Export : List ℕ → CoreDesc → ModuleDeclTree

  pub data ModuleDecls : Type 0 where
    none : ModuleDecls
    more : ModuleDeclTree → ModuleDecls → ModuleDecls

abbrev pub module_decls : List ModuleDeclTree → ModuleDecls
module_decls [] = none
module_decls (d ∷ ds) = more d (module_decls ds)

abbrev pub module_count : ModuleDecls → ℕ
module_count none = zero
module_count (more d ds) = suc (module_count ds)

-- declarations, and one behind them
abbrev pub with_module_decl : ModuleDecls → ModuleDeclTree → ModuleDecls
with_module_decl none d = more d none
with_module_decl (more first ds) d = more first (with_module_decl ds d)

-- the byte of a core value's type
abbrev pub core_value_code : CoreVal → ℕ
core_value_code core_value.V7f = 0x7f
core_value_code core_value.V7e = 0x7e
core_value_code core_value.V7d = 0x7d
core_value_code core_value.V7c = 0x7c
core_value_code core_value.V7b = 0x7b
core_value_code core_value.V70 = 0x70
core_value_code core_value.V6f = 0x6f

abbrev pub CoreValForm : FormOf CoreVal
CoreValForm v = Byte (core_value_code v)

-- references alone are elements of tables
abbrev pub is_reference : CoreVal → Bool
is_reference core_value.V70 = true
is_reference core_value.V6f = true
is_reference _ = false

abbrev pub LimitsOf : ℕ → FormOf (Option ℕ)
LimitsOf min None = Then (Byte 0) (Number min)
LimitsOf min (Some max) = Then (Byte 1) (Then (Number min) (Number max))

abbrev pub LimitsForm : FormOf Limits
LimitsForm l = LimitsOf l.min l.max

abbrev pub mutable_code : Bool → ℕ
mutable_code false = 0
mutable_code true = 1

abbrev pub CoreDescForm : FormOf CoreDesc
CoreDescForm (core_item.Func i) bytes rest = Then (Byte 0) (Number i) bytes rest
CoreDescForm (core_item.Table element limits) bytes rest = (is_reference element ≡ true) × Then (Byte 1) (Then (CoreValForm element) (LimitsForm limits)) bytes rest
CoreDescForm (core_item.Memory limits) bytes rest = Then (Byte 2) (LimitsForm limits) bytes rest
CoreDescForm (core_item.Global v is_mutable) bytes rest = Then (Byte 3) (Then (CoreValForm v) (Byte (mutable_code is_mutable))) bytes rest

abbrev mutual
  pub CoreForm : CoreTree → List ℕ → List ℕ → Type 0
  CoreForm (Func params results) bytes rest = Then (Byte 0x60) (Then (Vector CoreValForm params) (Vector CoreValForm results)) bytes rest
  CoreForm (Module ds) bytes rest = Then (Byte 0x50) (Then (Number (module_count ds)) (ModuleForm ds)) bytes rest

  pub ModuleDeclForm : ModuleDeclTree → List ℕ → List ℕ → Type 0
  ModuleDeclForm (Import m name item) bytes rest = Then (Byte 0) (Then (AnyName m) (Then (AnyName name) (CoreDescForm item))) bytes rest
  ModuleDeclForm (CoreTy t) bytes rest = Then (Byte 1) (CoreForm t) bytes rest
  ModuleDeclForm (OuterAlias count index) bytes rest = Then (Byte 2) (Then (Byte 0x10) (Then (Byte 1) (Then (Number count) (Number index)))) bytes rest
  ModuleDeclForm (Export name item) bytes rest = Then (Byte 3) (Then (AnyName name) (CoreDescForm item)) bytes rest

  -- declarations, one behind the other
  pub ModuleForm : ModuleDecls → List ℕ → List ℕ → Type 0
  ModuleForm none bytes rest = bytes ≡ rest
  ModuleForm (more d ds) bytes rest = (after : List ℕ) × ModuleDeclForm d bytes after × ModuleForm ds after rest

-- reading
abbrev pub core_value_of : ℕ → Option CoreVal
core_value_of b =
    if b == 0x7f then Some core_value.V7f
    else if b == 0x7e then Some core_value.V7e
    else if b == 0x7d then Some core_value.V7d
    else if b == 0x7c then Some core_value.V7c
    else if b == 0x7b then Some core_value.V7b
    else if b == 0x70 then Some core_value.V70
    else if b == 0x6f then Some core_value.V6f
    else None

unfoldable pub core_value_at : ReaderOf CoreVal
core_value_at bytes = byte_at bytes >>= λ b. known_or NotCarried (core_value_of b.0) b.1

unfoldable pub limits_at : ReaderOf Limits
limits_at bytes = byte_at bytes >>= λ b.
    if b.0 == 0 then (number_at b.1 >>= λ min. Ok (record { min = min.0; max = None }, min.1))
    else if b.0 == 1 then (number_at b.1 >>= λ min. number_at min.1 >>= λ max. Ok (record { min = min.0; max = Some max.0 }, max.1))
    else Err NotCarried

unfoldable pub table_at : ReaderOf CoreDesc
table_at bytes = core_value_at bytes >>= λ element.
    if is_reference element.0 then (limits_at element.1 >>= λ limits. Ok (core_item.Table element.0 limits.0, limits.1)) else Err NotCarried

unfoldable pub mutable_at : ReaderOf Bool
mutable_at bytes = byte_at bytes >>= λ b. if b.0 == 0 then Ok (false, b.1) else if b.0 == 1 then Ok (true, b.1) else Err NotCarried

unfoldable pub global_at : ReaderOf CoreDesc
global_at bytes = core_value_at bytes >>= λ v. mutable_at v.1 >>= λ is_mutable. Ok (core_item.Global v.0 is_mutable.0, is_mutable.1)

unfoldable pub core_desc_at : ReaderOf CoreDesc
core_desc_at bytes = byte_at bytes >>= λ b.
    if b.0 == 0 then (number_at b.1 >>= λ i. Ok (core_item.Func i.0, i.1))
    else if b.0 == 1 then table_at b.1
    else if b.0 == 2 then (limits_at b.1 >>= λ limits. Ok (core_item.Memory limits.0, limits.1))
    else if b.0 == 3 then global_at b.1
    else Err NotCarried

unfoldable pub module_import_at : ReaderOf ModuleDeclTree
module_import_at bytes = do
  m ← any_name_at bytes
  name ← any_name_at m.1
  item ← core_desc_at name.1
  Ok (Import m.0 name.0 item.0, item.1)

unfoldable pub module_alias_at : ReaderOf ModuleDeclTree
module_alias_at bytes = carried_at 0x10 bytes >>= λ kind. carried_at 1 kind >>= λ target. number_at target >>= λ count. number_at count.1 >>= λ index. Ok (OuterAlias count.0 index.0, index.1)

unfoldable pub module_export_at : ReaderOf ModuleDeclTree
module_export_at bytes = any_name_at bytes >>= λ name. core_desc_at name.1 >>= λ item. Ok (Export name.0 item.0, item.1)

-- a declaration, where core types are read so
unfoldable pub module_decl_at : ReaderOf CoreTree → ReaderOf ModuleDeclTree
module_decl_at core bytes = byte_at bytes >>= λ b.
    if b.0 == 0 then module_import_at b.1
    else if b.0 == 1 then (core b.1 >>= λ t. Ok (CoreTy t.0, t.1))
    else if b.0 == 2 then module_alias_at b.1
    else if b.0 == 3 then module_export_at b.1
    else Err NotCarried

unfoldable pub core_func_at : ReaderOf CoreTree
core_func_at bytes = vector_at core_value_at bytes >>= λ params. vector_at core_value_at params.1 >>= λ results. Ok (Func params.0 results.0, results.1)

unfoldable pub module_at : ReaderOf (List ModuleDeclTree) → ReaderOf CoreTree
module_at decls bytes = decls bytes >>= λ ds. Ok (Module (module_decls ds.0), ds.1)

-- a core type, where the declarations of module types are read so
unfoldable pub core_with : ReaderOf (List ModuleDeclTree) → ReaderOf CoreTree
core_with decls bytes = byte_at bytes >>= λ b.
    if b.0 == 0x60 then core_func_at b.1
    else if b.0 == 0x50 then module_at decls b.1
    else Err NotCarried

-- a core type in which at most so many scopes are open at one place
unfoldable pub core_at : ℕ → ReaderOf CoreTree
core_at zero = core_with (λ bytes. Err TooDeep)
core_at (suc scopes) = core_with (vector_at (module_decl_at (core_at scopes)))

-- writing
abbrev pub limits_of_text : ℕ → Option ℕ → List ℕ
limits_of_text min None = 0 ∷ number_text min
limits_of_text min (Some max) = 1 ∷ (number_text min ++ number_text max)

abbrev pub limits_text : Limits → List ℕ
limits_text l = limits_of_text l.min l.max

abbrev pub core_value_text : CoreVal → List ℕ
core_value_text v = core_value_code v ∷ []

abbrev pub core_desc_text : CoreDesc → List ℕ
core_desc_text (core_item.Func i) = 0 ∷ number_text i
core_desc_text (core_item.Table element limits) = 1 ∷ core_value_code element ∷ limits_text limits
core_desc_text (core_item.Memory limits) = 2 ∷ limits_text limits
core_desc_text (core_item.Global v is_mutable) = 3 ∷ core_value_code v ∷ mutable_code is_mutable ∷ []

unfoldable mutual
  pub core_text : CoreTree → List ℕ
  core_text (Func params results) = 0x60 ∷ (vector_text core_value_text params ++ vector_text core_value_text results)
  core_text (Module ds) = 0x50 ∷ (number_text (module_count ds) ++ module_text ds)

  pub module_decl_text : ModuleDeclTree → List ℕ
  module_decl_text (Import m name item) = 0 ∷ (name_text m ++ (name_text name ++ core_desc_text item))
  module_decl_text (CoreTy t) = 1 ∷ core_text t
  module_decl_text (OuterAlias count index) = 2 ∷ 0x10 ∷ 1 ∷ (number_text count ++ number_text index)
  module_decl_text (Export name item) = 3 ∷ (name_text name ++ core_desc_text item)

  pub module_text : ModuleDecls → List ℕ
  module_text none = []
  module_text (more d ds) = module_decl_text d ++ module_text ds
