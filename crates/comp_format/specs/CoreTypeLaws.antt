-- Core types: what is read is a form, each form is read so, and what is written is a form.
use Rattle.std.proofs.Common.{◌≡◌, ℕ, zero, suc, ◌+◌, ◌^◌, ◌<◌, ◌≤◌, Bool, true, false, List, [], ◌∷◌, ◌++◌, length, Option, Some, None, Ok, Err, refl, sym, ap, subst, ◌∙◌, append_assoc, arith}
use Rattle.std.specs.Prelude.{IfSome}
use Rattle.std.specs.List.{AllByRecursion}
use Rattle.warg_values.specs.ReadingLaws.{bind_ok, ok_is, wanted_ok, pick}
use Rattle.comp_format.specs.declared.core_types.CoreVal.{CoreVal}
use Rattle.comp_format.specs.declared.core_types.CoreVal.TheVariants as core_value
use Rattle.comp_format.specs.declared.core_types.Limits.{Limits}
use Rattle.comp_format.specs.declared.core_types.CoreDesc.{CoreDesc}
use Rattle.comp_format.specs.declared.core_types.CoreDesc.TheVariants as core_item
use Rattle.comp_format.specs.Fault.{NotCarried, TooDeep}
use Rattle.comp_format.specs.Numbers.{Number, number_at, number_text}
use Rattle.comp_format.specs.Vectors.{ReaderOf, Many, vector_at, many_at, any_name_at, byte_at, carried_at, vector_text, name_text}
use Rattle.comp_format.specs.CoreTypes.{CoreTree, Func, Module, ModuleDeclTree, Import, CoreTy, OuterAlias, Export, ModuleDecls, none, more, module_decls, module_count, CoreValForm, LimitsOf, LimitsForm, CoreDescForm, CoreForm, ModuleDeclForm, ModuleForm, core_value_code, core_value_of, core_value_at, is_reference, limits_at, table_at, mutable_code, mutable_at, global_at, core_desc_at, module_import_at, module_alias_at, module_export_at, module_decl_at, core_func_at, module_at, core_with, core_at, core_value_text, limits_of_text, limits_text, core_desc_text, core_text, module_decl_text, module_text}
use Rattle.comp_format.specs.Fits.{FitsLimits, FitsCoreDesc, FitsCore, FitsModuleDecl, FitsModule}
use Rattle.comp_format.specs.NumberLaws.{number_form, number_again, number_written}
use Rattle.comp_format.specs.VectorLaws.{IsSound, IsComplete, vector_form, vector_again, vector_written, any_name_form, any_name_again, any_name_written, byte_form, carried_form, known_ok, some_is, behind}

-- ---- values

core_value_sound : (b : ℕ) (v : CoreVal) → core_value_of b ≡ Some v → b ≡ core_value_code v
core_value_sound b v e =
    pick b 0x7f _ _ _ e (λ h k. h ∙ ap core_value_code (some_is core_value.V7f v k)) (λ e.
    pick b 0x7e _ _ _ e (λ h k. h ∙ ap core_value_code (some_is core_value.V7e v k)) (λ e.
    pick b 0x7d _ _ _ e (λ h k. h ∙ ap core_value_code (some_is core_value.V7d v k)) (λ e.
    pick b 0x7c _ _ _ e (λ h k. h ∙ ap core_value_code (some_is core_value.V7c v k)) (λ e.
    pick b 0x7b _ _ _ e (λ h k. h ∙ ap core_value_code (some_is core_value.V7b v k)) (λ e.
    pick b 0x70 _ _ _ e (λ h k. h ∙ ap core_value_code (some_is core_value.V70 v k)) (λ e.
    pick b 0x6f _ _ _ e (λ h k. h ∙ ap core_value_code (some_is core_value.V6f v k)) (λ e. absurd cc)))))))

core_value_complete : (v : CoreVal) → core_value_of (core_value_code v) ≡ Some v
core_value_complete core_value.V7f = refl
core_value_complete core_value.V7e = refl
core_value_complete core_value.V7d = refl
core_value_complete core_value.V7c = refl
core_value_complete core_value.V7b = refl
core_value_complete core_value.V70 = refl
core_value_complete core_value.V6f = refl

core_value_form : IsSound core_value_at CoreValForm
unfolding core_value_at
core_value_form bytes x e =
    let b = bind_ok (byte_at bytes) _ x e in
    let known = known_ok NotCarried (core_value_of b.0.0) b.0.1 x b.2 in
    byte_form bytes b.0 b.1 ∙ ap (λ (c : ℕ). c ∷ b.0.1) (core_value_sound b.0.0 x.0 known.0) ∙ ap (λ (r : List ℕ). core_value_code x.0 ∷ r) known.1

core_value_again : IsComplete core_value_at CoreValForm
unfolding core_value_at
core_value_again v bytes rest h = rw (h, core_value_complete v) refl

core_values_written : (vs : List CoreVal) → AllByRecursion (λ (v : CoreVal). Unit {0}) vs
core_values_written [] = tt
core_values_written (v ∷ vs) = (tt, core_values_written vs)

-- ---- limits

limits_form : IsSound limits_at LimitsForm
unfolding limits_at
limits_form bytes x e =
    let b = bind_ok (byte_at bytes) _ x e in
    let front = byte_form bytes b.0 b.1 in
    pick b.0.0 0 _ _ _ b.2 (λ h k.
    let min = bind_ok (number_at b.0.1) _ x k in
    let made : Limits × List ℕ = (record { min = min.0.0; max = None }, min.0.1) in
    behind LimitsForm 0 bytes b.0 made x front h (ok_is made x min.2) (b.0.1, refl, number_form b.0.1 min.0 min.1)) (λ e.
    pick b.0.0 1 _ _ _ e (λ h k.
    let min = bind_ok (number_at b.0.1) _ x k in
    let max = bind_ok (number_at min.0.1) _ x min.2 in
    let made : Limits × List ℕ = (record { min = min.0.0; max = Some max.0.0 }, max.0.1) in
    behind LimitsForm 1 bytes b.0 made x front h (ok_is made x max.2) (b.0.1, refl, (min.0.1, number_form b.0.1 min.0 min.1, number_form min.0.1 max.0 max.1))) (λ e. absurd cc))

limits_of_again : (min : ℕ) (max : Option ℕ) (bytes rest : List ℕ) → LimitsOf min max bytes rest → limits_at bytes ≡ Ok (record { min = min; max = max }, rest)
unfolding limits_at
limits_of_again min None bytes rest h = rw (h.1, number_again min h.0 rest h.2) refl
limits_of_again min (Some max) bytes rest h = rw (h.1, number_again min h.0 h.2.0 h.2.1, number_again max h.2.0 rest h.2.2) refl

limits_again : IsComplete limits_at LimitsForm
limits_again l bytes rest h = limits_of_again l.min l.max bytes rest h

limits_of_written : (min : ℕ) (max : Option ℕ) (rest : List ℕ) → min < 2 ^ 32 → IfSome max (λ n. n < 2 ^ 32) → LimitsOf min max (limits_of_text min max ++ rest) rest
limits_of_written min None rest fits max_fits = (number_text min ++ rest, refl, number_written min rest fits)
limits_of_written min (Some max) rest fits max_fits = (
  (number_text min ++ number_text max) ++ rest,
  refl,
  (number_text max ++ rest, rw append_assoc (number_written min (number_text max ++ rest) fits), number_written max rest max_fits),
)

limits_written : (l : Limits) (rest : List ℕ) → FitsLimits l → LimitsForm l (limits_text l ++ rest) rest
limits_written l rest fits = limits_of_written l.min l.max rest fits.min fits.max

-- ---- what modules import and export

table_form : (bytes : List ℕ) (x : CoreDesc × List ℕ) → table_at bytes ≡ Ok x → CoreDescForm x.0 (1 ∷ bytes) x.1
unfolding table_at
table_form bytes x e =
    let element = bind_ok (core_value_at bytes) _ x e in
    let reference = wanted_ok (is_reference element.0.0) NotCarried _ x element.2 in
    let limits = bind_ok (limits_at element.0.1) _ x reference.1 in
    subst (λ (y : CoreDesc × List ℕ). CoreDescForm y.0 (1 ∷ bytes) y.1) (ok_is (core_item.Table element.0.0 limits.0.0, limits.0.1) x limits.2)
    (reference.0, (bytes, refl, (element.0.1, core_value_form bytes element.0 element.1, limits_form element.0.1 limits.0 limits.1)))

mutable_form : (bytes : List ℕ) (x : Bool × List ℕ) → mutable_at bytes ≡ Ok x → bytes ≡ mutable_code x.0 ∷ x.1
unfolding mutable_at
mutable_form bytes x e =
    let b = bind_ok (byte_at bytes) _ x e in
    let front = byte_form bytes b.0 b.1 in
    let Form : Bool × List ℕ → Type 0 = λ y. bytes ≡ mutable_code y.0 ∷ y.1 in
    pick b.0.0 0 _ _ _ b.2 (λ h k. subst Form (ok_is (false, b.0.1) x k) (front ∙ ap (λ (c : ℕ). c ∷ b.0.1) h)) (λ e.
    pick b.0.0 1 _ _ _ e (λ h k. subst Form (ok_is (true, b.0.1) x k) (front ∙ ap (λ (c : ℕ). c ∷ b.0.1) h)) (λ e. absurd cc))

mutable_again : (m : Bool) (rest : List ℕ) → mutable_at (mutable_code m ∷ rest) ≡ Ok (m, rest)
unfolding mutable_at
mutable_again false rest = refl
mutable_again true rest = refl

global_form : (bytes : List ℕ) (x : CoreDesc × List ℕ) → global_at bytes ≡ Ok x → CoreDescForm x.0 (3 ∷ bytes) x.1
unfolding global_at
global_form bytes x e =
    let v = bind_ok (core_value_at bytes) _ x e in
    let m = bind_ok (mutable_at v.0.1) _ x v.2 in
    subst (λ (y : CoreDesc × List ℕ). CoreDescForm y.0 (3 ∷ bytes) y.1) (ok_is (core_item.Global v.0.0 m.0.0, m.0.1) x m.2)
    (bytes, refl, (v.0.1, core_value_form bytes v.0 v.1, mutable_form v.0.1 m.0 m.1))

core_desc_form : IsSound core_desc_at CoreDescForm
unfolding core_desc_at
core_desc_form bytes x e =
    let b = bind_ok (byte_at bytes) _ x e in
    let front = byte_form bytes b.0 b.1 in
    pick b.0.0 0 _ _ _ b.2 (λ h k.
    let i = bind_ok (number_at b.0.1) _ x k in
    behind CoreDescForm 0 bytes b.0 (core_item.Func i.0.0, i.0.1) x front h (ok_is _ x i.2) (b.0.1, refl, number_form b.0.1 i.0 i.1)) (λ e.
    pick b.0.0 1 _ _ _ e (λ h k. behind CoreDescForm 1 bytes b.0 x x front h refl (table_form b.0.1 x k)) (λ e.
    pick b.0.0 2 _ _ _ e (λ h k.
    let limits = bind_ok (limits_at b.0.1) _ x k in
    behind CoreDescForm 2 bytes b.0 (core_item.Memory limits.0.0, limits.0.1) x front h (ok_is _ x limits.2) (b.0.1, refl, limits_form b.0.1 limits.0 limits.1)) (λ e.
    pick b.0.0 3 _ _ _ e (λ h k. behind CoreDescForm 3 bytes b.0 x x front h refl (global_form b.0.1 x k)) (λ e. absurd cc))))

core_desc_again : IsComplete core_desc_at CoreDescForm
unfolding core_desc_at table_at global_at
core_desc_again (core_item.Func i) bytes rest h = rw (h.1, number_again i h.0 rest h.2) refl
core_desc_again (core_item.Table element limits) bytes rest h =
    rw (h.1.1, core_value_again element h.1.0 h.1.2.0 h.1.2.1, h.0, limits_again limits h.1.2.0 rest h.1.2.2) refl
core_desc_again (core_item.Memory limits) bytes rest h = rw (h.1, limits_again limits h.0 rest h.2) refl
core_desc_again (core_item.Global v m) bytes rest h = rw (h.1, core_value_again v h.0 h.2.0 h.2.1, h.2.2, mutable_again m rest) refl

core_desc_written : (d : CoreDesc) (rest : List ℕ) → FitsCoreDesc d → CoreDescForm d (core_desc_text d ++ rest) rest
core_desc_written (core_item.Func i) rest fits = (number_text i ++ rest, refl, number_written i rest fits)
core_desc_written (core_item.Table element limits) rest fits =
    (fits.0, (core_value_code element ∷ (limits_text limits ++ rest), refl, (limits_text limits ++ rest, refl, limits_written limits rest fits.1)))
core_desc_written (core_item.Memory limits) rest fits = (limits_text limits ++ rest, refl, limits_written limits rest fits)
core_desc_written (core_item.Global v m) rest fits = (core_value_code v ∷ mutable_code m ∷ rest, refl, (mutable_code m ∷ rest, refl, refl))

-- ---- core types and declarations: sound

module_import_form : (bytes : List ℕ) (x : ModuleDeclTree × List ℕ) → module_import_at bytes ≡ Ok x → ModuleDeclForm x.0 (0 ∷ bytes) x.1
unfolding module_import_at
module_import_form bytes x e =
    let m = bind_ok (any_name_at bytes) _ x e in
    let name = bind_ok (any_name_at m.0.1) _ x m.2 in
    let item = bind_ok (core_desc_at name.0.1) _ x name.2 in
    subst (λ (y : ModuleDeclTree × List ℕ). ModuleDeclForm y.0 (0 ∷ bytes) y.1) (ok_is (Import m.0.0 name.0.0 item.0.0, item.0.1) x item.2)
    (bytes, refl, (m.0.1, any_name_form bytes m.0 m.1, (name.0.1, any_name_form m.0.1 name.0 name.1, core_desc_form name.0.1 item.0 item.1)))

module_alias_form : (bytes : List ℕ) (x : ModuleDeclTree × List ℕ) → module_alias_at bytes ≡ Ok x → ModuleDeclForm x.0 (2 ∷ bytes) x.1
unfolding module_alias_at
module_alias_form bytes x e =
    let kind = bind_ok (carried_at 0x10 bytes) _ x e in
    let target = bind_ok (carried_at 1 kind.0) _ x kind.2 in
    let count = bind_ok (number_at target.0) _ x target.2 in
    let index = bind_ok (number_at count.0.1) _ x count.2 in
    subst (λ (y : ModuleDeclTree × List ℕ). ModuleDeclForm y.0 (2 ∷ bytes) y.1) (ok_is (OuterAlias count.0.0 index.0.0, index.0.1) x index.2)
    (bytes, refl, (kind.0, carried_form 0x10 bytes kind.0 kind.1, (target.0, carried_form 1 kind.0 target.0 target.1, (count.0.1, number_form target.0 count.0 count.1, number_form count.0.1 index.0 index.1))))

module_export_form : (bytes : List ℕ) (x : ModuleDeclTree × List ℕ) → module_export_at bytes ≡ Ok x → ModuleDeclForm x.0 (3 ∷ bytes) x.1
unfolding module_export_at
module_export_form bytes x e =
    let name = bind_ok (any_name_at bytes) _ x e in
    let item = bind_ok (core_desc_at name.0.1) _ x name.2 in
    subst (λ (y : ModuleDeclTree × List ℕ). ModuleDeclForm y.0 (3 ∷ bytes) y.1) (ok_is (Export name.0.0 item.0.0, item.0.1) x item.2)
    (bytes, refl, (name.0.1, any_name_form bytes name.0 name.1, core_desc_form name.0.1 item.0 item.1))

module_decl_form : (core : ReaderOf CoreTree) → IsSound core CoreForm → IsSound (module_decl_at core) ModuleDeclForm
unfolding module_decl_at
module_decl_form core sound bytes x e =
    let b = bind_ok (byte_at bytes) _ x e in
    let front = byte_form bytes b.0 b.1 in
    pick b.0.0 0 _ _ _ b.2 (λ h k. behind ModuleDeclForm 0 bytes b.0 x x front h refl (module_import_form b.0.1 x k)) (λ e.
    pick b.0.0 1 _ _ _ e (λ h k.
    let t = bind_ok (core b.0.1) _ x k in
    behind ModuleDeclForm 1 bytes b.0 (CoreTy t.0.0, t.0.1) x front h (ok_is _ x t.2) (b.0.1, refl, sound b.0.1 t.0 t.1)) (λ e.
    pick b.0.0 2 _ _ _ e (λ h k. behind ModuleDeclForm 2 bytes b.0 x x front h refl (module_alias_form b.0.1 x k)) (λ e.
    pick b.0.0 3 _ _ _ e (λ h k. behind ModuleDeclForm 3 bytes b.0 x x front h refl (module_export_form b.0.1 x k)) (λ e. absurd cc))))

module_count_is : (ds : List ModuleDeclTree) → module_count (module_decls ds) ≡ length ds
module_count_is [] = refl
module_count_is (d ∷ ds) = ap suc (module_count_is ds)

module_each : (ds : List ModuleDeclTree) (bytes rest : List ℕ) → Many ModuleDeclForm ds bytes rest → ModuleForm (module_decls ds) bytes rest
module_each [] bytes rest h = h
module_each (d ∷ ds) bytes rest h = (h.0, h.1, module_each ds h.0 rest h.2)

core_func_form : (bytes : List ℕ) (x : CoreTree × List ℕ) → core_func_at bytes ≡ Ok x → CoreForm x.0 (0x60 ∷ bytes) x.1
unfolding core_func_at
core_func_form bytes x e =
    let params = bind_ok (vector_at core_value_at bytes) _ x e in
    let results = bind_ok (vector_at core_value_at params.0.1) _ x params.2 in
    subst (λ (y : CoreTree × List ℕ). CoreForm y.0 (0x60 ∷ bytes) y.1) (ok_is (Func params.0.0 results.0.0, results.0.1) x results.2)
    (bytes, refl, (params.0.1, vector_form core_value_at CoreValForm core_value_form bytes params.0 params.1, vector_form core_value_at CoreValForm core_value_form params.0.1 results.0 results.1))

-- declarations that were read are those of a module type
AreDecls : ReaderOf (List ModuleDeclTree) → Type 0
AreDecls decls = (bytes : List ℕ) (ds : List ModuleDeclTree × List ℕ) → decls bytes ≡ Ok ds → (after : List ℕ) × Number (module_count (module_decls ds.0)) bytes after × ModuleForm (module_decls ds.0) after ds.1

core_with_form : (decls : ReaderOf (List ModuleDeclTree)) → AreDecls decls → IsSound (core_with decls) CoreForm
unfolding core_with module_at AreDecls
core_with_form decls sound bytes x e =
    let b = bind_ok (byte_at bytes) _ x e in
    let front = byte_form bytes b.0 b.1 in
    pick b.0.0 0x60 _ _ _ b.2 (λ h k. behind CoreForm 0x60 bytes b.0 x x front h refl (core_func_form b.0.1 x k)) (λ e.
    pick b.0.0 0x50 _ _ _ e (λ h k.
    let ds = bind_ok (decls b.0.1) _ x k in
    behind CoreForm 0x50 bytes b.0 (Module (module_decls ds.0.0), ds.0.1) x front h (ok_is _ x ds.2) (b.0.1, refl, sound b.0.1 ds.0 ds.1)) (λ e. absurd cc))

decls_form : (core : ReaderOf CoreTree) → IsSound core CoreForm → AreDecls (vector_at (module_decl_at core))
unfolding AreDecls
decls_form core sound bytes ds e =
    let h = vector_form (module_decl_at core) ModuleDeclForm (module_decl_form core sound) bytes ds e in
    (h.0, subst (λ (n : ℕ). Number n bytes h.0) (sym (module_count_is ds.0)) h.1, module_each ds.0 h.0 ds.1 h.2)

pub core_form : (scopes : ℕ) → IsSound (core_at scopes) CoreForm
unfolding core_at AreDecls
core_form zero = core_with_form (λ bytes. Err TooDeep) (λ bytes ds e. absurd cc)
core_form (suc scopes) = core_with_form (vector_at (module_decl_at (core_at scopes))) (decls_form (core_at scopes) (core_form scopes))

-- ---- complete

-- how many scopes are open in it, one behind the other, at most
abbrev mutual
  pub core_scopes : CoreTree → ℕ
  core_scopes (Func params results) = 0
  core_scopes (Module ds) = suc (module_scopes ds)

  pub module_decl_scopes : ModuleDeclTree → ℕ
  module_decl_scopes (Import m name item) = 0
  module_decl_scopes (CoreTy t) = core_scopes t
  module_decl_scopes (OuterAlias count index) = 0
  module_decl_scopes (Export name item) = 0

  pub module_scopes : ModuleDecls → ℕ
  module_scopes none = 0
  module_scopes (more d ds) = module_decl_scopes d + module_scopes ds

-- the declarations as a list
abbrev pub listed : ModuleDecls → List ModuleDeclTree
listed none = []
listed (more d ds) = d ∷ listed ds

listed_again : (ds : ModuleDecls) → module_decls (listed ds) ≡ ds
listed_again none = refl
listed_again (more d ds) = ap (more d) (listed_again ds)

mutual
  unfolding core_at core_with core_func_at module_at module_decl_at module_import_at module_alias_at module_export_at vector_at many_at carried_at

  pub core_again : (t : CoreTree) (scopes : ℕ) (bytes rest : List ℕ) → core_scopes t ≤ scopes → CoreForm t bytes rest → core_at scopes bytes ≡ Ok (t, rest)
  core_again (Func params results) zero bytes rest le h =
      rw (h.1, vector_again core_value_at CoreValForm core_value_again params h.0 h.2.0 h.2.1, vector_again core_value_at CoreValForm core_value_again results h.2.0 rest h.2.2) refl
  core_again (Func params results) (suc scopes) bytes rest le h =
      rw (h.1, vector_again core_value_at CoreValForm core_value_again params h.0 h.2.0 h.2.1, vector_again core_value_at CoreValForm core_value_again results h.2.0 rest h.2.2) refl
  core_again (Module ds) zero bytes rest le h = absurd (omega (arith, le))
  core_again (Module ds) (suc scopes) bytes rest le h =
      rw (h.1, number_again (module_count ds) h.0 h.2.0 h.2.1, module_again ds scopes h.2.0 rest (omega (arith, le)) h.2.2, listed_again ds) refl

  module_decl_again : (d : ModuleDeclTree) (scopes : ℕ) (bytes rest : List ℕ) → module_decl_scopes d ≤ scopes → ModuleDeclForm d bytes rest → module_decl_at (core_at scopes) bytes ≡ Ok (d, rest)
  module_decl_again (Import m name item) scopes bytes rest le h =
      rw (h.1, any_name_again m h.0 h.2.0 h.2.1, any_name_again name h.2.0 h.2.2.0 h.2.2.1, core_desc_again item h.2.2.0 rest h.2.2.2) refl
  module_decl_again (CoreTy t) scopes bytes rest le h = rw (h.1, core_again t scopes h.0 rest le h.2) refl
  module_decl_again (OuterAlias count index) scopes bytes rest le h =
      rw (h.1, h.2.1, h.2.2.1, number_again count h.2.2.0 h.2.2.2.0 h.2.2.2.1, number_again index h.2.2.2.0 rest h.2.2.2.2) refl
  module_decl_again (Export name item) scopes bytes rest le h = rw (h.1, any_name_again name h.0 h.2.0 h.2.1, core_desc_again item h.2.0 rest h.2.2) refl

  module_again : (ds : ModuleDecls) (scopes : ℕ) (bytes rest : List ℕ) → module_scopes ds ≤ scopes → ModuleForm ds bytes rest → many_at (module_decl_at (core_at scopes)) (module_count ds) bytes ≡ Ok (listed ds, rest)
  module_again none scopes bytes rest le h = ap (λ (r : List ℕ). Ok ([], r)) h
  module_again (more d ds) scopes bytes rest le h =
      rw (module_decl_again d scopes bytes h.0 (omega (arith, le)) h.1, module_again ds scopes h.0 rest (omega (arith, le)) h.2) refl

-- ---- written

mutual
  unfolding core_text module_decl_text module_text

  pub core_written : (t : CoreTree) (rest : List ℕ) → FitsCore t → CoreForm t (core_text t ++ rest) rest
  core_written (Func params results) rest fits =
      let ends : List ℕ = vector_text core_value_text results ++ rest in (
        (vector_text core_value_text params ++ vector_text core_value_text results) ++ rest,
        refl,
        (
          ends,
          rw append_assoc (vector_written core_value_at CoreValForm core_value_text (λ v. Unit {0}) (λ v rest fits. refl) params ends fits.0 (core_values_written params)),
          vector_written core_value_at CoreValForm core_value_text (λ v. Unit {0}) (λ v rest fits. refl) results rest fits.1 (core_values_written results),
        ),
      )
  core_written (Module ds) rest fits =
      ((number_text (module_count ds) ++ module_text ds) ++ rest, refl, (module_text ds ++ rest, rw append_assoc (number_written (module_count ds) (module_text ds ++ rest) fits.0), module_written ds rest fits.1))

  module_decl_written : (d : ModuleDeclTree) (rest : List ℕ) → FitsModuleDecl d → ModuleDeclForm d (module_decl_text d ++ rest) rest
  module_decl_written (Import m name item) rest fits =
      let items : List ℕ = core_desc_text item ++ rest in
      let names : List ℕ = name_text name ++ items in
      let regrouped : module_decl_text (Import m name item) ++ rest ≡ 0 ∷ (name_text m ++ names) = simp append_assoc in
      subst (λ (bytes : List ℕ). ModuleDeclForm (Import m name item) bytes rest) (sym regrouped)
      (name_text m ++ names, refl, (names, any_name_written m names fits.0, (items, any_name_written name items fits.1, core_desc_written item rest fits.2)))
  module_decl_written (CoreTy t) rest fits = (core_text t ++ rest, refl, core_written t rest fits)
  module_decl_written (OuterAlias count index) rest fits =
      let ends : List ℕ = number_text index ++ rest in
      let regrouped : module_decl_text (OuterAlias count index) ++ rest ≡ 2 ∷ 0x10 ∷ 1 ∷ (number_text count ++ ends) = simp append_assoc in
      subst (λ (bytes : List ℕ). ModuleDeclForm (OuterAlias count index) bytes rest) (sym regrouped)
      (0x10 ∷ 1 ∷ (number_text count ++ ends), refl, (1 ∷ (number_text count ++ ends), refl, (number_text count ++ ends, refl, (ends, number_written count ends fits.0, number_written index rest fits.1))))
  module_decl_written (Export name item) rest fits =
      let items : List ℕ = core_desc_text item ++ rest in
      let regrouped : module_decl_text (Export name item) ++ rest ≡ 3 ∷ (name_text name ++ items) = simp append_assoc in
      subst (λ (bytes : List ℕ). ModuleDeclForm (Export name item) bytes rest) (sym regrouped)
      (name_text name ++ items, refl, (items, any_name_written name items fits.0, core_desc_written item rest fits.1))

  module_written : (ds : ModuleDecls) (rest : List ℕ) → FitsModule ds → ModuleForm ds (module_text ds ++ rest) rest
  module_written none rest fits = refl
  module_written (more d ds) rest fits = (module_text ds ++ rest, rw append_assoc (module_decl_written d (module_text ds ++ rest) fits.0), module_written ds rest fits.1)
