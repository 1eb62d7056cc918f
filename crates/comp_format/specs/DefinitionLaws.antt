-- Types that hold declarations: what is read is a form, each form is read so, and what is written is a form.
use Rattle.std.proofs.Common.{◌≡◌, ℕ, zero, suc, ◌+◌, ◌^◌, ◌<◌, ◌≤◌, Bool, true, false, eqb, List, [], ◌∷◌, ◌++◌, length, Ok, Err, refl, sym, ap, subst, append_assoc, arith, inl}
use Rattle.std.proofs.lemmas.Bool.{ne_eqb}
use Rattle.warg_values.specs.ReadingLaws.{bind_ok, ok_is, guard_ok, wanted_ok, pick}
use Rattle.comp_format.specs.declared.types.TypeRef.{TypeRef}
use Rattle.comp_format.specs.declared.types.DefinedType.{DefinedType}
use Rattle.comp_format.specs.Fault.{Form, TooDeep}
use Rattle.comp_format.specs.Numbers.{FormOf, Then, Number, number_at, number_text}
use Rattle.comp_format.specs.Vectors.{ReaderOf, Many, vector_at, many_at, byte_at, mark_at, optional_at, name_text, optional_text}
use Rattle.comp_format.specs.Types.{defined_of, func_at, func_text}
use Rattle.comp_format.specs.Parts.{DescriptionForm, ExportName, description_at, export_name_at, alias_at, description_text, alias_text}
use Rattle.comp_format.specs.CoreTypes.{CoreTree, CoreForm, core_at, core_text}
use Rattle.comp_format.specs.Definitions.{TypeTree, Defined, Func, Component, Instance, Resource, DeclTree, CoreTy, Ty, Aliased, Import, Export, Decls, none, more, decls_of, decl_count, is_resource, is_declared, DefForm, DeclForm, DeclsForm, described_at, inner_type_at, inner_alias_at, decl_at, resource_at, type_with, definition_at, definition_text, decl_text, decls_text}
use Rattle.comp_format.specs.Fits.{FitsName, FitsType, FitsDefinition, FitsDecl, FitsDecls}
use Rattle.comp_format.specs.NumberLaws.{number_form, number_again, number_written}
use Rattle.comp_format.specs.VectorLaws.{IsSound, vector_form, name_written, byte_form, mark_form, behind, optional_form, optional_again, optional_written}
use Rattle.comp_format.specs.TypeLaws.{defined_form, defined_again, defined_written, func_form, func_again, func_written}
use Rattle.comp_format.specs.PartLaws.{description_form, description_again, description_written, export_name_form, export_name_again, alias_form, alias_again, alias_written}
use Rattle.comp_format.specs.CoreTypeLaws.{core_form, core_again, core_written, core_scopes}

-- ---- sound

-- an item under a name
Described : List ℕ → TypeRef → List ℕ → List ℕ → Type 0
Described name ty bytes rest = Then (ExportName name) (DescriptionForm ty) bytes rest

described_form : {X : Type 0} (item : List ℕ → TypeRef → X) (One : FormOf X) (bytes : List ℕ) (x : X × List ℕ) → described_at item bytes ≡ Ok x
    → ((name : List ℕ) (ty : TypeRef) (rest : List ℕ) → Described name ty bytes rest → One (item name ty) bytes rest) → One x.0 bytes x.1
unfolding described_at Described
described_form item One bytes x e made =
    let name = bind_ok (export_name_at bytes) _ x e in
    let ty = bind_ok (description_at name.0.1) _ x name.2 in
    subst (λ (y : _ × List ℕ). One y.0 bytes y.1) (ok_is (item name.0.0 ty.0.0, ty.0.1) x ty.2)
    (made name.0.0 ty.0.0 ty.0.1 (name.0.1, export_name_form bytes name.0 name.1, description_form name.0.1 ty.0 ty.1))

module _ (imports : Bool) where
  -- a declaration behind its byte
  After : ℕ → FormOf DeclTree
  After b d bytes rest = DeclForm imports d (b ∷ bytes) rest

  inner_type_form : (ty : ReaderOf TypeTree) → IsSound ty DefForm → (bytes : List ℕ) (x : DeclTree × List ℕ) → inner_type_at ty bytes ≡ Ok x → After 1 x.0 bytes x.1
  unfolding inner_type_at After
  inner_type_form ty sound bytes x e =
      let t = bind_ok (ty bytes) _ x e in
      let plain = guard_ok (is_resource t.0.0) Form _ x t.2 in
      subst (λ (y : DeclTree × List ℕ). After 1 y.0 bytes y.1) (ok_is (Ty t.0.0, t.0.1) x plain.1) (plain.0, (bytes, refl, sound bytes t.0 t.1))

  inner_alias_form : (bytes : List ℕ) (x : DeclTree × List ℕ) → inner_alias_at bytes ≡ Ok x → After 2 x.0 bytes x.1
  unfolding inner_alias_at After
  inner_alias_form bytes x e =
      let a = bind_ok (alias_at bytes) _ x e in
      let declared = wanted_ok (is_declared a.0.0) Form _ x a.2 in
      subst (λ (y : DeclTree × List ℕ). After 2 y.0 bytes y.1) (ok_is (Aliased a.0.0, a.0.1) x declared.1) (declared.0, (bytes, refl, alias_form bytes a.0 a.1))

  pub decl_form : (core : ReaderOf CoreTree) (ty : ReaderOf TypeTree) → IsSound core CoreForm → IsSound ty DefForm → IsSound (decl_at imports core ty) (DeclForm imports)
  unfolding decl_at After Described
  decl_form core ty core_sound sound bytes x e =
      let b = bind_ok (byte_at bytes) _ x e in
      let front = byte_form bytes b.0 b.1 in
      pick b.0.0 0 _ _ _ b.2 (λ h k.
      let t = bind_ok (core b.0.1) _ x k in
      behind (DeclForm imports) 0 bytes b.0 (CoreTy t.0.0, t.0.1) x front h (ok_is _ x t.2) (b.0.1, refl, core_sound b.0.1 t.0 t.1)) (λ e.
      pick b.0.0 1 _ _ _ e (λ h k. behind (DeclForm imports) 1 bytes b.0 x x front h refl (inner_type_form ty sound b.0.1 x k)) (λ e.
      pick b.0.0 2 _ _ _ e (λ h k. behind (DeclForm imports) 2 bytes b.0 x x front h refl (inner_alias_form b.0.1 x k)) (λ e.
      pick b.0.0 3 _ _ _ e (λ h k.
      let allowed = wanted_ok imports Form (described_at Import b.0.1) x k in
      behind (DeclForm imports) 3 bytes b.0 x x front h refl (described_form Import (After 3) b.0.1 x allowed.1 (λ name ty rest d. (allowed.0, (b.0.1, refl, d))))) (λ e.
      pick b.0.0 4 _ _ _ e (λ h k.
      behind (DeclForm imports) 4 bytes b.0 x x front h refl (described_form Export (After 4) b.0.1 x k (λ name ty rest d. (b.0.1, refl, d)))) (λ e. absurd cc)))))

  decl_each : (ds : List DeclTree) (bytes rest : List ℕ) → Many (DeclForm imports) ds bytes rest → DeclsForm imports (decls_of ds) bytes rest
  decl_each [] bytes rest h = h
  decl_each (d ∷ ds) bytes rest h = (h.0, h.1, decl_each ds h.0 rest h.2)

decl_count_is : (ds : List DeclTree) → decl_count (decls_of ds) ≡ length ds
decl_count_is [] = refl
decl_count_is (d ∷ ds) = ap suc (decl_count_is ds)

-- declarations that were read are those of a type
AreDecls : (Bool → ReaderOf (List DeclTree)) → Type 0
AreDecls decls =
    (imports : Bool) (bytes : List ℕ) (ds : List DeclTree × List ℕ) → decls imports bytes ≡ Ok ds
    → (after : List ℕ) × Number (decl_count (decls_of ds.0)) bytes after × DeclsForm imports (decls_of ds.0) after ds.1

resource_form : (bytes : List ℕ) (x : TypeTree × List ℕ) → resource_at bytes ≡ Ok x → DefForm x.0 (0x3f ∷ bytes) x.1
unfolding resource_at
resource_form bytes x e =
    let m = bind_ok (mark_at 0x7f bytes) _ x e in
    let d = bind_ok (optional_at number_at m.0) _ x m.2 in
    subst (λ (y : TypeTree × List ℕ). DefForm y.0 (0x3f ∷ bytes) y.1) (ok_is (Resource d.0.0, d.0.1) x d.2)
    (bytes, refl, (m.0, mark_form 0x7f bytes m.0 m.1, optional_form number_at Number number_form m.0 d.0 d.1))

type_with_form : (decls : Bool → ReaderOf (List DeclTree)) → AreDecls decls → IsSound (type_with decls) DefForm
unfolding type_with AreDecls
type_with_form decls sound bytes x e =
    let b = bind_ok (byte_at bytes) _ x e in
    let front = byte_form bytes b.0 b.1 in
    pick b.0.0 0x40 _ _ _ b.2 (λ h k.
    let f = bind_ok (func_at b.0.1) _ x k in
    behind DefForm 0x40 bytes b.0 (Func f.0.0, f.0.1) x front h (ok_is _ x f.2) (b.0.1, refl, func_form b.0.1 f.0 f.1)) (λ e.
    pick b.0.0 0x41 _ _ _ e (λ h k.
    let ds = bind_ok (decls true b.0.1) _ x k in
    behind DefForm 0x41 bytes b.0 (Component (decls_of ds.0.0), ds.0.1) x front h (ok_is _ x ds.2) (b.0.1, refl, sound true b.0.1 ds.0 ds.1)) (λ e.
    pick b.0.0 0x42 _ _ _ e (λ h k.
    let ds = bind_ok (decls false b.0.1) _ x k in
    behind DefForm 0x42 bytes b.0 (Instance (decls_of ds.0.0), ds.0.1) x front h (ok_is _ x ds.2) (b.0.1, refl, sound false b.0.1 ds.0 ds.1)) (λ e.
    pick b.0.0 0x3f _ _ _ e (λ h k. behind DefForm 0x3f bytes b.0 x x front h refl (resource_form b.0.1 x k)) (λ e.
    let d = bind_ok (defined_of b.0.0 b.0.1) _ x e in
    subst (λ (y : TypeTree × List ℕ). DefForm y.0 bytes y.1) (ok_is (Defined d.0.0, d.0.1) x d.2)
    (subst (λ (bs : List ℕ). DefForm (Defined d.0.0) bs d.0.1) (sym front) (defined_form b.0.0 b.0.1 d.0 d.1))))))

decls_form : (core : ReaderOf CoreTree) (ty : ReaderOf TypeTree) → IsSound core CoreForm → IsSound ty DefForm → AreDecls (λ imports. vector_at (decl_at imports core ty))
unfolding AreDecls
decls_form core ty core_sound sound imports bytes ds e =
    let h = vector_form (decl_at imports core ty) (DeclForm imports) (decl_form imports core ty core_sound sound) bytes ds e in
    (h.0, subst (λ (n : ℕ). Number n bytes h.0) (sym (decl_count_is ds.0)) h.1, decl_each imports ds.0 h.0 ds.1 h.2)

pub definition_form : (scopes : ℕ) → IsSound (definition_at scopes) DefForm
unfolding definition_at AreDecls
definition_form zero = type_with_form (λ imports bytes. Err TooDeep) (λ imports bytes ds e. absurd cc)
definition_form (suc scopes) =
    type_with_form (λ imports. vector_at (decl_at imports (core_at scopes) (definition_at scopes))) (decls_form (core_at scopes) (definition_at scopes) (core_form scopes) (definition_form scopes))

-- ---- complete

-- how many scopes are open in it, one behind the other, at most
abbrev mutual
  pub type_scopes : TypeTree → ℕ
  type_scopes (Defined d) = 0
  type_scopes (Func f) = 0
  type_scopes (Component ds) = suc (decls_scopes ds)
  type_scopes (Instance ds) = suc (decls_scopes ds)
  type_scopes (Resource destructor) = 0

  pub decl_scopes : DeclTree → ℕ
  decl_scopes (CoreTy t) = core_scopes t
  decl_scopes (Ty t) = type_scopes t
  decl_scopes (Aliased a) = 0
  decl_scopes (Import name ty) = 0
  decl_scopes (Export name ty) = 0

  pub decls_scopes : Decls → ℕ
  decls_scopes none = 0
  decls_scopes (more d ds) = decl_scopes d + decls_scopes ds

-- the declarations as a list
abbrev pub listed : Decls → List DeclTree
listed none = []
listed (more d ds) = d ∷ listed ds

listed_again : (ds : Decls) → decls_of (listed ds) ≡ ds
listed_again none = refl
listed_again (more d ds) = ap (more d) (listed_again ds)

-- what does not open a scope is read by any reader of declarations
flat_defined : (decls : Bool → ReaderOf (List DeclTree)) (d : DefinedType) (bytes rest : List ℕ) → DefForm (Defined d) bytes rest → type_with decls bytes ≡ Ok (Defined d, rest)
unfolding type_with
flat_defined decls d bytes rest h =
    let r = defined_again d bytes rest h in
    let low : 0x68 ≤ r.0 = r.3 in
    let apart : (c : ℕ) → c < 0x68 → eqb r.0 c ≡ false = λ c below. ne_eqb r.0 c (λ e. omega (arith, e, below, low)) in
    rw (r.2, apart 0x40 (omega arith), apart 0x41 (omega arith), apart 0x42 (omega arith), apart 0x3f (omega arith), r.5) refl

mutual
  unfolding definition_at type_with resource_at decl_at inner_type_at inner_alias_at described_at vector_at many_at mark_at

  pub definition_again : (t : TypeTree) (scopes : ℕ) (bytes rest : List ℕ) → type_scopes t ≤ scopes → DefForm t bytes rest → definition_at scopes bytes ≡ Ok (t, rest)
  definition_again (Defined d) zero bytes rest le h = flat_defined (λ imports bytes. Err TooDeep) d bytes rest h
  definition_again (Defined d) (suc scopes) bytes rest le h = flat_defined (λ imports. vector_at (decl_at imports (core_at scopes) (definition_at scopes))) d bytes rest h
  definition_again (Func f) zero bytes rest le h = rw (h.1, func_again f h.0 rest h.2) refl
  definition_again (Func f) (suc scopes) bytes rest le h = rw (h.1, func_again f h.0 rest h.2) refl
  definition_again (Component ds) zero bytes rest le h = absurd (omega (arith, le))
  definition_again (Component ds) (suc scopes) bytes rest le h =
      rw (h.1, number_again (decl_count ds) h.0 h.2.0 h.2.1, decls_again ds true scopes h.2.0 rest (omega (arith, le)) h.2.2, listed_again ds) refl
  definition_again (Instance ds) zero bytes rest le h = absurd (omega (arith, le))
  definition_again (Instance ds) (suc scopes) bytes rest le h =
      rw (h.1, number_again (decl_count ds) h.0 h.2.0 h.2.1, decls_again ds false scopes h.2.0 rest (omega (arith, le)) h.2.2, listed_again ds) refl
  definition_again (Resource destructor) zero bytes rest le h = rw (h.1, h.2.1, optional_again number_at Number number_again destructor h.2.0 rest h.2.2) refl
  definition_again (Resource destructor) (suc scopes) bytes rest le h = rw (h.1, h.2.1, optional_again number_at Number number_again destructor h.2.0 rest h.2.2) refl

  decl_again : (d : DeclTree) (imports : Bool) (scopes : ℕ) (bytes rest : List ℕ) → decl_scopes d ≤ scopes → DeclForm imports d bytes rest
      → decl_at imports (core_at scopes) (definition_at scopes) bytes ≡ Ok (d, rest)
  decl_again (CoreTy t) imports scopes bytes rest le h = rw (h.1, core_again t scopes h.0 rest le h.2) refl
  decl_again (Ty t) imports scopes bytes rest le h = rw (h.1.1, definition_again t scopes h.1.0 rest le h.1.2, h.0) refl
  decl_again (Aliased a) imports scopes bytes rest le h = rw (h.1.1, alias_again a h.1.0 rest h.1.2, h.0) refl
  decl_again (Import name ty) imports scopes bytes rest le h =
      rw (h.1.1, h.0, export_name_again name h.1.0 h.1.2.0 h.1.2.1, description_again ty h.1.2.0 rest h.1.2.2) refl
  decl_again (Export name ty) imports scopes bytes rest le h = rw (h.1, export_name_again name h.0 h.2.0 h.2.1, description_again ty h.2.0 rest h.2.2) refl

  decls_again : (ds : Decls) (imports : Bool) (scopes : ℕ) (bytes rest : List ℕ) → decls_scopes ds ≤ scopes → DeclsForm imports ds bytes rest
      → many_at (decl_at imports (core_at scopes) (definition_at scopes)) (decl_count ds) bytes ≡ Ok (listed ds, rest)
  decls_again none imports scopes bytes rest le h = ap (λ (r : List ℕ). Ok ([], r)) h
  decls_again (more d ds) imports scopes bytes rest le h =
      rw (decl_again d imports scopes bytes h.0 (omega (arith, le)) h.1, decls_again ds imports scopes h.0 rest (omega (arith, le)) h.2) refl

-- ---- written

described_written : (name : List ℕ) (ty : TypeRef) (rest : List ℕ) → FitsName name → FitsType ty → Then (ExportName name) (DescriptionForm ty) (0 ∷ ((name_text name ++ description_text ty) ++ rest)) rest
described_written name ty rest name_fits fits =
    let types : List ℕ = description_text ty ++ rest in
    let regrouped : (name_text name ++ description_text ty) ++ rest ≡ name_text name ++ types = simp append_assoc in
    subst (λ (bytes : List ℕ). Then (ExportName name) (DescriptionForm ty) (0 ∷ bytes) rest) (sym regrouped)
    (types, inl (name_text name ++ types, refl, name_written name types name_fits), description_written ty rest fits)

mutual
  unfolding definition_text decl_text decls_text

  pub definition_written : (t : TypeTree) (rest : List ℕ) → FitsDefinition t → DefForm t (definition_text t ++ rest) rest
  definition_written (Defined d) rest fits = defined_written d rest fits
  definition_written (Func f) rest fits = (func_text f ++ rest, refl, func_written f rest fits)
  definition_written (Component ds) rest fits =
      ((number_text (decl_count ds) ++ decls_text ds) ++ rest, refl, (decls_text ds ++ rest, rw append_assoc (number_written (decl_count ds) (decls_text ds ++ rest) fits.0), decls_written ds true rest fits.1))
  definition_written (Instance ds) rest fits =
      ((number_text (decl_count ds) ++ decls_text ds) ++ rest, refl, (decls_text ds ++ rest, rw append_assoc (number_written (decl_count ds) (decls_text ds ++ rest) fits.0), decls_written ds false rest fits.1))
  definition_written (Resource destructor) rest fits =
      (0x7f ∷ (optional_text number_text destructor ++ rest), refl, (optional_text number_text destructor ++ rest, refl, optional_written number_at Number number_text (λ n. n < 2 ^ 32) number_written destructor rest fits))

  decl_written : (d : DeclTree) (imports : Bool) (rest : List ℕ) → FitsDecl imports d → DeclForm imports d (decl_text d ++ rest) rest
  decl_written (CoreTy t) imports rest fits = (core_text t ++ rest, refl, core_written t rest fits)
  decl_written (Ty t) imports rest fits = (fits.0, (definition_text t ++ rest, refl, definition_written t rest fits.1))
  decl_written (Aliased a) imports rest fits = (fits.0, (alias_text a ++ rest, refl, alias_written a rest fits.1))
  decl_written (Import name ty) imports rest fits = (fits.0, (0 ∷ ((name_text name ++ description_text ty) ++ rest), refl, described_written name ty rest fits.1 fits.2))
  decl_written (Export name ty) imports rest fits = (0 ∷ ((name_text name ++ description_text ty) ++ rest), refl, described_written name ty rest fits.0 fits.1)

  decls_written : (ds : Decls) (imports : Bool) (rest : List ℕ) → FitsDecls imports ds → DeclsForm imports ds (decls_text ds ++ rest) rest
  decls_written none imports rest fits = refl
  decls_written (more d ds) imports rest fits = (decls_text ds ++ rest, rw append_assoc (decl_written d imports (decls_text ds ++ rest) fits.0), decls_written ds imports rest fits.1)
