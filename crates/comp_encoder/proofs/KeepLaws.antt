-- The bytes of an item read as it.
use Rattle.std.proofs.Common.{◌≡◌, ℕ, ◌<◌, ◌^◌, true, List, [], ◌++◌, length, Option, Some, None, Result, Ok, Err, Vec, Global, refl, ap, subst, ◌∙◌, sym, arith}
use Rattle.std.specs.Prelude.{IfOk, OnOk, MatchOption}
use Rattle.std.proofs.lemmas.List.{append-nil}
use Rattle.comp_format.specs.declared.error.EncodeError.{EncodeError}
use Rattle.comp_format.specs.declared.types.InstanceItem.{InstanceItem}
use Rattle.comp_format.specs.declared.types.Alias.{Alias}
use Rattle.comp_format.specs.declared.types.CoreInstance.{CoreInstance}
use Rattle.comp_format.specs.declared.types.Canon.{Canon}
use Rattle.comp_format.specs.Numbers.{FormOf}
use Rattle.comp_format.specs.Vectors.{ReaderOf, name_text}
use Rattle.comp_format.specs.Canons.{CanonForm, canon_at, canon_text}
use Rattle.comp_format.specs.CoreTypes.{CoreTree, CoreForm, core_text}
use Rattle.comp_format.specs.Definitions.{TypeTree, DefForm, definition_text}
use Rattle.comp_format.specs.Parts.{CoreInstanceForm, InstanceForm, AliasForm, core_instance_at, instance_at, alias_at, core_instance_text, instance_text, alias_text}
use Rattle.comp_format.specs.Items.{ImportTree, ExportTree, ItemTree, Custom, CoreModule, CoreMade, CoreTy, Component, Instance, Aliased, Ty, Canonical, Import, Export, ImportForm, ExportForm, import_at, export_at, import_text, export_text}
use Rattle.comp_format.specs.Fits.{FitsAnyName, FitsItem, FitsCoreInstance, FitsCore, FitsDefinition, FitsInstance, FitsAlias, FitsCanon, FitsImport, FitsExport, IsCoreModule, IsComponent}
use Rattle.comp_format.specs.VectorLaws.{IsComplete, any_name_again, any_name_written}
use Rattle.comp_format.specs.CanonLaws.{canon_again, canon_written}
use Rattle.comp_format.specs.PartLaws.{core_instance_again, core_instance_written, instance_again, instance_written, alias_again, alias_written}
use Rattle.comp_format.specs.CoreTypeLaws.{core_again, core_written}
use Rattle.comp_format.specs.DefinitionLaws.{definition_again, definition_written}
use Rattle.comp_format.specs.ScopeLaws.{core_within, definition_within}
use Rattle.comp_format.specs.ItemLaws.{import_again, import_written, export_again, export_written}
use Rattle.comp_encoder.specs.Writing.{is_shared, is_plain, item_id, item_text}
use Rattle.comp_encoder.specs.Builder.{IsBytesOf, item_of, read_as, custom_of}

-- what is written is read again, to the end
reads_back : {X : Type 0} (one : ReaderOf X) (One : FormOf X) (text : X → List ℕ) (x : X) → IsComplete one One → ((rest : List ℕ) → One x (text x ++ rest) rest) → one (text x) ≡ Ok (x, [])
reads_back one One text x complete written = complete x (text x) [] (subst (λ (t : List ℕ). One x t []) (append-nil (text x)) (written []))

bytes_custom : (name bytes : List ℕ) → FitsAnyName name → IsBytesOf (Custom name bytes) 0 (name_text name ++ bytes)
unfolding item_of
bytes_custom name bytes fits =
    record { is = ap custom_of (any_name_again name (name_text name ++ bytes) bytes (any_name_written name bytes fits)); id_is = refl; text = refl; fits = fits }

bytes_core_module : (bytes : List ℕ) → IsCoreModule bytes → IsBytesOf (CoreModule bytes) 1 bytes
unfolding item_of
bytes_core_module bytes fits = record { is = refl; id_is = refl; text = refl; fits = fits }

bytes_core_instance : (i : CoreInstance) → FitsCoreInstance i → IsBytesOf (CoreMade i) 2 (core_instance_text i)
unfolding item_of
bytes_core_instance i fits =
    record { is = ap (read_as CoreMade) (reads_back core_instance_at CoreInstanceForm core_instance_text i core_instance_again (λ rest. core_instance_written i rest fits)); id_is = refl; text = refl; fits = fits }

bytes_canon : (c : Canon) → FitsCanon c → IsBytesOf (Canonical c) 8 (canon_text c)
unfolding item_of
bytes_canon c fits = record { is = ap (read_as Canonical) (reads_back canon_at CanonForm canon_text c canon_again (λ rest. canon_written c rest fits)); id_is = refl; text = refl; fits = fits }

pub bytes_component : (bytes : List ℕ) → IsComponent bytes → IsBytesOf (Component bytes) 4 bytes
unfolding item_of
bytes_component bytes fits = record { is = refl; id_is = refl; text = refl; fits = fits }

pub bytes_instance : (i : InstanceItem) → FitsInstance i → IsBytesOf (Instance i) 5 (instance_text i)
unfolding item_of
bytes_instance i fits = record { is = ap (read_as Instance) (reads_back instance_at InstanceForm instance_text i instance_again (λ rest. instance_written i rest fits)); id_is = refl; text = refl; fits = fits }

pub bytes_alias : (a : Alias) → FitsAlias a → IsBytesOf (Aliased a) 6 (alias_text a)
unfolding item_of
bytes_alias a fits = record { is = ap (read_as Aliased) (reads_back alias_at AliasForm alias_text a alias_again (λ rest. alias_written a rest fits)); id_is = refl; text = refl; fits = fits }

pub bytes_import : (i : ImportTree) → FitsImport i → IsBytesOf (Import i) 10 (import_text i)
unfolding item_of
bytes_import i fits = record { is = ap (read_as Import) (reads_back import_at ImportForm import_text i import_again (λ rest. import_written i rest fits)); id_is = refl; text = refl; fits = fits }

pub bytes_export : (e : ExportTree) → FitsExport e → IsBytesOf (Export e) 11 (export_text e)
unfolding item_of
bytes_export e fits = record { is = ap (read_as Export) (reads_back export_at ExportForm export_text e export_again (λ rest. export_written e rest fits)); id_is = refl; text = refl; fits = fits }

pub bytes_type : (t : TypeTree) → FitsDefinition t → IsBytesOf (Ty t) 7 (definition_text t)
unfolding item_of
bytes_type t fits =
    let text : List ℕ = definition_text t in
    let form : DefForm t text [] = subst (λ (bytes : List ℕ). DefForm t bytes []) (append-nil text) (definition_written t [] fits) in
    record { is = ap (read_as Ty) (definition_again t (length text) text [] (omega (arith, definition_within t text [] form)) form); id_is = refl; text = refl; fits = fits }

pub bytes_core : (t : CoreTree) → FitsCore t → IsBytesOf (CoreTy t) 3 (core_text t)
unfolding item_of
bytes_core t fits =
    let text : List ℕ = core_text t in
    let form : CoreForm t text [] = subst (λ (bytes : List ℕ). CoreForm t bytes []) (append-nil text) (core_written t [] fits) in
    record { is = ap (read_as CoreTy) (core_again t (length text) text [] (omega (arith, core_within t text [] form)) form); id_is = refl; text = refl; fits = fits }

-- an item that has a written form, in its shortest spelling
pub bytes_item : (item : ItemTree) → FitsItem item → IsBytesOf item (item_id item) (item_text item)
bytes_item (Custom name bytes) fits = bytes_custom name bytes fits
bytes_item (CoreModule bytes) fits = bytes_core_module bytes fits
bytes_item (CoreMade i) fits = bytes_core_instance i fits
bytes_item (CoreTy t) fits = bytes_core t fits
bytes_item (Component bytes) fits = bytes_component bytes fits
bytes_item (Instance i) fits = bytes_instance i fits
bytes_item (Aliased a) fits = bytes_alias a fits
bytes_item (Ty t) fits = bytes_type t fits
bytes_item (Canonical c) fits = bytes_canon c fits
bytes_item (Import i) fits = bytes_import i fits
bytes_item (Export e) fits = bytes_export e fits

-- what was written of an item, with the bytes that it lends, are its bytes
pub written_kept : {A : Type 0} (now : A → List ℕ) (item : ItemTree) (start new : List ℕ) (lent : Option A) → FitsItem item → start ≡ []
    → MatchOption lent ((is_shared (item_id item) ≡ true) × (new ≡ start ++ item_text item)) (λ bytes. (is_plain (item_id item) ≡ true) × (new ++ now bytes ≡ start ++ item_text item))
    → MatchOption lent ((is_shared (item_id item) ≡ true) × IsBytesOf item (item_id item) new) (λ bytes. (is_plain (item_id item) ≡ true) × IsBytesOf item (item_id item) (new ++ now bytes))
written_kept now item start new None fits empty h = (h.0, subst (IsBytesOf item (item_id item)) (sym (h.1 ∙ ap (λ (t : List ℕ). t ++ item_text item) empty)) (bytes_item item fits))
written_kept now item start new (Some bytes) fits empty h = (h.0, subst (IsBytesOf item (item_id item)) (sym (h.1 ∙ ap (λ (t : List ℕ). t ++ item_text item) empty)) (bytes_item item fits))

-- an item is told by its bytes
pub bytes_of_it : (item : ItemTree) (id : ℕ) (bytes : List ℕ) → IsBytesOf item id bytes → IsBytesOf (item_of id bytes) id bytes
bytes_of_it item id bytes h = record { is = refl; id_is = ap item_id h.is ∙ h.id_is; text = ap item_text h.is ∙ h.text; fits = subst FitsItem (sym h.is) h.fits }

-- bytes that were written, where their largest number is small
pub if_written : (r : Result (Vec ℕ Global) EncodeError) (written : List ℕ) (largest : ℕ) (item : ItemTree) (id : ℕ) → IfOk r (λ bytes. bytes.items ≡ written) → OnOk r (largest < 2 ^ 32) → (largest < 2 ^ 32 → IsBytesOf item id written)
    → IfOk r (λ bytes. IsBytesOf item id bytes.items)
if_written (Ok bytes) written largest item id text small is = subst (IsBytesOf item id) (sym text) (is small)
if_written (Err e) written largest item id text small is = tt
