-- Imports and exports: what is read is a form, each form is read so, and what is written is a form.
use Rattle.std.proofs.Common.{◌≡◌, ℕ, List, ◌∷◌, ◌++◌, refl, sym, subst, append_assoc, inl}
use Rattle.warg_values.specs.ReadingLaws.{bind_ok, ok_is}
use Rattle.comp_format.specs.Numbers.{number_at, number_text}
use Rattle.comp_format.specs.Vectors.{optional_at, name_text, optional_text}
use Rattle.comp_format.specs.Parts.{DescriptionForm, sort_at, description_at, export_name_at, sort_text, description_text}
use Rattle.comp_format.specs.Items.{ImportTree, ExportTree, ImportForm, ExportForm, import_at, export_at, import_text, export_text}
use Rattle.comp_format.specs.Fits.{FitsType, FitsImport, FitsExport}
use Rattle.comp_format.specs.NumberLaws.{number_form, number_again, number_written}
use Rattle.comp_format.specs.VectorLaws.{IsSound, IsComplete, name_written, optional_form, optional_again, optional_written}
use Rattle.comp_format.specs.PartLaws.{sort_form, sort_again, sort_written, description_form, description_again, description_written, export_name_form, export_name_again}

-- ---- imports

pub import_form : IsSound import_at ImportForm
unfolding import_at
import_form bytes x e =
    let name = bind_ok (export_name_at bytes) _ x e in
    let ty = bind_ok (description_at name.0.1) _ x name.2 in
    let made : ImportTree × List ℕ = (record { name = name.0.0; ty = ty.0.0 }, ty.0.1) in
    subst (λ (y : ImportTree × List ℕ). ImportForm y.0 bytes y.1) (ok_is made x ty.2) (name.0.1, export_name_form bytes name.0 name.1, description_form name.0.1 ty.0 ty.1)

pub import_again : IsComplete import_at ImportForm
unfolding import_at
import_again i bytes rest h = rw (export_name_again i.name bytes h.0 h.1, description_again i.ty h.0 rest h.2) refl

pub import_written : (i : ImportTree) (rest : List ℕ) → FitsImport i → ImportForm i (import_text i ++ rest) rest
import_written i rest fits =
    let types : List ℕ = description_text i.ty ++ rest in
    let regrouped : import_text i ++ rest ≡ 0 ∷ (name_text i.name ++ types) = simp append_assoc in
    subst (λ (bytes : List ℕ). ImportForm i bytes rest) (sym regrouped)
    (types, inl (name_text i.name ++ types, refl, name_written i.name types fits.name), description_written i.ty rest fits.ty)

-- ---- exports

pub export_form : IsSound export_at ExportForm
unfolding export_at
export_form bytes x e =
    let name = bind_ok (export_name_at bytes) _ x e in
    let kind = bind_ok (sort_at name.0.1) _ x name.2 in
    let index = bind_ok (number_at kind.0.1) _ x kind.2 in
    let ty = bind_ok (optional_at description_at index.0.1) _ x index.2 in
    let made : ExportTree × List ℕ = (record { name = name.0.0; sort = kind.0.0; index = index.0.0; ty = ty.0.0 }, ty.0.1) in
    subst (λ (y : ExportTree × List ℕ). ExportForm y.0 bytes y.1) (ok_is made x ty.2) (
      name.0.1,
      export_name_form bytes name.0 name.1,
      (
        kind.0.1,
        sort_form name.0.1 kind.0 kind.1,
        (
          index.0.1,
          number_form kind.0.1 index.0 index.1,
          optional_form description_at DescriptionForm description_form index.0.1 ty.0 ty.1,
        ),
      ),
    )

pub export_again : IsComplete export_at ExportForm
unfolding export_at
export_again e bytes rest h =
    rw (
      export_name_again e.name bytes h.0 h.1,
      sort_again e.sort h.0 h.2.0 h.2.1,
      number_again e.index h.2.0 h.2.2.0 h.2.2.1,
      optional_again description_at DescriptionForm description_again e.ty h.2.2.0 rest h.2.2.2,
    ) refl

pub export_written : (e : ExportTree) (rest : List ℕ) → FitsExport e → ExportForm e (export_text e ++ rest) rest
export_written e rest fits =
    let types : List ℕ = optional_text description_text e.ty ++ rest in
    let indices : List ℕ = number_text e.index ++ types in
    let sorts : List ℕ = sort_text e.sort ++ indices in
    let regrouped : export_text e ++ rest ≡ 0 ∷ (name_text e.name ++ sorts) = simp append_assoc in
    subst (λ (bytes : List ℕ). ExportForm e bytes rest) (sym regrouped) (
      sorts,
      inl (name_text e.name ++ sorts, refl, name_written e.name sorts fits.name),
      (indices, sort_written e.sort indices, (types, number_written e.index types fits.index, optional_written description_at DescriptionForm description_text FitsType description_written e.ty rest fits.ty)),
    )
