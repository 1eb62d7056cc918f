-- Canonical definitions: what is read is a form, each form is read so, and what is written is a form.
use Rattle.std.proofs.Common.{◌≡◌, ℕ, List, ◌∷◌, ◌++◌, Ok, refl, sym, subst, append_assoc}
use Rattle.std.proofs.lemmas.Bool.{lt-ltb}
use Rattle.std.proofs.lemmas.List.Elements.{recursion_from_All}
use Rattle.warg_values.specs.ReadingLaws.{bind_ok, ok_is, never, pick, pick_below}
use Rattle.comp_format.specs.declared.types.Canon.{Canon}
use Rattle.comp_format.specs.declared.types.Canon.TheVariants as canon
use Rattle.comp_format.specs.declared.types.CanonOption.{CanonOption}
use Rattle.comp_format.specs.declared.types.CanonOption.TheVariants as option
use Rattle.comp_format.specs.Numbers.{number_at, number_text}
use Rattle.comp_format.specs.Vectors.{vector_at, byte_at, mark_at, vector_text}
use Rattle.comp_format.specs.Canons.{OptionForm, CanonForm, option_at, lift_at, lower_at, canon_at, option_text, canon_text}
use Rattle.comp_format.specs.Fits.{FitsOption, FitsCanon}
use Rattle.comp_format.specs.NumberLaws.{number_form, number_again, number_written}
use Rattle.comp_format.specs.VectorLaws.{IsSound, IsComplete, vector_form, vector_again, vector_written, byte_form, mark_form, behind}

option_form : IsSound option_at OptionForm
unfolding option_at
option_form bytes x e =
    let b = bind_ok (byte_at bytes) _ x e in
    let front = byte_form bytes b.0 b.1 in
    pick_below b.0.0 3 _ _ _ b.2 (λ below k.
    subst (λ (y : CanonOption × List ℕ). OptionForm y.0 bytes y.1) (ok_is (option.Encoding b.0.0, b.0.1) x k) (below, front)) (λ _ e.
    pick b.0.0 3 _ _ _ e (λ h k.
    let i = bind_ok (number_at b.0.1) _ x k in
    behind OptionForm 3 bytes b.0 (option.Memory i.0.0, i.0.1) x front h (ok_is _ x i.2) (b.0.1, refl, number_form b.0.1 i.0 i.1)) (λ e.
    pick b.0.0 4 _ _ _ e (λ h k.
    let i = bind_ok (number_at b.0.1) _ x k in
    behind OptionForm 4 bytes b.0 (option.Realloc i.0.0, i.0.1) x front h (ok_is _ x i.2) (b.0.1, refl, number_form b.0.1 i.0 i.1)) (λ e.
    pick b.0.0 5 _ _ _ e (λ h k.
    let i = bind_ok (number_at b.0.1) _ x k in
    behind OptionForm 5 bytes b.0 (option.PostReturn i.0.0, i.0.1) x front h (ok_is _ x i.2) (b.0.1, refl, number_form b.0.1 i.0 i.1)) (λ e.
    pick_below b.0.0 8 _ _ _ e (λ _ k. never _ _ k) (λ _ k. never _ _ k)))))

option_again : IsComplete option_at OptionForm
unfolding option_at
option_again (option.Encoding code) bytes rest h = rw (h.1, lt-ltb code 3 h.0) refl
option_again (option.Memory i) bytes rest h = rw (h.1, number_again i h.0 rest h.2) refl
option_again (option.Realloc i) bytes rest h = rw (h.1, number_again i h.0 rest h.2) refl
option_again (option.PostReturn i) bytes rest h = rw (h.1, number_again i h.0 rest h.2) refl

option_written : (o : CanonOption) (rest : List ℕ) → FitsOption o → OptionForm o (option_text o ++ rest) rest
option_written (option.Encoding code) rest fits = (fits, refl)
option_written (option.Memory i) rest fits = (number_text i ++ rest, refl, number_written i rest fits)
option_written (option.Realloc i) rest fits = (number_text i ++ rest, refl, number_written i rest fits)
option_written (option.PostReturn i) rest fits = (number_text i ++ rest, refl, number_written i rest fits)

lift_form : (bytes : List ℕ) (x : Canon × List ℕ) → lift_at bytes ≡ Ok x → CanonForm x.0 (0 ∷ bytes) x.1
unfolding lift_at
lift_form bytes x e =
    let m = bind_ok (mark_at 0 bytes) _ x e in
    let f = bind_ok (number_at m.0) _ x m.2 in
    let options = bind_ok (vector_at option_at f.0.1) _ x f.2 in
    let ty = bind_ok (number_at options.0.1) _ x options.2 in
    subst (λ (y : Canon × List ℕ). CanonForm y.0 (0 ∷ bytes) y.1) (ok_is (canon.Lift f.0.0 options.0.0 ty.0.0, ty.0.1) x ty.2)
    (bytes, refl, (m.0, mark_form 0 bytes m.0 m.1, (f.0.1, number_form m.0 f.0 f.1, (options.0.1, vector_form option_at OptionForm option_form f.0.1 options.0 options.1, number_form options.0.1 ty.0 ty.1))))

lower_form : (bytes : List ℕ) (x : Canon × List ℕ) → lower_at bytes ≡ Ok x → CanonForm x.0 (1 ∷ bytes) x.1
unfolding lower_at
lower_form bytes x e =
    let m = bind_ok (mark_at 0 bytes) _ x e in
    let f = bind_ok (number_at m.0) _ x m.2 in
    let options = bind_ok (vector_at option_at f.0.1) _ x f.2 in
    subst (λ (y : Canon × List ℕ). CanonForm y.0 (1 ∷ bytes) y.1) (ok_is (canon.Lower f.0.0 options.0.0, options.0.1) x options.2)
    (bytes, refl, (m.0, mark_form 0 bytes m.0 m.1, (f.0.1, number_form m.0 f.0 f.1, vector_form option_at OptionForm option_form f.0.1 options.0 options.1)))

pub canon_form : IsSound canon_at CanonForm
unfolding canon_at
canon_form bytes x e =
    let b = bind_ok (byte_at bytes) _ x e in
    let front = byte_form bytes b.0 b.1 in
    pick b.0.0 0 _ _ _ b.2 (λ h k. behind CanonForm 0 bytes b.0 x x front h refl (lift_form b.0.1 x k)) (λ e.
    pick b.0.0 1 _ _ _ e (λ h k. behind CanonForm 1 bytes b.0 x x front h refl (lower_form b.0.1 x k)) (λ e.
    pick b.0.0 2 _ _ _ e (λ h k.
    let ty = bind_ok (number_at b.0.1) _ x k in
    behind CanonForm 2 bytes b.0 (canon.ResourceNew ty.0.0, ty.0.1) x front h (ok_is _ x ty.2) (b.0.1, refl, number_form b.0.1 ty.0 ty.1)) (λ e.
    pick b.0.0 3 _ _ _ e (λ h k.
    let ty = bind_ok (number_at b.0.1) _ x k in
    behind CanonForm 3 bytes b.0 (canon.ResourceDrop ty.0.0, ty.0.1) x front h (ok_is _ x ty.2) (b.0.1, refl, number_form b.0.1 ty.0 ty.1)) (λ e.
    pick b.0.0 4 _ _ _ e (λ h k.
    let ty = bind_ok (number_at b.0.1) _ x k in
    behind CanonForm 4 bytes b.0 (canon.ResourceRep ty.0.0, ty.0.1) x front h (ok_is _ x ty.2) (b.0.1, refl, number_form b.0.1 ty.0 ty.1)) (λ e. absurd cc)))))

pub canon_again : IsComplete canon_at CanonForm
unfolding canon_at lift_at lower_at mark_at
canon_again (canon.Lift f options ty) bytes rest h =
    rw (h.1, h.2.1, number_again f h.2.0 h.2.2.0 h.2.2.1, vector_again option_at OptionForm option_again options h.2.2.0 h.2.2.2.0 h.2.2.2.1, number_again ty h.2.2.2.0 rest h.2.2.2.2) refl
canon_again (canon.Lower f options) bytes rest h =
    rw (h.1, h.2.1, number_again f h.2.0 h.2.2.0 h.2.2.1, vector_again option_at OptionForm option_again options h.2.2.0 rest h.2.2.2) refl
canon_again (canon.ResourceNew ty) bytes rest h = rw (h.1, number_again ty h.0 rest h.2) refl
canon_again (canon.ResourceDrop ty) bytes rest h = rw (h.1, number_again ty h.0 rest h.2) refl
canon_again (canon.ResourceRep ty) bytes rest h = rw (h.1, number_again ty h.0 rest h.2) refl

pub canon_written : (c : Canon) (rest : List ℕ) → FitsCanon c → CanonForm c (canon_text c ++ rest) rest
canon_written (canon.Lift f options ty) rest fits =
    let types : List ℕ = number_text ty ++ rest in
    let ends : List ℕ = vector_text option_text options ++ types in
    let regrouped : canon_text (canon.Lift f options ty) ++ rest ≡ 0 ∷ 0 ∷ (number_text f ++ ends) = simp append_assoc in
    subst (λ (bytes : List ℕ). CanonForm (canon.Lift f options ty) bytes rest) (sym regrouped) (
      0 ∷ (number_text f ++ ends),
      refl,
      (
        number_text f ++ ends,
        refl,
        (ends, number_written f ends fits.0, (types, vector_written option_at OptionForm option_text FitsOption option_written options types fits.1 (recursion_from_All FitsOption options fits.2), number_written ty rest fits.3)),
      ),
    )
canon_written (canon.Lower f options) rest fits =
    let ends : List ℕ = vector_text option_text options ++ rest in
    let regrouped : canon_text (canon.Lower f options) ++ rest ≡ 1 ∷ 0 ∷ (number_text f ++ ends) = simp append_assoc in
    subst (λ (bytes : List ℕ). CanonForm (canon.Lower f options) bytes rest) (sym regrouped) (
      0 ∷ (number_text f ++ ends),
      refl,
      (number_text f ++ ends, refl, (ends, number_written f ends fits.0, vector_written option_at OptionForm option_text FitsOption option_written options rest fits.1 (recursion_from_All FitsOption options fits.2))),
    )
canon_written (canon.ResourceNew ty) rest fits = (number_text ty ++ rest, refl, number_written ty rest fits)
canon_written (canon.ResourceDrop ty) rest fits = (number_text ty ++ rest, refl, number_written ty rest fits)
canon_written (canon.ResourceRep ty) rest fits = (number_text ty ++ rest, refl, number_written ty rest fits)
