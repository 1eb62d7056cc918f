-- Laws of why a wire does not fit.
use Rattle.std.specs.Prelude.{◌≡◌, ℕ, Bool, true, false, List, Option, Some, None, option_map, refl, cond}
use Rattle.std.specs.Option.{option_map_or}
use Rattle.std.specs.Str.{bytes_eq}
use Rattle.std.proofs.Common.{sym, ◌∙◌, ap, subst, inl, inr}
use Rattle.std.proofs.lemmas.Option.{same_Some}
use Rattle.comp_entity.specs.Entity.{EntityTree, IsType, IsFunc, IsInstance, IsComponent, IsModule, IsOwnModule, Entries, no_entry, entry}
use Rattle.comp_entity.specs.Fits.{fits_with, same_name, under}
use Rattle.comp_entity.specs.Names.{Change, entity_by, entries_by}
use Rattle.compose_left.specs.declared.wiring.Wire.{Wire}
use Rattle.compose_left.specs.Wiring.{Wiring, wire_into}
use Rattle.compose_fit.specs.declared.misfit.Misfit.{Misfit}
use Rattle.compose_fit.specs.declared.misfit.Unfit.{Unfit}
use Rattle.compose_fit.specs.declared.misfit.Unfit.TheVariants as unfit
use Rattle.compose_fit.specs.Wires.{Given, Whole, Export, given_by, asked_at}
use Rattle.compose_fit.specs.Fit.{Comparison, loosely, in_place, fits_under, AllFitted, WireFits, FitsAt, EachFits, WiresFit, first_unfit, why_unfit, IsMisfitAt, IsFirstMisfit, IsMisfit}
use Rattle.compose_fit.specs.Seen.{compared_by, given_in, plainly}

no_some : {X : Type 0} (x : X) → None ≡ Some x → ⊥
no_some x e = absurd cc

-- ---- in other names

under_by : (c : Change) (name : List ℕ) (es : Entries) → under name (entries_by c 0 es) ≡ option_map (λ (e : EntityTree × Bool). (entity_by c 0 e.0, c.mark e.1)) (under name es)
under_by c name no_entry = refl
under_by c name (entry n e mark es) = one (bytes_eq name n) (under_by c name es)
  where
    one : (b : Bool) → under name (entries_by c 0 es) ≡ option_map (λ (e : EntityTree × Bool). (entity_by c 0 e.0, c.mark e.1)) (under name es)
        → cond b (Some (entity_by c 0 e, c.mark mark)) (under name (entries_by c 0 es)) ≡ option_map (λ (e : EntityTree × Bool). (entity_by c 0 e.0, c.mark e.1)) (cond b (Some (e, mark)) (under name es))
    one true h = refl
    one false h = h

module _ (c : ℕ → Change) (i j : ℕ) where
  fits_under_by : (es : Entries) (name : List ℕ) (asked : EntityTree) → fits_under plainly 0 (entries_by (c i) 0 es) 0 name (entity_by (c j) 0 asked) ≡ fits_under (compared_by c) i es j name asked
  fits_under_by es name asked = ap (λ o. option_map_or (λ (e : EntityTree × Bool). fits_with same_name e.0 (entity_by (c j) 0 asked)) o false) (under_by (c i) name es) ∙ one (under name es)
    where
      one : (o : Option (EntityTree × Bool)) → option_map_or (λ (e : EntityTree × Bool). fits_with same_name e.0 (entity_by (c j) 0 asked)) (option_map (λ (e : EntityTree × Bool). (entity_by (c i) 0 e.0, (c i).mark e.1)) o) false
          ≡ option_map_or (λ (e : EntityTree × Bool). compared_by c i e.0 j asked) o false
      one None = refl
      one (Some e) = refl

  first_unfit_by : (es fs : Entries) → first_unfit plainly 0 (entries_by (c i) 0 es) 0 (entries_by (c j) 0 fs) ≡ first_unfit (compared_by c) i es j fs
  first_unfit_by es no_entry = refl
  first_unfit_by es (entry name e mark fs) = λ k. cond (fits_under_by es name e k) (first_unfit_by es fs k) (Some name)

  pub why_by : (g : Given) (e : EntityTree) → why_unfit plainly 0 (given_in (c i) g) 0 (entity_by (c j) 0 e) ≡ why_unfit (compared_by c) i g j e
  why_by (Whole es) (IsInstance fs) = ap (option_map unfit.Export) (first_unfit_by es fs)
  why_by (Whole es) (IsType t) = refl
  why_by (Whole es) (IsFunc f) = refl
  why_by (Whole es) (IsComponent is fs) = refl
  why_by (Whole es) (IsModule m) = refl
  why_by (Whole es) IsOwnModule = refl
  why_by (Export name x) e = refl

-- ---- what fits

none_mapped : {X Y : Type 0} (f : X → Y) (o : Option X) → option_map f o ≡ None → o ≡ None
none_mapped f None e = refl
none_mapped f (Some x) e = absurd cc

module _ (c : Comparison) (i j : ℕ) where
  fitted : (es fs : Entries) → first_unfit c i es j fs ≡ None → AllFitted c i es j fs
  fitted es no_entry e = tt
  fitted es (entry name x mark fs) e = one (fits_under c i es j name x) refl e (fitted es fs)
    where
      one : (b : Bool) → fits_under c i es j name x ≡ b → cond b (first_unfit c i es j fs) (Some name) ≡ None → (first_unfit c i es j fs ≡ None → AllFitted c i es j fs) → (fits_under c i es j name x ≡ true) × AllFitted c i es j fs
      one true is e rest = (is, rest e)
      one false is e rest = absurd (no_some name (sym e))

  wire_fits : (g : Given) (e : EntityTree) → why_unfit c i g j e ≡ None → WireFits c i g j e
  wire_fits (Whole es) (IsInstance fs) h = fitted es fs (none_mapped unfit.Export (first_unfit c i es j fs) h)
  wire_fits (Whole es) (IsType t) h = absurd cc
  wire_fits (Whole es) (IsFunc f) h = absurd cc
  wire_fits (Whole es) (IsComponent is fs) h = absurd cc
  wire_fits (Whole es) (IsModule m) h = absurd cc
  wire_fits (Whole es) IsOwnModule h = absurd cc
  wire_fits (Export name x) e h = one (c i x j e) refl h
    where
      one : (b : Bool) → c i x j e ≡ b → cond b None (Some (unfit.Export name)) ≡ None → c i x j e ≡ true
      one true is h = is
      one false is h = absurd (no_some (unfit.Export name) (sym h))

-- ---- what goes into an import

module _ (c : Comparison) (w : Wiring) (target import : ℕ) where
  pub no_wire : wire_into w.wires target import ≡ None → FitsAt c w target import
  no_wire e j = absurd (no_some j.wire (sym e ∙ j.wired))

  pub no_given : (wire : Wire) → wire_into w.wires target import ≡ Some wire → given_by w.shapes wire ≡ None → FitsAt c w target import
  no_given wire wired gives j =
      let same : wire ≡ j.wire = same_Some wire j.wire (sym wired ∙ j.wired) in
      absurd (no_some j.given (sym gives ∙ ap (given_by w.shapes) same ∙ j.gives))

  pub no_asked : asked_at w.shapes target import ≡ None → FitsAt c w target import
  no_asked e j = absurd (no_some (j.name, j.asked) (sym e ∙ j.asks))

  module _ (wire : Wire) (g : Given) (x : List ℕ × EntityTree) (wired : wire_into w.wires target import ≡ Some wire) (gives : given_by w.shapes wire ≡ Some g) (asks : asked_at w.shapes target import ≡ Some x) where
    pub all_fits : why_unfit c wire.source g target x.1 ≡ None → FitsAt c w target import
    all_fits why j =
        let same_wire : wire ≡ j.wire = same_Some wire j.wire (sym wired ∙ j.wired) in
        let same_given : g ≡ j.given = same_Some g j.given (sym gives ∙ ap (given_by w.shapes) same_wire ∙ j.gives) in
        let same_asked : x ≡ (j.name, j.asked) = same_Some x (j.name, j.asked) (sym asks ∙ j.asks) in
        subst (λ (y : Wire). WireFits c y.source j.given target j.asked) same_wire
        (subst (λ (y : Given). WireFits c wire.source y target j.asked) same_given
        (subst (λ (y : List ℕ × EntityTree). WireFits c wire.source g target y.1) same_asked (wire_fits c wire.source target g x.1 why)))

    pub is_misfit : (m : Misfit) → m.target ≡ target → m.import ≡ x.0 → why_unfit c wire.source g target x.1 ≡ Some m.why → IsMisfitAt c w target import m
    is_misfit m into named why = record {
      joined = record { wire = wire; name = x.0; asked = x.1; given = g; wired = wired; asks = asks; gives = gives };
      into = into;
      named = named;
      cause = why;
    }

-- ---- what does not fit

module _ (c : Comparison) (i j : ℕ) where
  none_unfit : (es fs : Entries) → AllFitted c i es j fs → first_unfit c i es j fs ≡ None
  none_unfit es no_entry a = refl
  none_unfit es (entry name x mark fs) a = ap (λ b. cond b (first_unfit c i es j fs) (Some name)) a.0 ∙ none_unfit es fs a.1

  unfit_not : (g : Given) (e : EntityTree) (why : Unfit) → why_unfit c i g j e ≡ Some why → WireFits c i g j e → ⊥
  unfit_not (Whole es) (IsInstance fs) why h fits = no_some why (sym (ap (option_map unfit.Export) (none_unfit es fs fits)) ∙ h)
  unfit_not (Whole es) (IsType t) why h fits = fits
  unfit_not (Whole es) (IsFunc f) why h fits = fits
  unfit_not (Whole es) (IsComponent is fs) why h fits = fits
  unfit_not (Whole es) (IsModule m) why h fits = fits
  unfit_not (Whole es) IsOwnModule why h fits = fits
  unfit_not (Export name x) e why h fits = no_some why (sym (ap (λ b. cond b None (Some (unfit.Export name))) fits) ∙ h)

first_not : (c : Comparison) (w : Wiring) (m : Misfit) → IsFirstMisfit c w m → EachFits c w → ⊥
first_not c w m f each =
    let j = f.here.joined in
    unfit_not c j.wire.source f.target j.given j.asked m.why f.here.cause (each f.target f.import j)

pub misfit_not : (w : Wiring) (m : Misfit) → IsMisfit w m → WiresFit w → ⊥
misfit_not w m (inl f) fit = first_not loosely w m f fit.loosely
misfit_not w m (inr f) fit = first_not (in_place w) w m f.1 fit.in_place
