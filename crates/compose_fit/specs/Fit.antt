-- Wires fit: each wire gives what its import asks for, all resources being taken as one, and then with the origins of
-- resources in place of their names (Component Model, Explainer.md, "Type Checking").
use Rattle.std.specs.Prelude.{◌≡◌, ◌⊎◌, ℕ, ◌<◌, Bool, true, false, List, Option, Some, None, option_map, if◌then◌else◌}
use Rattle.std.specs.Option.{option_map_or}
use Rattle.comp_entity.specs.Entity.{EntityTree, IsInstance, Entries, no_entry, entry}
use Rattle.comp_entity.specs.Fits.{fits_loosely, fits_with, same_name, under}
use Rattle.compose_left.specs.Origins.{placed}
use Rattle.compose_left.specs.Wiring.{Wiring}
use Rattle.compose_fit.specs.Wires.{Given, Whole, Export, Joined}
use Rattle.compose_fit.specs.declared.misfit.Misfit.{Misfit}
use Rattle.compose_fit.specs.declared.misfit.Unfit.{Unfit}
use Rattle.compose_fit.specs.declared.misfit.Unfit.TheVariants as unfit

-- whether what one instance gives fits what another one asks for
abbrev pub Comparison : Type 0
Comparison = ℕ → EntityTree → ℕ → EntityTree → Bool

abbrev pub loosely : Comparison
loosely source given target asked = fits_loosely given asked

-- with origins in place
abbrev pub in_place : Wiring → Comparison
in_place w source given target asked = fits_with same_name (placed w source given) (placed w target asked)

-- an export that is asked for is there under its name, and fits
abbrev pub fits_under : Comparison → ℕ → Entries → ℕ → List ℕ → EntityTree → Bool
fits_under c source exports target name asked = option_map_or (λ e. c source e.0 target asked) (under name exports) false

abbrev pub AllFitted : Comparison → ℕ → Entries → ℕ → Entries → Type 0
AllFitted c source exports target no_entry = Unit {0}
AllFitted c source exports target (entry name asked mark rest) =
    (fits_under c source exports target name asked ≡ true) × AllFitted c source exports target rest

-- What is given fits what is asked for. Where an instance is given as a whole, an instance is asked for, and each of its
-- exports is fitted by the export of that name.
abbrev pub WireFits : Comparison → ℕ → Given → ℕ → EntityTree → Type 0
WireFits c source (Whole exports) target (IsInstance asked) = AllFitted c source exports target asked
WireFits c source (Whole exports) target _ = ⊥
WireFits c source (Export name e) target asked = c source e target asked ≡ true

-- what goes into this import of this instance fits, where anything does
abbrev pub FitsAt : Comparison → Wiring → ℕ → ℕ → Type 0
FitsAt c w target import = (j : Joined w target import) → WireFits c j.wire.source j.given target j.asked

abbrev pub EachFits : Comparison → Wiring → Type 0
EachFits c w = (target import : ℕ) → FitsAt c w target import

-- each wire fits loosely, and each with origins in place
pub record WiresFit (w : Wiring) : Type 0 where
  pub loosely : EachFits loosely w
  pub in_place : EachFits (in_place w) w

-- ---- the first wire that does not fit

-- the first export that is asked for and is not there, or does not fit
abbrev pub first_unfit : Comparison → ℕ → Entries → ℕ → Entries → Option (List ℕ)
first_unfit c source exports target no_entry = None
first_unfit c source exports target (entry name asked mark rest) =
    if fits_under c source exports target name asked then first_unfit c source exports target rest else Some name

-- why what is given does not fit, where it does not
abbrev pub why_unfit : Comparison → ℕ → Given → ℕ → EntityTree → Option Unfit
why_unfit c source (Whole exports) target (IsInstance asked) = option_map unfit.Export (first_unfit c source exports target asked)
why_unfit c source (Whole exports) target _ = Some unfit.NotInstance
why_unfit c source (Export name e) target asked = if c source e target asked then None else Some (unfit.Export name)

-- instances in the order made, and their imports in order
abbrev pub IsBefore : ℕ → ℕ → ℕ → ℕ → Type 0
IsBefore t i target import = (t < target) ⊎ ((t ≡ target) × (i < import))

-- the wire into this import of this instance does not fit, for this cause
pub record IsMisfitAt (c : Comparison) (w : Wiring) (target import : ℕ) (m : Misfit) : Type 0 where
  pub joined : Joined w target import
  pub into : m.target ≡ target
  pub named : m.import ≡ joined.name
  pub cause : why_unfit c joined.wire.source joined.given target joined.asked ≡ Some m.why

-- and what goes into each import before it does
pub record IsFirstMisfit (c : Comparison) (w : Wiring) (m : Misfit) : Type 0 where
  pub target : ℕ
  pub import : ℕ
  pub here : IsMisfitAt c w target import m
  pub before : (t i : ℕ) → IsBefore t i target import → FitsAt c w t i

-- the first one that does not fit loosely; or, where each does, the first that does not with origins in place
abbrev pub IsMisfit : Wiring → Misfit → Type 0
IsMisfit w m = IsFirstMisfit loosely w m ⊎ (EachFits loosely w × IsFirstMisfit (in_place w) w m)
