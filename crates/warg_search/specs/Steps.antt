-- One step of a search: what a stop of the walk asks for is learnt, or refused.
use Rattle.std.specs.Prelude.{◌≡◌, ◌⊎◌, Some}
use Rattle.warg_plan.specs.Known.{Extends, IsUnknown}
use Rattle.warg_plan.specs.Walk.{Facts, Stop}
use Rattle.warg_plan.specs.View.{stop_view}
use Rattle.warg_plan.specs.declared.stop.Stop.{Stop as Stopped}
use Rattle.warg_search.specs.Search.{AsksFor}
use Rattle.warg_search.specs.declared.error.SearchError.{SearchError}
use Rattle.warg_search.specs.declared.error.SearchError.TheVariants as error

module _ {T P : Type 0} (teaches : Facts → P → Facts) (Learns : T → Stop → P → T → Type 0) where
  -- what a stop asks for is learnt, and known from then on
  pub record IsStep (asked : Stop) (old new : T) (before after : Facts) : Type 0 where
    pub part : P
    pub learns : Learns old asked part new
    pub knows : after ≡ teaches before part
    pub more : IsUnknown before asked → Extends before after

  -- what a stop asks for is learnt, but there is no memory to know it
  pub record IsForgotten (asked : Stop) (old new : T) : Type 0 where
    pub part : P
    pub learns : Learns old asked part new

  -- why a step teaches nothing, where the walk stopped so
  abbrev pub IsStepFault : {E : Type 0} → (T → Stop → E → T → Type 0) → Stopped → T → T → SearchError E → Type 0
  IsStepFault Refuses stopped old new (error.NoPlan stop) =
      (told : Stop) × (stop_view stop ≡ Some told) × (¬ AsksFor told) × (stop ≡ stopped) × (new ≡ old)
  IsStepFault Refuses stopped old new (error.Refused e) =
      (asked : Stop) × (stop_view stopped ≡ Some asked) × Refuses old asked e new
  IsStepFault Refuses stopped old new error.Memory =
      (new ≡ old) ⊎ ((asked : Stop) × (stop_view stopped ≡ Some asked) × IsForgotten asked old new)
