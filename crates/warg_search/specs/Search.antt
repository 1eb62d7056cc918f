-- The search of a plan: its lessons in turn, each learnt where the walk asks for it, and what it ends with.
use Rattle.std.specs.Prelude.{◌≡◌, List, [], ◌∷◌, codes, Some, Ok, Err, fold}
use Rattle.compose_config.specs.View.{settings_of}
use Rattle.compose_config.specs.declared.config.Config.{Config}
use Rattle.warg_plan.specs.Keys.{Key, Named}
use Rattle.warg_plan.specs.Walk.{Facts, Stop, NeedsContent, NeedsLog, Entry, nothing_known, most_open}
use Rattle.warg_plan.specs.View.{stop_view}
use Rattle.warg_plan.specs.declared.stop.Stop.{Stop as Stopped}
use Rattle.warg_assemble.specs.Session.{Wanted, walked}
use Rattle.warg_search.specs.declared.error.SearchError.{SearchError}
use Rattle.warg_search.specs.declared.error.SearchError.TheVariants as error

-- the plan of a text's settings that begins at a key
abbrev pub wanted_at : Config → Key → Wanted
wanted_at config root = record { settings = settings_of config; root = root; depth = most_open }

-- the plan of a text begins at its instance `root`
abbrev pub wanted_by : Config → Wanted
wanted_by config = wanted_at config (Named (codes "root"))

-- a stop of the walk asks for a log or a content
abbrev pub AsksFor : Stop → Type 0
AsksFor (NeedsLog name) = Unit {0}
AsksFor (NeedsContent name digest) = Unit {0}
AsksFor _ = ⊥

-- A learner comes from one state to the next by lessons, each of which teaches the walk something.
module _ {T P : Type 0} (teaches : Facts → P → Facts) (w : Wanted) (Learns : T → Stop → P → T → Type 0) where
  -- the walk stops over what is known, and what it asks for is learnt by this lesson
  pub record IsLearnt (f : Facts) (old : T) (p : P) (new : T) : Type 0 where
    pub stop : Stop
    pub stops : walked w f ≡ Err stop
    pub learns : Learns old stop p new

  -- each lesson is learnt where the walk asks for it
  unfoldable pub AreLearnt : Facts → T → List P → T → Type 0
  AreLearnt f old [] new = new ≡ old
  AreLearnt f old (p ∷ ps) new = (next : T) × IsLearnt f old p next × AreLearnt (teaches f p) next ps new

  -- the lessons that were learnt since a moment
  pub record HasLearnt (old new : T) : Type 0 where
    pub parts : List P
    pub are : AreLearnt nothing_known old parts new

  -- these lessons were learnt since a moment, and just what they teach is known
  pub record IsUnderWay (old now : T) (f : Facts) : Type 0 where
    pub parts : List P
    pub are : AreLearnt nothing_known old parts now
    pub knows : f ≡ fold teaches nothing_known parts

  -- over what they teach the walk finds this plan
  pub record Finds (old new : T) (es : List Entry) : Type 0 where
    pub parts : List P
    pub are : AreLearnt nothing_known old parts new
    pub finds : walked w (fold teaches nothing_known parts) ≡ Ok es

  -- over what they teach the walk stops, and asks for nothing
  pub record Stops (old new : T) (stop : Stopped) : Type 0 where
    pub parts : List P
    pub are : AreLearnt nothing_known old parts new
    pub told : Stop
    pub says : stop_view stop ≡ Some told
    pub final : ¬ AsksFor told
    pub stops : walked w (fold teaches nothing_known parts) ≡ Err told

  -- over what they teach the walk asks for something that is refused
  pub record IsUnlearnt {E : Type 0} (Refuses : T → Stop → E → T → Type 0) (old new : T) (e : E) : Type 0 where
    pub parts : List P
    pub before : T
    pub are : AreLearnt nothing_known old parts before
    pub stop : Stop
    pub stops : walked w (fold teaches nothing_known parts) ≡ Err stop
    pub refuses : Refuses before stop e new

  -- why a search finds no plan. Want of memory tells nothing but what was learnt before
  abbrev pub IsSearchRefusal : {E : Type 0} → (T → Stop → E → T → Type 0) → T → T → SearchError E → Type 0
  IsSearchRefusal Refuses old new (error.NoPlan stop) = Stops old new stop
  IsSearchRefusal Refuses old new (error.Refused e) = IsUnlearnt Refuses old new e
  IsSearchRefusal Refuses old new error.Memory = HasLearnt old new
