-- The contents of releases that are asked for: over what is known, and as they are learnt in turn.
use Rattle.std.specs.Prelude.{◌≡◌, ◌⊎◌, ℕ, List, [], ◌∷◌, Option, Some, Result, Ok, Err, fold, option_map, option_and_then}
use Rattle.std.specs.Result.{result_ok}
use Rattle.warg_values.specs.Reading.{◌>>=◌}
use Rattle.warg_names.specs.Import.{ImportTree}
use Rattle.warg_plan.specs.Keys.{Parsed, choice_for, of_package}
use Rattle.warg_plan.specs.Known.{Extends}
use Rattle.warg_plan.specs.Walk.{Content, Facts, Stop, NeedsContent, NeedsLog, NoPackage, NoRelease, content_in, log_in, or_stop}
use Rattle.warg_plan.specs.View.{stop_view}
use Rattle.warg_plan.specs.declared.stop.Stop.{Stop as Stopped}
use Rattle.warg_search.specs.Search.{AsksFor}
use Rattle.warg_search.specs.declared.error.SearchError.{SearchError}
use Rattle.warg_search.specs.declared.error.SearchError.TheVariants as search
use Rattle.warg_bundle.specs.Asked.{release_asked}

-- The content of the release that is asked for, over what is known: by its package's log the release, and by its digest the
-- content.
unfoldable pub content_of : Facts → ImportTree → Result Content Stop
content_of f asked =
    or_stop (NoPackage (Parsed asked)) (of_package asked) >>= λ i.
    or_stop (NeedsLog i.name) (log_in f i.name) >>= λ log.
    or_stop (NoRelease i.name) (choice_for i log) >>= λ r.
    or_stop (NeedsContent i.name r.1) (content_in f r.1)

-- the contents of releases, in order, or the first thing that is needed for one of them
unfoldable pub contents_of : Facts → List ImportTree → Result (List Content) Stop
contents_of f [] = Ok []
contents_of f (i ∷ is) = content_of f i >>= λ c. contents_of f is >>= λ cs. Ok (c ∷ cs)

-- the bytes of the content of the release that a name asks for
abbrev pub release_content : Facts → List ℕ → Option (List ℕ)
release_content f name =
    option_map (λ c. c.bytes) (option_and_then (λ i. result_ok (content_of f i)) (release_asked name))

-- A learner comes from one state to the next by lessons. What is asked for is an answer over what is known, or stops for
-- something that is needed first.
module _ {T P X : Type 0} (teaches : Facts → P → Facts) (answer : Facts → Result X Stop) (Learns : T → Stop → P → T → Type 0) where
  -- what is needed first is learnt by this lesson, and what was known stays known
  pub record IsLearnt (f : Facts) (old : T) (p : P) (new : T) : Type 0 where
    pub stop : Stop
    pub stops : answer f ≡ Err stop
    pub learns : Learns old stop p new
    pub more : Extends f (teaches f p)

  -- each lesson is learnt where it is needed
  unfoldable pub AreLearnt : Facts → T → List P → T → Type 0
  AreLearnt f old [] new = new ≡ old
  AreLearnt f old (p ∷ ps) new = (next : T) × IsLearnt f old p next × AreLearnt (teaches f p) next ps new

  -- by lessons since a moment this is known
  pub record HasLearnt (f : Facts) (old : T) (g : Facts) (new : T) : Type 0 where
    pub lessons : List P
    pub are : AreLearnt f old lessons new
    pub knows : g ≡ fold teaches f lessons

  -- and over that the answer is this
  pub record IsAnswered (f : Facts) (old : T) (g : Facts) (new : T) (x : X) : Type 0 where
    pub learnt : HasLearnt f old g new
    pub gives : answer g ≡ Ok x

  -- there is no package, or no release, as is asked for
  pub record IsMissing (f : Facts) (old new : T) (stop : Stopped) : Type 0 where
    pub facts : Facts
    pub learnt : HasLearnt f old facts new
    pub told : Stop
    pub says : stop_view stop ≡ Some told
    pub final : ¬ AsksFor told
    pub stops : answer facts ≡ Err told

  -- what is needed first is refused
  pub record IsUnlearnt {E : Type 0} (Refuses : T → Stop → E → T → Type 0) (f : Facts) (old new : T) (e : E) : Type 0 where
    pub facts : Facts
    pub before : T
    pub learnt : HasLearnt f old facts before
    pub stop : Stop
    pub stops : answer facts ≡ Err stop
    pub refuses : Refuses before stop e new

  -- what is needed first was learnt, but there was no memory to know it
  pub record IsForgotten (f : Facts) (old new : T) : Type 0 where
    pub stop : Stop
    pub stops : answer f ≡ Err stop
    pub lesson : P
    pub learns : Learns old stop lesson new

  -- lessons were learnt since a moment, of which the last may be forgotten
  pub record HasGoneOn (f : Facts) (old new : T) : Type 0 where
    pub facts : Facts
    pub between : T
    pub learnt : HasLearnt f old facts between
    pub last : (new ≡ between) ⊎ IsForgotten facts between new

  -- why there is no answer. Want of memory tells nothing but what was learnt before
  abbrev pub IsUnanswered : {E : Type 0} → (T → Stop → E → T → Type 0) → Facts → T → T → SearchError E → Type 0
  IsUnanswered Refuses f old new (search.NoPlan stop) = IsMissing f old new stop
  IsUnanswered Refuses f old new (search.Refused e) = IsUnlearnt Refuses f old new e
  IsUnanswered Refuses f old new search.Memory = HasGoneOn f old new
