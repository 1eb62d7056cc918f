-- The component that is assembled of the plan of a text, and why none is.
use Rattle.std.specs.Prelude.{◌≡◌, ◌⊎◌, ℕ, Bool, List, [], codes}
use Rattle.std.specs.List.{AllByRecursion, flat_map}
use Rattle.sha2.specs.Sha256.{sha256}
use Rattle.comp_shape.specs.declared.error.ShapeError.{ShapeError}
use Rattle.comp_shape.specs.Refusal.{IsRefused}
use Rattle.compose_config.specs.Plan.{Settings as PlanSettings}
use Rattle.warg_api.specs.Link.{Asked}
use Rattle.warg_learn.specs.Recording.{AreKept}
use Rattle.warg_plan.specs.Keys.{Named}
use Rattle.warg_plan.specs.Walk.{Entry, most_open, nothing_known}
use Rattle.warg_assemble.specs.Known.{Known}
use Rattle.warg_assemble.specs.Parts.{Part, exchanges_in, known_by, learnt}
use Rattle.warg_assemble.specs.Session.{Wanted, AreOnce, IsSession, IsPlanOf}
use Rattle.warg_learn.specs.Search.{Finds, IsSearchRefusal}
use Rattle.warg_learn.specs.SearchError.{SearchError}
use Rattle.warg_learn.specs.Learnt.{IsLearnt}
use Rattle.warg_learn.specs.Seen.{Seen, IsKnown}
use Rattle.warg_learn.specs.Unlearnt.{IsUnlearnt}
use Rattle.warg_learn.specs.declared.error.LearnError.{LearnError}
use Rattle.warg_compose.specs.Linked.{IsComposeFault}
use Rattle.warg_compose.specs.Open.{IsAllowed}
use Rattle.warg_compose.specs.Read.{IsComponent}
use Rattle.warg_compose.specs.declared.error.ComposeError.{ComposeError}
use Rattle.warg_complete.specs.Plans.{compose_refusal, search_refusal}
use Rattle.warg_complete.specs.Text.{IsPlanText, IsTextFault}
use Rattle.warg_complete.specs.ClientError.{ClientError}
use Rattle.warg_client.specs.declared.settings.Settings.{Settings}

-- the plan of a text's settings begins at the instance `root`
abbrev pub wanted : PlanSettings → Wanted
wanted settings = record { settings = settings; root = Named (codes "root"); depth = most_open }

-- a client at the beginning of a call: no package was updated in it yet, and as many pages may be asked for as are set
abbrev pub beginning : {T D : Type 0} → Settings → Seen T D → Seen T D
beginning settings s = record s { updated = []; pages_left = settings.round_limit }

-- where the settings of a text disallow imports, its plan leaves none open
abbrev pub LeavesWhatIsAllowed : List ℕ → List Entry → Type 0
LeavesWhatIsAllowed text es = (settings : PlanSettings) → IsPlanText text settings → IsAllowed settings.disallow_imports es

module _ {T D : Type 0} (Steps : T → Asked → T → Type 0) (old new : Seen T D) where
  -- Since a moment, these entries were found to be the plan of a text's settings, by what was known then: the exchanges
  -- that were kept since are those of a session of it, which updates each package once; they are a plan over the logs that
  -- packages have by what was known and by these exchanges; each content has its digest; and just what the session's parts
  -- teach is known besides.
  pub record IsPlanned (known : Known) (settings : PlanSettings) (es : List Entry) : Type 0 where
    pub parts : List Part
    pub session : IsSession old.accepts old.asker IsComponent (wanted settings) known nothing_known parts
    pub once : AreOnce parts
    pub kept : AreKept Steps old.transcript (flat_map exchanges_in parts) new.transcript
    pub plan : IsPlanOf old.accepts old.asker IsComponent known (flat_map exchanges_in parts) (wanted settings) es
    pub digests : AllByRecursion (λ e. sha256 e.content ≡ e.digest) es
    pub knows : IsKnown new (known_by known parts)

  -- the entries are the plan of a text, by what was known when the call began
  pub record IsPlanOfText (text : List ℕ) (es : List Entry) : Type 0 where
    pub settings : PlanSettings
    pub reads : IsPlanText text settings
    pub planned : (known : Known) → IsKnown old known → IsPlanned known settings es

  -- ---- refusals

  -- the text is refused, and nothing was done
  pub record IsTextRefused (e : ClientError) (text : List ℕ) : Type 0 where
    pub fault : IsTextFault e text
    pub unchanged : new ≡ old

  -- the search of the text's plan finds one, which is not linked
  pub record IsComposeRefused (e : ClientError) (settings : PlanSettings) : Type 0 where
    pub entries : List Entry
    pub finds : Finds learnt (wanted settings) (IsLearnt Steps IsComponent) old new entries
    pub refusal : ComposeError
    pub told : e ≡ compose_refusal refusal
    pub cause : IsComposeFault settings.disallow_imports refusal entries

  -- the search of the text's plan finds none, by what may be said where a decision is asked
  pub record IsSearchRefused (said : D → D → Bool → Bool) (e : ClientError) (settings : PlanSettings) : Type 0 where
    pub refusal : SearchError (LearnError ShapeError)
    pub told : e ≡ search_refusal refusal
    pub cause : IsSearchRefusal learnt (wanted settings) (IsLearnt Steps IsComponent)
        (IsUnlearnt Steps said (λ bytes error. IsRefused error bytes)) old new refusal

  -- Why no component is assembled: the text is refused; or it is read, and its plan is not found, or not linked.
  abbrev pub IsAssembleFault : (D → D → Bool → Bool) → ClientError → List ℕ → Type 0
  IsAssembleFault said e text =
      IsTextRefused e text
      ⊎ ((settings : PlanSettings) × IsPlanText text settings
      × (IsSearchRefused said e settings ⊎ IsComposeRefused e settings))
