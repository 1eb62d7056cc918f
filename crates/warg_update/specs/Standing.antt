-- Where a step of an update stands: what the exchanges before it have shown, what it asks next, and when it is over.
use Rattle.std.specs.Prelude.{◌≡◌, ◌+◌, ◌++◌, ◌∷◌, ℕ, nat_lt, if◌then◌else◌, List, [], true, false, Option, Some, None}
use Rattle.warg_hint.specs.declared.settings.HintSettings.{HintSettings}
use Rattle.warg_log.specs.Rules.{Accepts}
use Rattle.warg_exchange.specs.declared.exchange.Exchange.{Exchange}
use Rattle.warg_exchange.specs.declared.exchange.Request.{Request}
use Rattle.warg_exchange.specs.declared.exchange.Reply.{Reply}
use Rattle.warg_exchange.specs.declared.checkpoint.SignedCheckpoint.{SignedCheckpoint}
use Rattle.warg_exchange.specs.Requests.{Asker, checkpoint_request, inclusion_request, consistency_request}
use Rattle.warg_info.specs.declared.operator.OperatorInfo.{OperatorInfo}
use Rattle.warg_info.specs.declared.package.PackageInfo.{PackageInfo}
use Rattle.warg_api.specs.declared.client.Client.{Client}
use Rattle.warg_api.specs.Asking.{asker}
use Rattle.warg_page.specs.Logs.{Logs, AreLawful, indices_of}
use Rattle.warg_update.specs.Proved.{page_request, IsSigned, Start, Proves, Opens, Shows, AreAsked}
use Rattle.warg_page.specs.Steps.{HaveIds, AreGood, IsGoodOperator}
use Rattle.warg_page.specs.Views.{logs_view, AreSound}
use Rattle.warg_update.specs.declared.stage.Stage.{Stage}
use Rattle.warg_update.specs.declared.stage.Stage.TheVariants as stage
use Rattle.warg_update.specs.declared.step.UpdateStep.{UpdateStep}

-- the logs of a step, as far as they came
abbrev pub logs_of : UpdateStep → Logs
logs_of step = logs_view step.operator step.packages.items

-- they are sound
abbrev pub HasSoundLogs : UpdateStep → Type 0
HasSoundLogs step = AreSound step.operator step.packages.items

-- how many pages a step may still ask for
abbrev pub pages_left : UpdateStep → ℕ
pages_left step = step.pages_left

-- what is done about hints at other registries
abbrev pub hints_of : UpdateStep → HintSettings
hints_of step = step.hints

-- by a client, who asks the registry of a step
abbrev pub asker_of : Client → UpdateStep → Asker
asker_of client step = asker client step.registry

-- what an update begins with
abbrev pub start_of : OperatorInfo → List PackageInfo → Option SignedCheckpoint → Start
start_of operator packages stored = record { logs = logs_view operator packages; stored = stored }

-- ---- what is asked next

-- by its stage, the checkpoint that came, the pages that may still be asked for, and the logs so far
abbrev pub request_in : Stage → Option SignedCheckpoint → ℕ → Asker → Logs → Option Request
request_in stage.Checkpoint c left a logs = Some (checkpoint_request a)
request_in stage.Page (Some c) left a logs =
    if nat_lt 0 left then Some (page_request a c.contents.log_length logs) else None
request_in stage.Inclusion (Some c) left a logs = Some (inclusion_request a c.contents.log_length (indices_of logs))
request_in (stage.Consistency from) (Some c) left a logs =
    Some (consistency_request a from.log_length c.contents.log_length)
request_in other c left a logs = None

-- the request that a step asks, where it asks one
abbrev pub request_at : Asker → UpdateStep → Option Request
request_at a step = request_in step.stage step.checkpoint step.pages_left a (logs_of step)

-- a page is to be asked for, and no more pages may be
pub record IsAtLimit (step : UpdateStep) : Type 0 where
  pub at_page : step.stage ≡ stage.Page
  pub none_left : step.pages_left ≡ 0

-- all checks have passed
abbrev pub IsProved : UpdateStep → Type 0
IsProved step = step.stage ≡ stage.Proved

-- a reply was refused
abbrev pub IsRefused : UpdateStep → Type 0
IsRefused step = step.stage ≡ stage.Refused

-- a bound on the requests that a step still asks
abbrev pub turns_in : Stage → ℕ → ℕ
turns_in stage.Checkpoint left = left + 4
turns_in stage.Page left = left + 3
turns_in stage.Inclusion left = 2
turns_in (stage.Consistency from) left = 1
turns_in stage.Proved left = 0
turns_in stage.Refused left = 0

abbrev pub turns_left : UpdateStep → ℕ
turns_left step = turns_in step.stage step.pages_left

-- ---- what came before

-- the logs are lawful, and the checkpoint is signed by their operator
pub record AreTrusted (accepts : Accepts) (logs : Logs) (c : SignedCheckpoint) : Type 0 where
  pub lawful : AreLawful accepts logs
  pub signed : IsSigned accepts logs.operator c

-- what the exchanges have shown, by the stage. What was refused shows nothing
abbrev pub Reached : Stage → Accepts → Asker → Start → List Exchange → Logs → Option SignedCheckpoint → Type 0
Reached stage.Checkpoint accepts a start xs logs c = (xs ≡ []) × (logs ≡ start.logs)
Reached stage.Page accepts a start xs logs (Some c) = Opens a start xs c logs true
Reached stage.Inclusion accepts a start xs logs (Some c) = Opens a start xs c logs false × AreTrusted accepts logs c
Reached (stage.Consistency from) accepts a start xs logs (Some c) =
    AreTrusted accepts logs c × (old : SignedCheckpoint) × (from ≡ old.contents) × Shows a start xs old c logs
Reached stage.Proved accepts a start xs logs (Some c) = Proves accepts a start xs logs c
Reached stage.Refused accepts a start xs logs c = Unit {0}
Reached other accepts a start xs logs None = ⊥

-- the infos are good, and found by their ids
pub record IsReady (accepts : Accepts) (step : UpdateStep) : Type 0 where
  pub operator : IsGoodOperator accepts step.operator
  pub packages : AreGood accepts step.packages.items
  pub ids : HaveIds step.ids.keys step.packages.items

-- after these exchanges of an update, each of which it asked for, the step stands here, with good infos
pub record Stands (accepts : Accepts) (a : Asker) (start : Start) (step : UpdateStep) (xs : List Exchange) : Type 0 where
  pub ready : IsReady accepts step
  pub stored : step.stored ≡ start.stored
  pub asked : AreAsked a start xs
  pub reached : Reached step.stage accepts a start xs (logs_of step) step.checkpoint

-- ---- a reply that is fed

-- what stays with any reply: whose logs they are, what was stored, what is set, that the logs are sound, and that good
-- infos are good
pub record KeepsOn (accepts : Accepts) (old new : UpdateStep) : Type 0 where
  pub registry : new.registry ≡ old.registry
  pub stored : new.stored ≡ old.stored
  pub hints : new.hints ≡ old.hints
  pub sound : HasSoundLogs old → HasSoundLogs new
  pub ready : IsReady accepts old → IsReady accepts new

-- with a reply to what it asked, a step stands after one exchange more
abbrev pub Advances : Accepts → UpdateStep → Reply → UpdateStep → Type 0
Advances accepts old reply new =
    (a : Asker) (start : Start) (xs : List Exchange) (request : Request) → request_at a old ≡ Some request
    → Stands accepts a start old xs
    → Stands accepts a start new (xs ++ record { request = request; reply = reply } ∷ [])

-- how many pages are asked for next
abbrev pub pages_in : Stage → ℕ
pages_in stage.Page = 1
pages_in other = 0

-- with a reply to what it asked, a step may ask for as many pages less as it asked for
abbrev pub Counts : UpdateStep → UpdateStep → Type 0
Counts old new =
    (a : Asker) (request : Request) → request_at a old ≡ Some request
    → new.pages_left + pages_in old.stage ≡ old.pages_left
