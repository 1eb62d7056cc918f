-- Why a reply that is fed to a step is refused: by the stage, the first fault in the order of the checks, and want of
-- memory.
use Rattle.std.specs.Prelude.{◌≡◌, ◌⊎◌, ℕ, Bool, true, false, List, Option, Some, None, Ok}
use Rattle.warg_hint.specs.Hint.{Gives, MustAsk}
use Rattle.warg_hint.specs.declared.settings.HintSettings.{HintSettings}
use Rattle.warg_log.specs.Rules.{Accepts}
use Rattle.warg_proof.specs.declared.fault.ProofFault.{ProofFault}
use Rattle.warg_exchange.specs.declared.exchange.Reply.{Reply}
use Rattle.warg_exchange.specs.declared.checkpoint.Checkpoint.{Checkpoint}
use Rattle.warg_exchange.specs.declared.checkpoint.SignedCheckpoint.{SignedCheckpoint}
use Rattle.warg_exchange.specs.declared.proof.InclusionResponse.{InclusionResponse}
use Rattle.warg_exchange.specs.declared.proof.ConsistencyResponse.{ConsistencyResponse}
use Rattle.warg_exchange.specs.Requests.{Asker}
use Rattle.warg_exchange.specs.Replies.{says, checkpoint_in, page_in, bundles_in, proof_in}
use Rattle.warg_exchange.specs.Views.{Page}
use Rattle.warg_verify.specs.Faults.{IsInclusionFault, IsConsistencyFault}
use Rattle.warg_api.specs.declared.error.ClientError.{ClientError}
use Rattle.warg_api.specs.Calls.{IsReplyFault}
use Rattle.warg_api.specs.Errors.{fetch_error, proof_error, inclusion_error, consistency_error}
use Rattle.warg_page.specs.Logs.{Logs, Brings, AreLawful, indices_of, leafs_of}
use Rattle.warg_page.specs.PageFaults.{IsPageFault}
use Rattle.warg_page.specs.Presence.{IsPresenceFault, IsListedEmpty}
use Rattle.warg_page.specs.declared.presence.PresenceError.{PresenceError}
use Rattle.warg_update.specs.Signature.{IsSignatureFault}
use Rattle.warg_update.specs.declared.signature.SignatureError.{SignatureError}
use Rattle.warg_update.specs.Succession.{StandsTo}
use Rattle.warg_update.specs.declared.succession.Succession.TheVariants as how
use Rattle.warg_update.specs.declared.stage.Stage.{Stage}
use Rattle.warg_update.specs.declared.stage.Stage.TheVariants as stage
use Rattle.warg_update.specs.declared.error.UpdateError.{UpdateError}
use Rattle.warg_update.specs.declared.error.UpdateError.TheVariants as error
use Rattle.warg_update.specs.declared.step.UpdateStep.{UpdateStep}
use Rattle.warg_update.specs.Errors.{call_wants_memory, page_wants_memory, presence_wants_memory, signature_wants_memory}
use Rattle.warg_update.specs.Standing.{logs_of, hints_of, request_at}
use Rattle.warg_update.specs.NotFound.{hint_in, IsNotFound, IsNoPageFault}
use Rattle.warg_update.specs.Stages.{AreShown}

-- ---- the checkpoint

-- the reply gives no checkpoint
abbrev pub IsCheckpointFault : UpdateError → Reply → Type 0
IsCheckpointFault (error.Api e) reply = (call_wants_memory e ≡ false) × IsReplyFault fetch_error e reply checkpoint_in
IsCheckpointFault error.Memory reply = Unit {0}
IsCheckpointFault other reply = ⊥

-- ---- a page

-- more is to come, and a package whose log the page lists is left without a record; or no more is, and a log is
abbrev pub LeavesEmpty : PresenceError → Page → Logs → Type 0
LeavesEmpty e page after =
    ((page.more ≡ true) × IsListedEmpty e after.packages page.packages)
    ⊎ ((page.more ≡ false) × IsPresenceFault e after)

-- the last page leaves lawful logs, and no key of the operator's signed the checkpoint
pub record IsUnsigned (e : SignatureError) (accepts : Accepts) (c : SignedCheckpoint) (page : Page) (after : Logs) :
    Type 0 where
  pub last : page.more ≡ false
  pub lawful : AreLawful accepts after
  pub fault : IsSignatureFault e accepts after.operator c

-- the page has a fault; or it leaves a log without a record; or it is the last one, and the checkpoint is not signed
abbrev pub IsTurnFault : UpdateError → Accepts → Logs → SignedCheckpoint → Page → Type 0
IsTurnFault (error.Page e) accepts logs c page = (page_wants_memory e ≡ false) × IsPageFault e accepts logs page
IsTurnFault (error.Presence e) accepts logs c page =
    (presence_wants_memory e ≡ false) × (after : Logs) × Brings logs page after × LeavesEmpty e page after
IsTurnFault (error.Signature e) accepts logs c page =
    (signature_wants_memory e ≡ false) × (after : Logs) × Brings logs page after × IsUnsigned e accepts c page after
IsTurnFault error.Memory accepts logs c page = Unit {0}
IsTurnFault other accepts logs c page = ⊥

-- the reply gives a page with this fault
pub record HasTurnFault (e : UpdateError) (accepts : Accepts) (logs : Logs) (c : SignedCheckpoint) (reply : Reply) :
    Type 0 where
  pub page : Page
  pub came : says page_in reply ≡ Ok page
  pub fault : IsTurnFault e accepts logs c page

-- ---- the inclusion

-- the reply gives bundles with this fault
abbrev pub ShowsNoHeads : ClientError → Logs → Checkpoint → Reply → Type 0
ShowsNoHeads e logs c reply =
    (bundles : InclusionResponse) × (says bundles_in reply ≡ Ok bundles)
    × (fault : ProofFault) × (e ≡ inclusion_error fault)
    × IsInclusionFault c (indices_of logs) (leafs_of logs) bundles fault

-- the reply gives no bundles; or they do not show the inclusion of the last records; or they do, and the stored checkpoint
-- is longer, or has the same length and another root
abbrev pub IsHeadsFault : UpdateError → Logs → Checkpoint → Option SignedCheckpoint → Reply → Type 0
IsHeadsFault (error.Api e) logs c stored reply =
    (call_wants_memory e ≡ false) × (IsReplyFault proof_error e reply bundles_in ⊎ ShowsNoHeads e logs c reply)
IsHeadsFault (error.Rewound from to) logs c stored reply = AreShown c logs reply × StandsTo stored c (how.Rewound from to)
IsHeadsFault (error.Changed log_length) logs c stored reply =
    AreShown c logs reply × StandsTo stored c (how.Changed log_length)
IsHeadsFault error.Memory logs c stored reply = Unit {0}
IsHeadsFault other logs c stored reply = ⊥

-- ---- the consistency

-- the reply gives a bundle with this fault
abbrev pub ShowsNoConsistency : ClientError → Checkpoint → Checkpoint → Reply → Type 0
ShowsNoConsistency e old new reply =
    (shown : ConsistencyResponse) × (says proof_in reply ≡ Ok shown)
    × (fault : ProofFault) × (e ≡ consistency_error fault)
    × IsConsistencyFault old.log_length new.log_length old.log_root new.log_root shown.proof fault

-- the reply gives no bundle; or it does not show that the new checkpoint continues the old one
abbrev pub IsContinuationFault : UpdateError → Checkpoint → Checkpoint → Reply → Type 0
IsContinuationFault (error.Api e) old new reply =
    (call_wants_memory e ≡ false) × (IsReplyFault proof_error e reply proof_in ⊎ ShowsNoConsistency e old new reply)
IsContinuationFault error.Memory old new reply = Unit {0}
IsContinuationFault other old new reply = ⊥

-- ---- a step

-- by the stage, the logs so far, the checkpoint that came and the stored one, and by what is done about hints, the reply
-- has this fault
abbrev pub IsFaultIn : Stage → UpdateError → Accepts → HintSettings → (Bool → Bool) → Logs → Option SignedCheckpoint
    → Option SignedCheckpoint → Reply → Type 0
IsFaultIn stage.Checkpoint e accepts settings said logs c stored reply = IsCheckpointFault e reply
IsFaultIn stage.Page e accepts settings said logs (Some c) stored reply =
    IsNoPageFault e settings said logs.packages reply ⊎ HasTurnFault e accepts logs c reply
IsFaultIn stage.Inclusion e accepts settings said logs (Some c) stored reply =
    IsHeadsFault e logs c.contents stored reply
IsFaultIn (stage.Consistency from) e accepts settings said logs (Some c) stored reply =
    IsContinuationFault e from c.contents reply
IsFaultIn other e accepts settings said logs c stored reply = ⊥

-- the step asks nothing, and so no reply was awaited; or the reply has this fault, by what may be said where a decision
-- is asked
abbrev pub IsFeedFault : UpdateError → Accepts → (Bool → Bool) → UpdateStep → Reply → Type 0
IsFeedFault e accepts said step reply =
    ((e ≡ error.NotAsked) × ((a : Asker) → request_at a step ≡ None))
    ⊎ IsFaultIn step.stage e accepts (hints_of step) said (logs_of step) step.checkpoint step.stored reply

-- ---- decisions

-- a hint in the reply says of a package that is not found that another registry has it, and nothing but a decision says
-- whether it is followed
pub record AsksDecision (step : UpdateStep) (reply : Reply) : Type 0 where
  pub name : List ℕ
  pub namespace : List ℕ
  pub registry : List ℕ
  pub missing : IsNotFound name (logs_of step).packages reply
  pub hint : Gives (hint_in reply) namespace registry
  pub must_ask : MustAsk (hints_of step) name namespace
