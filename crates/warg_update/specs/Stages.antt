-- The stage behind a reply that passed its checks.
use Rattle.std.specs.Prelude.{◌≡◌, Bool, true, false, Option, Ok}
use Rattle.warg_log.specs.Rules.{Accepts}
use Rattle.warg_exchange.specs.declared.exchange.Reply.{Reply}
use Rattle.warg_exchange.specs.declared.checkpoint.Checkpoint.{Checkpoint}
use Rattle.warg_exchange.specs.declared.checkpoint.SignedCheckpoint.{SignedCheckpoint}
use Rattle.warg_exchange.specs.declared.proof.InclusionResponse.{InclusionResponse}
use Rattle.warg_exchange.specs.declared.proof.ConsistencyResponse.{ConsistencyResponse}
use Rattle.warg_exchange.specs.Replies.{says, bundles_in, proof_in}
use Rattle.warg_exchange.specs.Views.{Page}
use Rattle.warg_verify.specs.Shown.{Includes, Continues}
use Rattle.warg_page.specs.Logs.{Logs, Brings, LeavesNoneEmpty, indices_of, leafs_of}
use Rattle.warg_update.specs.Succession.{StandsTo}
use Rattle.warg_update.specs.declared.succession.Succession.TheVariants as how
use Rattle.warg_update.specs.declared.error.UpdateError.{UpdateError}
use Rattle.warg_update.specs.declared.error.UpdateError.TheVariants as error
use Rattle.warg_update.specs.declared.stage.Stage.{Stage}
use Rattle.warg_update.specs.declared.stage.Stage.TheVariants as stage
use Rattle.warg_update.specs.Standing.{AreTrusted}

-- ---- a page

-- more pages are to come; or none, and then the logs are lawful, and the checkpoint is signed
abbrev pub FollowsPage : Accepts → SignedCheckpoint → Bool → Logs → Stage → Type 0
FollowsPage accepts c more after stage.Page = more ≡ true
FollowsPage accepts c more after stage.Inclusion = (more ≡ false) × AreTrusted accepts after c
FollowsPage accepts c more after other = ⊥

-- the page leaves these logs, none that it lists without a record, and this is the stage behind it
pub record IsTurned (accepts : Accepts) (c : SignedCheckpoint) (before : Logs) (page : Page) (after : Logs)
    (next : Stage) : Type 0 where
  pub brings : Brings before page after
  pub kept : LeavesNoneEmpty after.packages page.packages
  pub follows : FollowsPage accepts c page.more after next

-- ---- the inclusion

-- the reply shows the inclusion of the logs' last records
pub record AreShown (c : Checkpoint) (logs : Logs) (reply : Reply) : Type 0 where
  pub bundles : InclusionResponse
  pub came : says bundles_in reply ≡ Ok bundles
  pub includes : Includes c (indices_of logs) (leafs_of logs) bundles

-- nothing is left to be shown; or the consistency with a shorter stored checkpoint
abbrev pub FollowsHeads : Option SignedCheckpoint → Checkpoint → Stage → Type 0
FollowsHeads stored c stage.Proved = StandsTo stored c how.Settled
FollowsHeads stored c (stage.Consistency from) = StandsTo stored c (how.Longer from)
FollowsHeads stored c other = ⊥

-- the stored checkpoint is longer, or has the same length and another root
abbrev pub IsSuccessionFault : UpdateError → Option SignedCheckpoint → Checkpoint → Type 0
IsSuccessionFault (error.Rewound from to) stored c = StandsTo stored c (how.Rewound from to)
IsSuccessionFault (error.Changed log_length) stored c = StandsTo stored c (how.Changed log_length)
IsSuccessionFault other stored c = ⊥

-- ---- the consistency

-- the reply shows that the new checkpoint continues the old one
pub record IsContinued (old new : Checkpoint) (reply : Reply) : Type 0 where
  pub shown : ConsistencyResponse
  pub came : says proof_in reply ≡ Ok shown
  pub continues : Continues old.log_length new.log_length old.log_root new.log_root shown.proof
