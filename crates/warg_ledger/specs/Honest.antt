-- Honest exchanges of an update: each reply gives what the registry has to say.
use Rattle.std.specs.Prelude.{◌≡◌, ◌≢◌, ◌≤◌, ℕ, true, false, List, [], ◌∷◌, ◌++◌, Contains, Option, Some, None, Ok}
use Rattle.warg_hash.specs.Hash.{operator_log_id, package_log_id}
use Rattle.warg_log.specs.Rules.{Accepts}
use Rattle.warg_exchange.specs.declared.exchange.Exchange.{Exchange}
use Rattle.warg_exchange.specs.declared.exchange.Reply.{Reply}
use Rattle.warg_exchange.specs.declared.checkpoint.SignedCheckpoint.{SignedCheckpoint}
use Rattle.warg_exchange.specs.declared.proof.InclusionResponse.{InclusionResponse}
use Rattle.warg_exchange.specs.declared.proof.ConsistencyResponse.{ConsistencyResponse}
use Rattle.warg_exchange.specs.Replies.{says, checkpoint_in, page_in, bundles_in, proof_in}
use Rattle.warg_exchange.specs.Requests.{Asker}
use Rattle.warg_exchange.specs.Views.{Page}
use Rattle.warg_info.specs.Kept.{Kept}
use Rattle.warg_page.specs.Logs.{Logs}
use Rattle.warg_update.specs.Proved.{IsSigned, Start, Proves, Opens, Shows}
use Rattle.warg_ledger.specs.Registry.{Registry, log_below, IsCheckpointOf, IsPageOf}
use Rattle.warg_ledger.specs.Replies.{AreWhole, ShowHeads, ShowsGrowth}

-- ---- a checkpoint

-- what is stored is a checkpoint of the registry, of no greater length
abbrev pub IsStoredOf : Registry → Option SignedCheckpoint → ℕ → Type 0
IsStoredOf w None n = Unit {0}
IsStoredOf w (Some old) n = IsCheckpointOf w old.contents × (old.contents.log_length ≤ n)

-- a checkpoint of the registry, signed by a key of its operator's log below that length
pub record IsHonestCheckpoint (accepts : Accepts) (w : Registry) (stored : Option SignedCheckpoint)
    (c : SignedCheckpoint) : Type 0 where
  pub is : IsCheckpointOf w c.contents
  pub signed : IsSigned accepts (log_below w c.contents.log_length operator_log_id) c
  pub follows : IsStoredOf w stored c.contents.log_length

pub record GivesCheckpoint (accepts : Accepts) (w : Registry) (stored : Option SignedCheckpoint) (reply : Reply) :
    Type 0 where
  pub checkpoint : SignedCheckpoint
  pub came : says checkpoint_in reply ≡ Ok checkpoint
  pub honest : IsHonestCheckpoint accepts w stored checkpoint

-- ---- a page

-- each log that is asked for has a record below a length
pub record HaveRecords (w : Registry) (n : ℕ) (logs : Logs) : Type 0 where
  pub operator : log_below w n operator_log_id ≢ []
  pub packages : (name : List ℕ) (log : List Kept) → Contains logs.packages (name, log)
      → log_below w n (package_log_id name) ≢ []

pub record GivesPage (w : Registry) (n : ℕ) (logs : Logs) (reply : Reply) : Type 0 where
  pub page : Page
  pub came : says page_in reply ≡ Ok page
  pub is : IsPageOf w n logs page
  pub there : HaveRecords w n logs

-- ---- proofs

pub record GivesHeads (w : Registry) (n : ℕ) (logs : Logs) (reply : Reply) : Type 0 where
  pub bundles : InclusionResponse
  pub came : says bundles_in reply ≡ Ok bundles
  pub show : ShowHeads w n logs bundles

pub record GivesGrowth (w : Registry) (old new : ℕ) (reply : Reply) : Type 0 where
  pub shown : ConsistencyResponse
  pub came : says proof_in reply ≡ Ok shown
  pub shows : ShowsGrowth w old new shown.proof

-- ---- a reply, and several

-- behind these exchanges of an update, the reply gives what was asked of the registry
pub record IsHonestNext (accepts : Accepts) (w : Registry) (a : Asker) (start : Start) (xs : List Exchange)
    (reply : Reply) : Type 0 where
  pub checkpoint : xs ≡ [] → GivesCheckpoint accepts w start.stored reply
  pub page : (c : SignedCheckpoint) (logs : Logs) → Opens a start xs c logs true
      → GivesPage w c.contents.log_length logs reply
  pub inclusion : (c : SignedCheckpoint) (logs : Logs) → Opens a start xs c logs false
      → GivesHeads w c.contents.log_length logs reply
  pub consistency : (old c : SignedCheckpoint) (logs : Logs) → Shows a start xs old c logs
      → GivesGrowth w old.contents.log_length c.contents.log_length reply

-- so does each reply of these exchanges
abbrev pub AreHonest : Accepts → Registry → Asker → Start → List Exchange → Type 0
AreHonest accepts w a start xs =
    (before after : List Exchange) (x : Exchange) → xs ≡ before ++ x ∷ after
    → IsHonestNext accepts w a start before x.reply

-- ---- what they prove

-- these exchanges prove the registry's whole logs below the length of a checkpoint of it
pub record ProveWhole (accepts : Accepts) (w : Registry) (a : Asker) (start : Start) (xs : List Exchange) : Type 0 where
  pub logs : Logs
  pub checkpoint : SignedCheckpoint
  pub proves : Proves accepts a start xs logs checkpoint
  pub whole : AreWhole w checkpoint.contents.log_length logs
  pub is : IsCheckpointOf w checkpoint.contents
