-- Why a reply is refused, by the exchanges that came before it.
use Rattle.std.specs.Prelude.{◌≡◌, ◌⊎◌, Bool, true, false, List, []}
use Rattle.warg_hint.specs.declared.settings.HintSettings.{HintSettings}
use Rattle.warg_log.specs.Rules.{Accepts}
use Rattle.warg_exchange.specs.declared.exchange.Exchange.{Exchange}
use Rattle.warg_exchange.specs.declared.exchange.Reply.{Reply}
use Rattle.warg_exchange.specs.declared.checkpoint.SignedCheckpoint.{SignedCheckpoint}
use Rattle.warg_exchange.specs.Requests.{Asker}
use Rattle.warg_page.specs.Logs.{Logs}
use Rattle.warg_update.specs.declared.error.UpdateError.{UpdateError}
use Rattle.warg_update.specs.FeedFaults.{IsCheckpointFault, HasTurnFault, IsHeadsFault, IsContinuationFault}
use Rattle.warg_update.specs.NotFound.{IsNoPageFault}
use Rattle.warg_update.specs.Proved.{Start, Opens, Shows}

-- behind these exchanges of an update the next reply has this fault: it gives no checkpoint; or no page, or one with a
-- fault; or the inclusion is not shown, or the checkpoint does not follow the stored one; or the consistency is not
-- shown
pub data IsFaultBehind (e : UpdateError) (accepts : Accepts) (settings : HintSettings) (said : Bool → Bool) (a : Asker)
    (start : Start) (xs : List Exchange) (reply : Reply) : Type 0 where
  of_checkpoint : xs ≡ [] → IsCheckpointFault e reply → IsFaultBehind e accepts settings said a start xs reply
  of_page : (c : SignedCheckpoint) (logs : Logs) → Opens a start xs c logs true
      → IsNoPageFault e settings said logs.packages reply ⊎ HasTurnFault e accepts logs c reply
      → IsFaultBehind e accepts settings said a start xs reply
  of_inclusion : (c : SignedCheckpoint) (logs : Logs) → Opens a start xs c logs false
      → IsHeadsFault e logs c.contents start.stored reply → IsFaultBehind e accepts settings said a start xs reply
  of_consistency : (old c : SignedCheckpoint) (logs : Logs) → Shows a start xs old c logs
      → IsContinuationFault e old.contents c.contents reply → IsFaultBehind e accepts settings said a start xs reply
