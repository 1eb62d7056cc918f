-- What an update proves of logs: a run of consecutive exchanges with a registry. They are the checkpoint's, those of
-- pages until no more is to come, that of the inclusion of each log's last record, and, where a shorter checkpoint is
-- stored, that of the consistency with it.
use Rattle.std.specs.Prelude.{◌≡◌, ◌⊎◌, ◌<◌, ℕ, Bool, true, false, List, [], ◌∷◌, ◌++◌, take, slice_get, codes, decimal, Option, Some, None, Ok}
use Rattle.warg_hash.specs.Hash.{hash_text}
use Rattle.warg_log.specs.Rules.{Accepts, entries_of}
use Rattle.warg_log.specs.History.{key_with}
use Rattle.warg_exchange.specs.declared.exchange.Exchange.{Exchange}
use Rattle.warg_exchange.specs.declared.exchange.Request.{Request}
use Rattle.warg_exchange.specs.declared.checkpoint.Checkpoint.{Checkpoint}
use Rattle.warg_exchange.specs.declared.checkpoint.SignedCheckpoint.{SignedCheckpoint}
use Rattle.warg_exchange.specs.declared.proof.InclusionResponse.{InclusionResponse}
use Rattle.warg_exchange.specs.declared.proof.ConsistencyResponse.{ConsistencyResponse}
use Rattle.warg_exchange.specs.Requests.{Asker, checkpoint_request, logs_request, inclusion_request, consistency_request}
use Rattle.warg_exchange.specs.Replies.{says, checkpoint_in, page_in, bundles_in, proof_in}
use Rattle.warg_exchange.specs.Views.{Page}
use Rattle.warg_verify.specs.Shown.{Includes, Continues}
use Rattle.warg_info.specs.Kept.{Kept, signed_log, last_token}
use Rattle.warg_page.specs.Logs.{Logs, Brings, LeavesNoneEmpty, AreLawful, tokens_of, indices_of, leafs_of}

-- ---- the checkpoint

-- the checkpoint is asked for, and comes
pub record AsksCheckpoint (a : Asker) (x : Exchange) (c : SignedCheckpoint) : Type 0 where
  pub asked : x.request ≡ checkpoint_request a
  pub came : says checkpoint_in x.reply ≡ Ok c

-- ---- the pages

-- the request for a page of a log of a length, with the tokens that are kept last
abbrev pub page_request : Asker → ℕ → Logs → Request
page_request a log_length logs = logs_request a log_length (last_token logs.operator) (tokens_of logs.packages)

-- a page is asked for and comes, and the logs are as it leaves them, none that it lists without a record; whether more is
-- to come
pub record Turns (a : Asker) (log_length : ℕ) (before : Logs) (x : Exchange) (after : Logs) (more : Bool) : Type 0 where
  pub asked : x.request ≡ page_request a log_length before
  pub page : Page
  pub came : says page_in x.reply ≡ Ok page
  pub brings : Brings before page after
  pub kept : LeavesNoneEmpty after.packages page.packages
  pub said : page.more ≡ more

-- pages in turn, up to one that ends them; `more` where none of them does
abbrev pub Pages : Asker → ℕ → Logs → List Exchange → Logs → Bool → Type 0
Pages a log_length before [] after more = (after ≡ before) × (more ≡ true)
Pages a log_length before (x ∷ xs) after more =
    ((next : Logs) × Turns a log_length before x next true × Pages a log_length next xs after more)
    ⊎ (Turns a log_length before x after false × (xs ≡ []) × (more ≡ false))

-- ---- what the checkpoint is to be

-- the text of a checkpoint that is signed: each line ends with a line feed
abbrev pub checkpoint_text : Checkpoint → List ℕ
checkpoint_text c =
    codes "WARG-CHECKPOINT-SIGNATURE-V0\n" ++ (decimal c.log_length ++ (codes "\n" ++ (hash_text c.log_root
    ++ (codes "\n" ++ (hash_text c.map_root ++ (codes "\n" ++ (decimal c.timestamp ++ codes "\n")))))))

-- a key of the operator's log signed the checkpoint
pub record IsSigned (accepts : Accepts) (operator : List Kept) (c : SignedCheckpoint) : Type 0 where
  pub key : List ℕ
  pub known : key_with c.key_id (entries_of (signed_log operator)) ≡ Some key
  pub accepted : accepts key (checkpoint_text c.contents) c.signature ≡ true

-- ---- the proofs

-- the inclusion of the last records is asked for, and the reply shows it
pub record AsksInclusion (a : Asker) (c : Checkpoint) (logs : Logs) (x : Exchange) : Type 0 where
  pub asked : x.request ≡ inclusion_request a c.log_length (indices_of logs)
  pub bundles : InclusionResponse
  pub came : says bundles_in x.reply ≡ Ok bundles
  pub includes : Includes c (indices_of logs) (leafs_of logs) bundles

-- the consistency of two checkpoints is asked for, and the reply shows it
pub record AsksConsistency (a : Asker) (old new : Checkpoint) (x : Exchange) : Type 0 where
  pub asked : x.request ≡ consistency_request a old.log_length new.log_length
  pub shown : ConsistencyResponse
  pub came : says proof_in x.reply ≡ Ok shown
  pub continues : Continues old.log_length new.log_length old.log_root new.log_root shown.proof

-- the two have one length, and the same roots
pub record AreSettled (old new : Checkpoint) : Type 0 where
  pub same_length : old.log_length ≡ new.log_length
  pub same_log_root : old.log_root ≡ new.log_root
  pub same_map_root : old.map_root ≡ new.map_root

-- no checkpoint is stored; or one of the same length and roots; or a shorter one, and the new one continues it
abbrev pub Succeeds : Asker → Option SignedCheckpoint → Checkpoint → List Exchange → Type 0
Succeeds a None new xs = xs ≡ []
Succeeds a (Some old) new xs =
    (AreSettled old.contents new × (xs ≡ []))
    ⊎ ((old.contents.log_length < new.log_length)
    × (x : Exchange) × AsksConsistency a old.contents new x × (xs ≡ x ∷ []))

-- ---- the update

-- what an update begins with: the logs that are kept, and the stored checkpoint
pub record Start : Type 0 where
  pub logs : Logs
  pub stored : Option SignedCheckpoint

-- from a start, an update with these exchanges proves these logs under this checkpoint
pub record Proves (accepts : Accepts) (a : Asker) (start : Start) (xs : List Exchange) (logs : Logs) (c : SignedCheckpoint) :
    Type 0 where
  pub first : Exchange
  pub pages : List Exchange
  pub inclusion : Exchange
  pub rest : List Exchange
  pub in_turn : xs ≡ first ∷ (pages ++ inclusion ∷ rest)
  pub asks_checkpoint : AsksCheckpoint a first c
  pub asks_pages : Pages a c.contents.log_length start.logs pages logs false
  pub lawful : AreLawful accepts logs
  pub signed : IsSigned accepts logs.operator c
  pub asks_inclusion : AsksInclusion a c.contents logs inclusion
  pub succeeds : Succeeds a start.stored c.contents rest

-- ---- an update that is not over

-- the checkpoint came, and then these pages
pub record Opens (a : Asker) (start : Start) (xs : List Exchange) (c : SignedCheckpoint) (logs : Logs) (more : Bool) :
    Type 0 where
  pub first : Exchange
  pub pages : List Exchange
  pub in_turn : xs ≡ first ∷ pages
  pub asks_checkpoint : AsksCheckpoint a first c
  pub asks_pages : Pages a c.contents.log_length start.logs pages logs more

-- the pages came, and then the inclusion, and the stored checkpoint is shorter
pub record Shows (a : Asker) (start : Start) (xs : List Exchange) (old c : SignedCheckpoint) (logs : Logs) : Type 0 where
  pub before : List Exchange
  pub inclusion : Exchange
  pub in_turn : xs ≡ before ++ inclusion ∷ []
  pub opens : Opens a start before c logs false
  pub asks_inclusion : AsksInclusion a c.contents logs inclusion
  pub stored : start.stored ≡ Some old
  pub shorter : old.contents.log_length < c.contents.log_length

-- after these exchanges of an update this request is the next
pub data Asks (a : Asker) (start : Start) (xs : List Exchange) (r : Request) : Type 0 where
  for_checkpoint : xs ≡ [] → r ≡ checkpoint_request a → Asks a start xs r
  for_page : (c : SignedCheckpoint) (logs : Logs) → Opens a start xs c logs true
      → r ≡ page_request a c.contents.log_length logs → Asks a start xs r
  for_inclusion : (c : SignedCheckpoint) (logs : Logs) → Opens a start xs c logs false
      → r ≡ inclusion_request a c.contents.log_length (indices_of logs) → Asks a start xs r
  for_consistency : (old c : SignedCheckpoint) (logs : Logs) → Shows a start xs old c logs
      → r ≡ consistency_request a old.contents.log_length c.contents.log_length → Asks a start xs r

-- the exchanges are those of an update, over or not: each request is the next after those before it
abbrev pub AreAsked : Asker → Start → List Exchange → Type 0
AreAsked a start xs = (n : ℕ) (x : Exchange) → slice_get xs n ≡ Some x → Asks a start (take n xs) x.request
