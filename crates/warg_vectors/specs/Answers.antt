-- What registries answer: each what it holds below its last checkpoint, in the words of honest registries.
use Rattle.std.specs.Prelude.{◌≡◌, ◌⊎◌, ◌<◌, ◌≤◌, ◌^◌, ℕ, min, true, false, List, [], ◌∷◌, length, Contains, Option, Some, None, Ok}
use Rattle.std.specs.List.{All, flat_map}
use Rattle.warg_hash.specs.Hash.{operator_log_id}
use Rattle.warg_exchange.specs.declared.exchange.Request.{Request}
use Rattle.warg_exchange.specs.declared.exchange.Reply.{Reply}
use Rattle.warg_exchange.specs.declared.checkpoint.SignedCheckpoint.{SignedCheckpoint}
use Rattle.warg_exchange.specs.declared.content.ContentSource.TheVariants.{HttpGet}
use Rattle.warg_exchange.specs.declared.logs.PublishedRecord.{PublishedRecord}
use Rattle.warg_exchange.specs.declared.service.ServiceError.{ServiceError}
use Rattle.warg_exchange.specs.declared.service.ServiceError.TheVariants.{CheckpointNotFound, LogNotFound, FetchTokenNotFound, ContentDigestNotFound, LeafNotFound}
use Rattle.warg_exchange.specs.Replies.{is_success, refusal_in, says, checkpoint_in, page_in, sources_in}
use Rattle.warg_exchange.specs.Views.{Page}
use Rattle.warg_page.specs.Logs.{Logs, indices_of}
use Rattle.warg_prover.specs.Asked.{inclusion_needs, consistency_needs}
use Rattle.warg_reply.specs.Order.{ascending}
use Rattle.warg_ledger.specs.Registry.{Registry, entry_texts}
use Rattle.warg_ledger.specs.Replies.{AreWhole}
use Rattle.warg_ledger.specs.Honest.{GivesPage, GivesHeads, GivesGrowth}
use Rattle.warg_model.specs.Held.{Held, HasNoClash, registry_of}
use Rattle.warg_model.specs.Pages.{AreBehind, AreLists, IsLogFault, NameLast}
use Rattle.warg_model.specs.declared.error.LogsError.{LogsError}
use Rattle.warg_model.specs.declared.error.LogsError.TheVariants as logs
use Rattle.warg_vectors.specs.Asked as asked
use Rattle.warg_vectors.specs.World.{World, registry_in, content_in}

-- ---- refusals

-- the reply is no success
abbrev pub IsRefusal : Reply → Type 0
IsRefusal reply = is_success reply.status ≡ false

-- and its body names this error
abbrev pub Refuses : ServiceError → Reply → Type 0
Refuses error reply = IsRefusal reply × (refusal_in reply ≡ Ok error)

-- ---- a page

-- the page of all records below a length behind the tokens of these logs, of which the first is the operator's; a page
-- lists packages' logs in the order of their ids' texts
pub record IsPage (w : Registry) (n : ℕ) (operator : Option (List ℕ)) (packages : List (List ℕ × Option (List ℕ)))
    (page : Page) : Type 0 where
  pub whole : page.more ≡ false
  pub of_operator : AreBehind w n operator_log_id operator page.operator
  pub listed : List (List ℕ × List PublishedRecord)
  pub of_packages : AreLists w n packages listed
  pub in_order : page.packages ≡ ascending listed

-- the error is that of a log
abbrev pub IsErrorOf : LogsError → ServiceError → Type 0
IsErrorOf (logs.LogNotFound id) error = error ≡ LogNotFound id
IsErrorOf (logs.FetchTokenNotFound token) error = error ≡ FetchTokenNotFound token
IsErrorOf logs.Memory error = ⊥

-- one of the logs that are asked for has no record, or its token names none of its records
pub record RefusesLog (w : Registry) (n : ℕ) (asked : List (List ℕ × Option (List ℕ))) (reply : Reply) : Type 0 where
  pub log : List ℕ × Option (List ℕ)
  pub stands : Contains asked log
  pub fault : LogsError
  pub is : IsLogFault w n log fault
  pub error : ServiceError
  pub of_fault : IsErrorOf fault error
  pub refuses : Refuses error reply

-- such a page comes; and where the tokens name the last records of logs that begin the registry's, it is a page of an
-- honest registry behind these logs, but for a clash
pub record GivesLogs (w : Registry) (n : ℕ) (operator : Option (List ℕ)) (packages : List (List ℕ × Option (List ℕ)))
    (reply : Reply) : Type 0 where
  pub page : Page
  pub came : says page_in reply ≡ Ok page
  pub is : IsPage w n operator packages page
  pub gives : HasNoClash w → (logs : Logs) → NameLast w n operator packages logs → GivesPage w n logs reply

abbrev pub IsPageReply : Registry → ℕ → Option (List ℕ) → List (List ℕ × Option (List ℕ)) → Reply → Type 0
IsPageReply w n operator packages reply =
    GivesLogs w n operator packages reply ⊎ RefusesLog w n ((operator_log_id, operator) ∷ packages) reply

-- ---- proofs

-- the bundles for whole logs, whose last records stand at these places
pub record GivesPlaces (w : Registry) (n : ℕ) (places : List ℕ) (reply : Reply) : Type 0 where
  pub there : All (λ place. place < length (entry_texts w n)) places
  pub gives : (logs : Logs) → AreWhole w n logs → indices_of logs ≡ places → GivesHeads w n logs reply

-- there is no record at one of these places, which is told; or the bundles would hold more than can be counted
abbrev pub RefusesPlaces : Registry → ℕ → List ℕ → Reply → Type 0
RefusesPlaces w n places reply =
    ((place : ℕ) × Contains places place × (length (entry_texts w n) ≤ place) × Refuses (LeafNotFound place) reply)
    ⊎ (IsRefusal reply
    × ((2 ^ 32 ≤ length places)
    ⊎ (2 ^ 32 ≤ length (flat_map (inclusion_needs (length (entry_texts w n))) places))))

-- the older length is 0 or past the newer one, or the registry has no checkpoint of the newer one; or the bundle would
-- hold more than can be counted
abbrev pub RefusesGrowth : Registry → ℕ → ℕ → ℕ → Reply → Type 0
RefusesGrowth w n old new reply =
    ((((0 < old) × (old ≤ new)) → ⊥) × Refuses (CheckpointNotFound old) reply)
    ⊎ ((length (entry_texts w n) < new) × Refuses (CheckpointNotFound new) reply)
    ⊎ ((2 ^ 32 ≤ length (consistency_needs old new)) × IsRefusal reply)

-- ---- a registry

-- what a registry answers, whose last checkpoint is this one: below its length, or below the length that is asked for
-- where that is smaller
abbrev pub IsAnswerBelow : Registry → SignedCheckpoint → asked.RegistryAsked → Reply → Type 0
IsAnswerBelow w c asked.Checkpoint reply = says checkpoint_in reply ≡ Ok c
IsAnswerBelow w c (asked.Logs n operator packages) reply =
    IsPageReply w (min n c.contents.log_length) operator packages reply
IsAnswerBelow w c (asked.Inclusion n places) reply =
    GivesPlaces w (min n c.contents.log_length) places reply
    ⊎ RefusesPlaces w (min n c.contents.log_length) places reply
IsAnswerBelow w c (asked.Consistency old new) reply =
    GivesGrowth w old new reply ⊎ RefusesGrowth w c.contents.log_length old new reply

-- the same of a registry that may have no checkpoint yet
abbrev pub IsAnswerBehind : Held → Option SignedCheckpoint → asked.RegistryAsked → Reply → Type 0
IsAnswerBehind h None a reply = Refuses (CheckpointNotFound 0) reply
IsAnswerBehind h (Some c) a reply = IsAnswerBelow (registry_of h) c a reply

-- the same of a registry that may not be there
abbrev pub IsAnswerOf : Option Held → asked.RegistryAsked → Reply → Type 0
IsAnswerOf None a reply = Refuses (CheckpointNotFound 0) reply
IsAnswerOf (Some h) a reply = IsAnswerBehind h h.latest a reply

-- ---- contents

abbrev pub IsSourcesReply : List ℕ → Option (List ℕ) → Reply → Type 0
IsSourcesReply digest (Some content) reply =
    says sources_in reply ≡ Ok ((digest, HttpGet (asked.content_url digest) ∷ []) ∷ [])
IsSourcesReply digest None reply = Refuses (ContentDigestNotFound digest) reply

abbrev pub IsContentReply : List ℕ → Option (List ℕ) → Reply → Type 0
IsContentReply digest (Some content) reply = (is_success reply.status ≡ true) × (reply.body ≡ content)
IsContentReply digest None reply = Refuses (ContentDigestNotFound digest) reply

-- ---- all

abbrev pub IsAnswer : World → Option (List ℕ) → asked.Asked → Reply → Type 0
IsAnswer t name (asked.OfRegistry a) reply = IsAnswerOf (registry_in t.registries name) a reply
IsAnswer t name (asked.Sources digest) reply = IsSourcesReply digest (content_in t.contents digest) reply
IsAnswer t name (asked.Content digest) reply = IsContentReply digest (content_in t.contents digest) reply
IsAnswer t name asked.Other reply = IsRefusal reply

-- the reply is what the registry that a request names says to it
abbrev pub IsReplyTo : World → Request → Reply → Type 0
IsReplyTo t request reply = IsAnswer t (asked.registry_of_request request) (asked.asked_by request) reply
