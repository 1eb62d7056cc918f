-- A plan, assembled over recorded replies by a client that has kept nothing.
pub use Rattle.warg_replay.specs.Anew.{HaveNotFailed, accepts_listed, nothing, page_limit, says}
use Rattle.std.specs.Prelude.{◌≡◌, ◌≤◌, ◌⊎◌, ℕ, List, [], Ok}
use Rattle.std.specs.List.{AllByRecursion, flat_map}
use Rattle.warg_log.specs.Rules.{Accepts}
use Rattle.warg_hint.specs.declared.decide.AlwaysDecide.{AlwaysDecide}
use Rattle.warg_exchange.specs.declared.exchange.Reply.{Reply}
use Rattle.warg_exchange.specs.Requests.{Asker}
use Rattle.warg_request.specs.Asking.{CanAsk}
use Rattle.warg_api.specs.Link.{Recorded, IsRecordedStep}
use Rattle.warg_course.specs.Replies.{AreRepliesOf}
use Rattle.compose_config.specs.Plan.{Settings}
use Rattle.warg_plan.specs.Walk.{Entry, nothing_known}
use Rattle.warg_store.specs.Held.{Registry}
use Rattle.warg_assemble.specs.Parts.{Part, exchanges_in, learnt_by}
use Rattle.warg_assemble.specs.Session.{walked, IsSession}
use Rattle.warg_client.specs.Seen.{Seen}
use Rattle.warg_compose.specs.Linked.{IsLinkable}
use Rattle.warg_compose.specs.Read.{IsComponent}
use Rattle.warg_client.specs.Undisturbed.{pages_of_parts, registry_in}
use Rattle.warg_client.specs.Text.{IsPlanText}
use Rattle.warg_client.specs.ClientError.{ClientError}
use Rattle.warg_client.specs.ClientError.TheVariants as error
use Rattle.warg_client.specs.Assembled.{IsAssembleFault, wanted}
use Rattle.warg_replay.specs.Anew.{AsksHome, IsAnewOver, IsAssembledBy}

-- the component of the plan of a text (`IsAssembledBy`), where the first replies are those to its session
abbrev pub IsReplayed : Accepts → List Reply → List ℕ → List Entry → List (List ℕ) → (lock bytes : List ℕ) → Type 0
IsReplayed accepts replies = IsAssembledBy (λ xs. AreRepliesOf xs replies) accepts

-- A text is that of a plan that can be linked, which a session finds from nothing that was known, and the first replies
-- are those of the session. The names of its registries are values of headers, and it asks for no more
-- pages than may be asked for.
pub record IsReplayable (accepts : Accepts) (replies : List Reply) (text : List ℕ) : Type 0 where
  pub settings : Settings
  pub reads : IsPlanText text settings
  pub asks : Registry → Asker
  pub home : AsksHome asks
  pub parts : List Part
  pub entries : List Entry
  pub session : IsSession accepts asks IsComponent (wanted settings) nothing nothing_known parts
  pub finds : walked (wanted settings) (learnt_by nothing_known parts) ≡ Ok entries
  pub replied : AreRepliesOf (flat_map exchanges_in parts) replies
  pub can_ask : AllByRecursion (λ p. CanAsk (asks (registry_in p))) parts
  pub pages : pages_of_parts asks parts ≤ page_limit
  pub linkable : IsLinkable settings.disallow_imports entries

-- a client at the beginning: nothing was asked, nothing is known, these replies are to come, and no call has failed
abbrev pub IsAnew : Accepts → List Reply → Seen Recorded AlwaysDecide → Type 0
IsAnew accepts replies s = IsAnewOver accepts (record { left = replies; asked = []; faults = 0 }) s

-- ---- refusals

-- such a client refuses the text, or does not find its plan, or does not link it, by the cause that an assembly has
pub record IsRefused (accepts : Accepts) (replies : List Reply) (e : ClientError) (text : List ℕ) : Type 0 where
  pub begun : Seen Recorded AlwaysDecide
  pub anew : IsAnew accepts replies begun
  pub ended : Seen Recorded AlwaysDecide
  pub cause : IsAssembleFault IsRecordedStep begun ended says e text

-- why nothing is assembled. Want of memory says nothing
abbrev pub IsReplayFault : Accepts → List Reply → ClientError → List ℕ → Type 0
IsReplayFault accepts replies e text = (e ≡ error.Memory) ⊎ IsRefused accepts replies e text
