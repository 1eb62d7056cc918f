-- How far an update over a link has come, what it proves in the end, and why it may prove nothing.
use Rattle.std.specs.Prelude.{◌≡◌, ◌≤◌, ◌+◌, ℕ, Bool, List, ◌++◌, Some}
use Rattle.warg_log.specs.Rules.{Accepts}
use Rattle.warg_exchange.specs.declared.exchange.Exchange.{Exchange}
use Rattle.warg_exchange.specs.declared.exchange.Request.{Request}
use Rattle.warg_exchange.specs.declared.checkpoint.SignedCheckpoint.{SignedCheckpoint}
use Rattle.warg_exchange.specs.Requests.{Asker}
use Rattle.warg_request.specs.Asking.{CanAsk}
use Rattle.warg_api.specs.Link.{Asked, answered, unanswered}
use Rattle.warg_page.specs.Logs.{Logs}
use Rattle.warg_page.specs.Steps.{AreGood, IsGoodOperator, IsTwice}
use Rattle.warg_update.specs.Proved.{Start, Asks, AreAsked, Proves}
use Rattle.warg_update.specs.Standing.{Stands, IsAtLimit, pages_left, request_at, start_of}
use Rattle.warg_update.specs.FeedFaults.{IsFeedFault}
use Rattle.warg_update.specs.declared.error.UpdateError.{UpdateError}
use Rattle.warg_update.specs.declared.step.UpdateStep.{UpdateStep}
use Rattle.warg_session.specs.Pages.{pages_asked, pages_with}
use Rattle.warg_session.specs.Recording.{Transcript, IsKept, AreKept}
use Rattle.warg_session.specs.declared.update.UpdateStart.{UpdateStart}
use Rattle.warg_session.specs.declared.error.UpdateRefusal.{UpdateRefusal}
use Rattle.warg_session.specs.declared.error.UpdateRefusal.TheVariants as refusal

-- what an update begins with, as the definition of what it proves sees it
abbrev pub start_view : UpdateStart → Start
start_view s = start_of s.operator s.packages.items s.stored

-- the logs that it begins with are sound, and lawful by these signatures
pub record IsGoodStart (accepts : Accepts) (s : UpdateStart) : Type 0 where
  pub operator : IsGoodOperator accepts s.operator
  pub packages : AreGood accepts s.packages.items

-- the exchanges that were kept since a moment are those of an update, over or not: each request is the next after those
-- before it
pub record IsBegun {T : Type 0} (a : Asker) (start : Start) (begun now : Transcript T) : Type 0 where
  pub exchanges : List Exchange
  pub kept : now.exchanges ≡ begun.exchanges ++ exchanges
  pub asked : AreAsked a start exchanges

module _ {T : Type 0} (accepts : Accepts) (a : Asker) (start : Start) (Steps : T → Asked → T → Type 0)
    (begun now : Transcript T) where
  -- After these exchanges, all of which were kept since the update began, its step stands here. When it began it might
  -- ask for so many pages: those that it has asked for, and those that are left.
  pub record HasCome (limit : ℕ) (xs : List Exchange) (step : UpdateStep) : Type 0 where
    pub kept : AreKept Steps begun xs now
    pub stands : Stands accepts a start step xs
    pub counted : pages_left step + pages_asked a xs ≡ limit

  -- an update that might ask for so many pages is under way, and its step stands here
  abbrev pub IsUnderWay : ℕ → UpdateStep → Type 0
  IsUnderWay limit step = (xs : List Exchange) × HasCome limit xs step

  -- the exchanges that were kept since the update began prove these logs, under this checkpoint
  pub record IsUpdated (logs : Logs) (c : SignedCheckpoint) : Type 0 where
    pub exchanges : List Exchange
    pub kept : AreKept Steps begun exchanges now
    pub asked : AreAsked a start exchanges
    pub proves : Proves accepts a start exchanges logs c

  -- as many pages were asked for as may be, and one is the next
  pub record IsLimited (limit : ℕ) : Type 0 where
    pub step : UpdateStep
    pub under_way : IsUnderWay limit step
    pub none_left : IsAtLimit step

-- no reply came to the request that was the next, with which no more pages were asked for than may be
pub record HasNoReply {T : Type 0} (limit : ℕ) (a : Asker) (start : Start) (Steps : T → Asked → T → Type 0)
    (begun now : Transcript T) : Type 0 where
  pub exchanges : List Exchange
  pub before : Transcript T
  pub kept : AreKept Steps begun exchanges before
  pub request : Request
  pub asks : Asks a start exchanges request
  pub within : pages_with a exchanges request ≤ limit
  pub no_reply : IsKept Steps before (unanswered request) now

-- the last reply has this fault, where the step stood before it, by what may be said where a decision is asked
pub record IsReplyRefused {T : Type 0} (e : UpdateError) (accepts : Accepts) (said : Bool → Bool) (limit : ℕ) (a : Asker)
    (start : Start) (Steps : T → Asked → T → Type 0) (begun now : Transcript T) : Type 0 where
  pub step : UpdateStep
  pub before : Transcript T
  pub under_way : IsUnderWay accepts a start Steps begun before limit step
  pub last : Exchange
  pub asked : request_at a step ≡ Some last.request
  pub kept : IsKept Steps before (answered last.request last.reply) now
  pub fault : IsFeedFault e accepts said step last.reply

-- why an update over a link, which may ask for so many pages, of packages with logs of these ids proves nothing, by what may
-- be said where a decision is asked. Want of memory says nothing
abbrev pub IsUpdateRefusal : {T : Type 0} → UpdateRefusal → List (List ℕ) → Accepts → (Bool → Bool) → ℕ → Asker → Start
    → (T → Asked → T → Type 0) → Transcript T → Transcript T → Type 0
IsUpdateRefusal (refusal.SameLog id) ids accepts said limit a start Steps begun now = IsTwice ids id
IsUpdateRefusal refusal.LinkFault ids accepts said limit a start Steps begun now =
    HasNoReply limit a start Steps begun now
IsUpdateRefusal refusal.RoundLimit ids accepts said limit a start Steps begun now =
    IsLimited accepts a start Steps begun now limit
IsUpdateRefusal refusal.BadHeader ids accepts said limit a start Steps begun now = CanAsk a → ⊥
IsUpdateRefusal (refusal.Reply e) ids accepts said limit a start Steps begun now =
    IsReplyRefused e accepts said limit a start Steps begun now
IsUpdateRefusal refusal.Memory ids accepts said limit a start Steps begun now = Unit {0}

-- a turn of an update is refused, for this reason, and the exchanges that were kept since the update began are its own
pub record IsRefusedTurn {T : Type 0} (e : UpdateRefusal) (ids : List (List ℕ)) (accepts : Accepts) (said : Bool → Bool)
    (limit : ℕ) (a : Asker) (start : Start) (Steps : T → Asked → T → Type 0) (begun now : Transcript T) : Type 0 where
  pub is_begun : IsBegun a start begun now
  pub cause : IsUpdateRefusal e ids accepts said limit a start Steps begun now

-- of the pages that might be asked for when an update began, so many may be still
abbrev pub LeavesPages : {T : Type 0} → Asker → Transcript T → Transcript T → ℕ → ℕ → Type 0
LeavesPages a begun now limit left =
    (xs : List Exchange) → now.exchanges ≡ begun.exchanges ++ xs → left + pages_asked a xs ≡ limit
