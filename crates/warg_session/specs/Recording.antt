-- What a link tells that keeps what is said through it.
use Rattle.std.specs.Prelude.{◌≡◌, ◌⊎◌, ℕ, Bool, false, List, [], ◌∷◌, ◌++◌, Option, Some, None}
use Rattle.warg_exchange.specs.declared.exchange.Exchange.{Exchange}
use Rattle.warg_exchange.specs.declared.exchange.Request.{Request}
use Rattle.warg_exchange.specs.declared.exchange.Reply.{Reply}
use Rattle.warg_api.specs.Link.{Asked, Exchanges}
use Rattle.warg_session.specs.declared.recording.Recording.{Recording}

-- what is known of the link that requests are passed on to, the exchanges that are kept, and whether no reply was lost
pub record Transcript (T : Type 0) : Type 0 where
  pub link : T
  pub exchanges : List Exchange
  pub is_whole : Bool

-- the link that requests are passed on to
abbrev pub link_of : {L : Type 0} → Recording L → L
link_of r = r.link

-- the transcript of a recording, by what its link tells
abbrev pub transcript : {L T : Type 0} → (L → T) → Recording L → Transcript T
transcript told r = record { link = told r.link; exchanges = r.exchanges.items; is_whole = r.is_whole }

abbrev pub exchange : Request → Reply → Exchange
exchange request reply = record { request = request; reply = reply }

-- the exchange of a request to which this reply came
abbrev pub said : Request → Option Reply → List Exchange
said request (Some reply) = exchange request reply ∷ []
said request None = []

module _ {T : Type 0} where
  -- the link went a step, and its exchange is kept
  pub record IsKept (Steps : T → Asked → T → Type 0) (old : Transcript T) (asked : Asked) (new : Transcript T) :
      Type 0 where
    pub passed : Steps old.link asked new.link
    pub exchanges : new.exchanges ≡ old.exchanges ++ said asked.request asked.reply
    pub whole : new.is_whole ≡ old.is_whole

  -- a reply may be lost, for want of memory in the link
  pub record IsLost (old new : Transcript T) : Type 0 where
    pub exchanges : new.exchanges ≡ old.exchanges
    pub whole : new.is_whole ≡ false

  -- a step of a recording
  abbrev pub IsRecorded : (T → Asked → T → Type 0) → Transcript T → Asked → Transcript T → Type 0
  IsRecorded Steps old asked new = IsKept Steps old asked new ⊎ IsLost old new

  -- the body of a reply is opened: it comes piece by piece, and is not kept
  pub record IsOpened {B : Type 0} (Opens : T → Request → ℕ → B → T → Type 0) (old : Transcript T) (request : Request)
      (status : ℕ) (body : B) (new : Transcript T) : Type 0 where
    pub passed : Opens old.link request status body new.link
    pub exchanges : new.exchanges ≡ old.exchanges
    pub whole : new.is_whole ≡ old.is_whole

  -- the link was asked these requests in turn, and replied so, and all of this is kept
  pub record AreKept (Steps : T → Asked → T → Type 0) (old : Transcript T) (xs : List Exchange) (new : Transcript T) :
      Type 0 where
    pub passed : Exchanges Steps old.link xs new.link
    pub exchanges : new.exchanges ≡ old.exchanges ++ xs
    pub whole : new.is_whole ≡ old.is_whole
