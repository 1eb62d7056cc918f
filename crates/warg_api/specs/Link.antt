-- What a link was asked.
use Rattle.std.specs.Prelude.{◌≡◌, ℕ, List, [], ◌∷◌, ◌++◌, Option, Some, None}
use Rattle.warg_exchange.specs.declared.exchange.Request.{Request}
use Rattle.warg_exchange.specs.declared.exchange.Reply.{Reply}
use Rattle.warg_exchange.specs.declared.exchange.Exchange.{Exchange}

-- a request, with its reply where one came
pub record Asked : Type 0 where
  pub request : Request
  pub reply : Option Reply

abbrev pub answered : Request → Reply → Asked
answered request reply = record { request = request; reply = Some reply }

abbrev pub unanswered : Request → Asked
unanswered request = record { request = request; reply = None }

-- a link was asked these requests in turn, and replied so
unfoldable pub Exchanges : {T : Type 0} → (T → Asked → T → Type 0) → T → List Exchange → T → Type 0
Exchanges Steps old [] new = new ≡ old
Exchanges {T = T} Steps old (x ∷ xs) new =
    (next : T) × Steps old (answered x.request x.reply) next × Exchanges Steps next xs new

-- recorded replies: those that are left, what was asked, and how often there was no reply
pub record Recorded : Type 0 where
  pub left : List Reply
  pub asked : List Request
  pub faults : ℕ

-- the first reply that is left is given, or none is left
abbrev pub IsTaken : List Reply → Option Reply → List Reply → Type 0
IsTaken old (Some reply) new = old ≡ reply ∷ new
IsTaken old None new = (old ≡ []) × (new ≡ [])

-- what recorded replies become by a request, whatever it asks
abbrev pub IsRecordedStep : Recorded → Asked → Recorded → Type 0
IsRecordedStep old asked new =
    (new.asked ≡ old.asked ++ asked.request ∷ []) × IsTaken old.left asked.reply new.left
