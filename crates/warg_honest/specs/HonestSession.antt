-- Sessions with honest registries: what they reply to the updates of a session.
use Rattle.std.specs.Prelude.{◌≡◌, List, [], ◌∷◌, Ok}
use Rattle.warg_hash.specs.Hash.{operator_log_id, package_log_id}
use Rattle.warg_log.specs.Rules.{Accepts}
use Rattle.warg_exchange.specs.declared.exchange.Exchange.{Exchange}
use Rattle.warg_exchange.specs.declared.exchange.Request.{Request}
use Rattle.warg_exchange.specs.Requests.{Asker}
use Rattle.warg_exchange.specs.Replies.{says, checkpoint_in}
use Rattle.warg_update.specs.Proved.{Asks, AreAsked}
use Rattle.warg_store.specs.Held.{Registry}
use Rattle.warg_plan.specs.Walk.{Content, Facts}
use Rattle.warg_assemble.specs.Known.{Known}
use Rattle.warg_assemble.specs.Parts.{Update, Part, Updated, Loaded, start_of, known_after, learnt, IsLoad}
use Rattle.warg_assemble.specs.Session.{Wanted, IsWanted}
use Rattle.warg_ledger.specs.Registry.{Registry as Ledger, log_below}
use Rattle.warg_ledger.specs.Honest.{AreHonest}

module _ (accepts : Accepts) (asker : Registry → Asker) (world : Registry → Ledger) where
  -- A whole update of one package with an honest registry: each request is the next after those before it, each reply
  -- gives what was asked, and nothing is asked behind them. Its checkpoint is the one that came, and its logs are the
  -- registry's below the checkpoint's length.
  pub record IsHonestUpdate (known : Known) (u : Update) : Type 0 where
    pub asked : AreAsked (asker u.registry) (start_of known u.registry u.name) u.exchanges
    pub honest : AreHonest accepts (world u.registry) (asker u.registry) (start_of known u.registry u.name) u.exchanges
    pub over : (r : Request) → Asks (asker u.registry) (start_of known u.registry u.name) u.exchanges r → ⊥
    pub came : (first : Exchange) (rest : List Exchange) → u.exchanges ≡ first ∷ rest
        → says checkpoint_in first.reply ≡ Ok u.checkpoint
    pub operator : u.operator ≡ log_below (world u.registry) u.checkpoint.contents.log_length operator_log_id
    pub log : u.log ≡ log_below (world u.registry) u.checkpoint.contents.log_length (package_log_id u.name)

module _ (accepts : Accepts) (asker : Registry → Asker) (world : Registry → Ledger) (Reads : Content → Type 0) where
  -- an update is a whole one with an honest registry; a content comes, has the digest, and is read so
  abbrev pub IsHonestPart : Known → Part → Type 0
  IsHonestPart known (Updated u) = IsHonestUpdate accepts asker world known u
  IsHonestPart known (Loaded l) = IsLoad accepts asker Reads known l

  -- The walk asks for each part in turn, and each is honest.
  unfoldable pub IsHonestSession : Wanted → Known → Facts → List Part → Type 0
  IsHonestSession w known f [] = Unit {0}
  IsHonestSession w known f (p ∷ ps) =
      IsWanted w known f p × IsHonestPart known p × IsHonestSession w (known_after known p) (learnt f p) ps
