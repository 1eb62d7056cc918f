-- Sessions, and links that give the replies of one.
use Rattle.std.specs.Prelude.{◌≡◌, ◌++◌, List, Ok}
use Rattle.std.specs.List.{flat_map}
use Rattle.warg_log.specs.Rules.{Accepts}
use Rattle.warg_exchange.specs.Requests.{Asker}
use Rattle.warg_api.specs.Link.{Asked}
use Rattle.warg_store.specs.Held.{Registry}
use Rattle.warg_plan.specs.Walk.{Entry, Facts}
use Rattle.warg_assemble.specs.Known.{Known}
use Rattle.warg_assemble.specs.Parts.{Part, exchanges_in, known_by, learnt_by}
use Rattle.warg_assemble.specs.Session.{Wanted, walked, IsSession}
use Rattle.warg_learn.specs.Seen.{Seen, IsKnown}
use Rattle.warg_compose.specs.Read.{IsComponent}
use Rattle.warg_course.specs.Replies.{GivesReplies}

module _ {T D : Type 0} (Steps : T → Asked → T → Type 0) (accepts : Accepts) (asker : Registry → Asker) (w : Wanted) where
  -- The parts are a session over what is known, over which the walk finds these entries. A learner goes by what is
  -- known and by these signatures, and asks as the session does; and asked the requests of the session's exchanges in
  -- turn, its link gives their replies, wherever it gives any.
  pub record ProvesSession (known : Known) (f : Facts) (parts : List Part) (es : List Entry) (now : Seen T D) :
      Type 0 where
    pub session : IsSession accepts asker IsComponent w known f parts
    pub finds : walked w (learnt_by f parts) ≡ Ok es
    pub knows : IsKnown now known
    pub same_accepts : now.accepts ≡ accepts
    pub same_asker : now.asker ≡ asker
    pub replies : GivesReplies Steps now.transcript.link (flat_map exchanges_in parts)

  -- these parts are the first of the session, and were learnt; and what the link gives from now on proves the rest of it
  pub record IsFirstOf (known : Known) (f : Facts) (parts : List Part) (es : List Entry) (done : List Part)
      (now : Seen T D) : Type 0 where
    pub rest : List Part
    pub front : parts ≡ done ++ rest
    pub proves_rest : ProvesSession (known_by known done) (learnt_by f done) rest es now
