-- What a step asks where it stands, and where it stands with the reply.
use Rattle.std.proofs.Common.{◌≡◌, ◌<◌, ◌≤◌, arith, ◌++◌, ◌∷◌, [], ◌⊎◌, inl, inr, List, ℕ, Bool, true, false, Option, Some, None, refl, sym, ◌∙◌, ap, subst}
use Rattle.std.specs.Prelude.{nat_lt, if◌then◌else◌}
use Rattle.std.proofs.lemmas.Bool.{ltb-false}
use Rattle.warg_log.specs.Rules.{Accepts}
use Rattle.warg_exchange.specs.declared.exchange.Exchange.{Exchange}
use Rattle.warg_exchange.specs.declared.exchange.Request.{Request}
use Rattle.warg_exchange.specs.declared.exchange.Reply.{Reply}
use Rattle.warg_exchange.specs.declared.checkpoint.Checkpoint.{Checkpoint}
use Rattle.warg_exchange.specs.declared.checkpoint.SignedCheckpoint.{SignedCheckpoint}
use Rattle.warg_exchange.specs.Requests.{Asker, consistency_request}
use Rattle.warg_page.specs.Logs.{Logs}
use Rattle.warg_update.specs.Proved.{Turns, Start, Opens, Asks, for_checkpoint, for_page, for_inclusion, for_consistency, AsksInclusion, Succeeds}
use Rattle.warg_update.specs.Succession.{StandsTo}
use Rattle.warg_update.specs.declared.succession.Succession.TheVariants as how
use Rattle.warg_update.specs.declared.stage.Stage.{Stage}
use Rattle.warg_update.specs.declared.stage.Stage.TheVariants as stage
use Rattle.warg_update.specs.declared.step.UpdateStep.{UpdateStep}
use Rattle.warg_update.specs.Standing.{request_in, request_at, logs_of, Reached, AreTrusted, Stands, KeepsOn, Advances}
use Rattle.warg_update.specs.Stages.{FollowsPage, FollowsHeads}
use Rattle.warg_update.proofs.PagesLaws.{opens-push, proves-all}
use Rattle.warg_update.specs.AskedLaws.{asked-push}

pub some-same : {A : Type 0} (x y : A) → Some x ≡ Some y → y ≡ x
some-same x y e = cc

-- ---- what is asked

pub page-asked : (left : ℕ) (known request : Request) → (if nat_lt 0 left then Some known else None) ≡ Some request → request ≡ known
page-asked left known request e = by_test (nat_lt 0 left) e
  where
    by_test : (b : Bool) → (if b then Some known else None) ≡ Some request → request ≡ known
    by_test true e = some-same known request e
    by_test false e = absurd cc

page-none : (left : ℕ) (known : Request) → (if nat_lt 0 left then Some known else None) ≡ None → left ≡ 0
page-none left known e = by_test (nat_lt 0 left) refl e
  where
    by_test : (b : Bool) → nat_lt 0 left ≡ b → (if b then Some known else None) ≡ None → left ≡ 0
    by_test true is none = absurd cc
    by_test false is none = let none_left : left ≤ 0 = ltb-false 0 left is in omega (arith, none_left)

pub page-some : (left : ℕ) (known : Request) → (left ≡ 0 → ⊥) → Some known ≡ (if nat_lt 0 left then Some known else None)
page-some left known some_left = by_test (nat_lt 0 left) refl
  where
    by_test : (b : Bool) → nat_lt 0 left ≡ b → Some known ≡ (if b then Some known else None)
    by_test true is = refl
    by_test false is = let none_left : left ≤ 0 = ltb-false 0 left is in absurd (some_left (omega (arith, none_left)))

pub asks-in : (st : Stage) (ck : Option SignedCheckpoint) (left : ℕ) (accepts : Accepts) (a : Asker) (start : Start) (xs : List Exchange) (logs : Logs) (r : Request)
    → Reached st accepts a start xs logs ck → request_in st ck left a logs ≡ Some r → Asks a start xs r
asks-in stage.Checkpoint ck left accepts a start xs logs r reached e = for_checkpoint reached.0 (some-same _ r e)
asks-in stage.Page (Some c) left accepts a start xs logs r reached e = for_page c logs reached (page-asked left _ r e)
asks-in stage.Page None left accepts a start xs logs r reached e = absurd reached
asks-in stage.Inclusion (Some c) left accepts a start xs logs r reached e = for_inclusion c logs reached.0 (some-same _ r e)
asks-in stage.Inclusion None left accepts a start xs logs r reached e = absurd reached
asks-in (stage.Consistency from) (Some c) left accepts a start xs logs r reached e =
    for_consistency reached.1 c logs reached.3 (some-same _ r e ∙ ap (λ (k : Checkpoint). consistency_request a k.log_length c.contents.log_length) reached.2)
asks-in (stage.Consistency from) None left accepts a start xs logs r reached e = absurd reached
asks-in stage.Proved (Some c) left accepts a start xs logs r reached e = absurd cc
asks-in stage.Proved None left accepts a start xs logs r reached e = absurd reached
asks-in stage.Refused ck left accepts a start xs logs r reached e = absurd cc

-- a step that asks nothing is over, or may ask for no more pages
pub over-in : (st : Stage) (ck : Option SignedCheckpoint) (left : ℕ) (accepts : Accepts) (a b : Asker) (start : Start) (xs : List Exchange) (logs : Logs)
    → Reached st accepts a start xs logs ck → request_in st ck left b logs ≡ None → ((st ≡ stage.Page) × (left ≡ 0)) ⊎ ((st ≡ stage.Proved) ⊎ (st ≡ stage.Refused))
over-in stage.Checkpoint ck left accepts a b start xs logs reached e = absurd cc
over-in stage.Page (Some c) left accepts a b start xs logs reached e = inl (refl, page-none left _ e)
over-in stage.Page None left accepts a b start xs logs reached e = absurd reached
over-in stage.Inclusion (Some c) left accepts a b start xs logs reached e = absurd cc
over-in stage.Inclusion None left accepts a b start xs logs reached e = absurd reached
over-in (stage.Consistency from) (Some c) left accepts a b start xs logs reached e = absurd cc
over-in (stage.Consistency from) None left accepts a b start xs logs reached e = absurd reached
over-in stage.Proved ck left accepts a b start xs logs reached e = inr (inl refl)
over-in stage.Refused ck left accepts a b start xs logs reached e = inr (inr refl)

pub asks-at : (accepts : Accepts) (a : Asker) (start : Start) (step : UpdateStep) (xs : List Exchange) (r : Request) → Stands accepts a start step xs → request_at a step ≡ Some r → Asks a start xs r
asks-at accepts a start step xs r stands e = asks-in step.stage step.checkpoint step.pages_left accepts a start xs (logs_of step) r stands.reached e

-- ---- one exchange more

-- a step advances where it has reached its stage by one exchange more
pub advances : (accepts : Accepts) (old : UpdateStep) (reply : Reply) (new : UpdateStep) → KeepsOn accepts old new
    → ((a : Asker) (start : Start) (xs : List Exchange) (request : Request) → request_at a old ≡ Some request → Stands accepts a start old xs
    → Reached new.stage accepts a start (xs ++ record { request = request; reply = reply } ∷ []) (logs_of new) new.checkpoint)
    → Advances accepts old reply new
advances accepts old reply new keeps reaches a start xs request asks stands = record {
  ready = keeps.ready stands.ready;
  stored = keeps.stored ∙ stands.stored;
  asked = asked-push a start xs (record { request = request; reply = reply }) stands.asked (asks-at accepts a start old xs request stands asks);
  reached = reaches a start xs request asks stands;
}

-- a page
pub reached-page : (next : Stage) (accepts : Accepts) (a : Asker) (start : Start) (xs : List Exchange) (c : SignedCheckpoint) (before after : Logs) (x : Exchange) (more : Bool)
    → Opens a start xs c before true → Turns a c.contents.log_length before x after more → FollowsPage accepts c more after next → Reached next accepts a start (xs ++ x ∷ []) after (Some c)
reached-page stage.Page accepts a start xs c before after x more opens turns follows =
    opens-push a start xs c before after x true opens (subst (Turns a c.contents.log_length before x after) follows turns)
reached-page stage.Inclusion accepts a start xs c before after x more opens turns follows =
    (opens-push a start xs c before after x false opens (subst (Turns a c.contents.log_length before x after) follows.0 turns), follows.1)
reached-page stage.Checkpoint accepts a start xs c before after x more opens turns follows = absurd follows
reached-page (stage.Consistency from) accepts a start xs c before after x more opens turns follows = absurd follows
reached-page stage.Proved accepts a start xs c before after x more opens turns follows = absurd follows
reached-page stage.Refused accepts a start xs c before after x more opens turns follows = absurd follows

succeeds-settled : (a : Asker) (stored : Option SignedCheckpoint) (c : Checkpoint) → StandsTo stored c how.Settled → Succeeds a stored c []
succeeds-settled a None c settled = refl
succeeds-settled a (Some old) c settled = inl (settled, refl)

-- the inclusion
pub reached-heads : (next : Stage) (stored : Option SignedCheckpoint) (accepts : Accepts) (a : Asker) (start : Start) (xs : List Exchange) (c : SignedCheckpoint) (logs : Logs) (x : Exchange)
    → stored ≡ start.stored → Opens a start xs c logs false → AreTrusted accepts logs c → AsksInclusion a c.contents logs x → FollowsHeads stored c.contents next
    → Reached next accepts a start (xs ++ x ∷ []) logs (Some c)
reached-heads stage.Proved stored accepts a start xs c logs x is opens trusted asks follows =
    proves-all accepts a start xs c logs x [] opens trusted.lawful trusted.signed asks
    (subst (λ (s : Option SignedCheckpoint). Succeeds a s c.contents []) is (succeeds-settled a stored c.contents follows))
reached-heads (stage.Consistency from) None accepts a start xs c logs x is opens trusted asks follows = absurd follows
reached-heads (stage.Consistency from) (Some old) accepts a start xs c logs x is opens trusted asks follows = (
  trusted,
  old,
  follows.0,
  record {
    before = xs;
    inclusion = x;
    in_turn = refl;
    opens = opens;
    asks_inclusion = asks;
    stored = sym is;
    shorter = subst (λ (k : Checkpoint). k.log_length < c.contents.log_length) follows.0 follows.1;
  },
)
reached-heads stage.Checkpoint stored accepts a start xs c logs x is opens trusted asks follows = absurd follows
reached-heads stage.Page stored accepts a start xs c logs x is opens trusted asks follows = absurd follows
reached-heads stage.Inclusion stored accepts a start xs c logs x is opens trusted asks follows = absurd follows
reached-heads stage.Refused stored accepts a start xs c logs x is opens trusted asks follows = absurd follows

-- ---- at a stage that is known

pub reached-at : (st known : Stage) (ck there : Option SignedCheckpoint) (accepts : Accepts) (a : Asker) (start : Start) (xs : List Exchange) (logs : Logs)
    → st ≡ known → ck ≡ there → Reached st accepts a start xs logs ck → Reached known accepts a start xs logs there
reached-at st known ck there accepts a start xs logs at_stage at_checkpoint reached =
    subst (λ (s : Stage). Reached s accepts a start xs logs there) at_stage (subst (Reached st accepts a start xs logs) at_checkpoint reached)

pub request-at : (st known : Stage) (ck there : Option SignedCheckpoint) (left : ℕ) (a : Asker) (logs : Logs) → st ≡ known → ck ≡ there → request_in st ck left a logs ≡ request_in known there left a logs
request-at st known ck there left a logs at_stage at_checkpoint =
    ap (λ (s : Stage). request_in s ck left a logs) at_stage ∙ ap (λ (k : Option SignedCheckpoint). request_in known k left a logs) at_checkpoint

-- where all checks have passed there is a checkpoint
pub no-checkpoint : (st : Stage) (accepts : Accepts) (a : Asker) (start : Start) (xs : List Exchange) (logs : Logs) → Reached st accepts a start xs logs None → st ≡ stage.Proved → ⊥
no-checkpoint st accepts a start xs logs reached is = subst (λ (s : Stage). Reached s accepts a start xs logs None) is reached
