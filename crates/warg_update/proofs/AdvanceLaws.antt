-- How a step advances with the reply of each stage, and which fault a reply has.
use Rattle.std.proofs.Common.{◌≡◌, ◌<◌, ◌+◌, ◌⊎◌, arith, ◌++◌, ◌∷◌, [], inl, inr, List, ℕ, Bool, true, Option, Some, None, Ok, refl, sym, ◌∙◌, subst}
use Rattle.std.specs.Prelude.{Result, Err, IfOk, IfSome}
use Rattle.warg_log.specs.Rules.{Accepts}
use Rattle.warg_exchange.specs.declared.exchange.Exchange.{Exchange}
use Rattle.warg_exchange.specs.declared.exchange.Request.{Request}
use Rattle.warg_exchange.specs.declared.exchange.Reply.{Reply}
use Rattle.warg_exchange.specs.declared.checkpoint.Checkpoint.{Checkpoint}
use Rattle.warg_exchange.specs.declared.checkpoint.SignedCheckpoint.{SignedCheckpoint}
use Rattle.warg_exchange.specs.Requests.{Asker, checkpoint_request, inclusion_request, consistency_request}
use Rattle.warg_exchange.specs.Replies.{says, checkpoint_in, page_in}
use Rattle.warg_exchange.specs.Views.{Page}
use Rattle.warg_page.specs.Logs.{Logs, indices_of}
use Rattle.warg_update.specs.declared.error.AskError.{AskError}
use Rattle.warg_update.specs.Proved.{page_request, Turns, Start, Asks, Opens, Proves, AsksCheckpoint, AsksInclusion, AsksConsistency}
use Rattle.warg_update.specs.declared.error.UpdateError.{UpdateError}
use Rattle.warg_update.specs.declared.stage.Stage.{Stage}
use Rattle.warg_update.specs.declared.stage.Stage.TheVariants as stage
use Rattle.warg_update.specs.declared.step.UpdateStep.{UpdateStep}
use Rattle.warg_info.specs.declared.operator.OperatorInfo.{OperatorInfo}
use Rattle.warg_info.specs.declared.package.PackageInfo.{PackageInfo}
use Rattle.warg_page.specs.Steps.{AreGood, IsGoodOperator}
use Rattle.warg_page.specs.Views.{AreSound}
use Rattle.warg_update.specs.Standing.{turns_in, request_in, request_at, logs_of, hints_of, Reached, IsReady, Stands, KeepsOn, Advances}
use Rattle.warg_update.specs.Stages.{IsTurned, AreShown, FollowsHeads, IsContinued}
use Rattle.warg_update.specs.FeedFaults.{IsFaultIn, IsFeedFault}
use Rattle.warg_update.proofs.PagesLaws.{opens-first, proves-continued}
use Rattle.warg_update.proofs.StandingLaws.{some-same, asks-at, page-asked, advances, reached-page, reached-heads, reached-at, request-at}

-- the request of a step at a stage that is known
asked-at : (a : Asker) (old : UpdateStep) (known : Stage) (there : Option SignedCheckpoint) (request : Request) → old.stage ≡ known → old.checkpoint ≡ there → request_at a old ≡ Some request
    → request_in known there old.pages_left a (logs_of old) ≡ Some request
asked-at a old known there request at_stage at_checkpoint asks = sym (request-at old.stage known old.checkpoint there old.pages_left a (logs_of old) at_stage at_checkpoint) ∙ asks

stands-at : (accepts : Accepts) (a : Asker) (start : Start) (old : UpdateStep) (xs : List Exchange) (known : Stage) (there : Option SignedCheckpoint) → old.stage ≡ known → old.checkpoint ≡ there → Stands accepts a start old xs
    → Reached known accepts a start xs (logs_of old) there
stands-at accepts a start old xs known there at_stage at_checkpoint stands = reached-at old.stage known old.checkpoint there accepts a start xs (logs_of old) at_stage at_checkpoint stands.reached

-- ---- with the checkpoint

pub checkpoint-advances : (accepts : Accepts) (old new : UpdateStep) (reply : Reply) (c : SignedCheckpoint) → old.stage ≡ stage.Checkpoint → new.stage ≡ stage.Page → new.checkpoint ≡ Some c → logs_of new ≡ logs_of old
    → KeepsOn accepts old new → says checkpoint_in reply ≡ Ok c → Advances accepts old reply new
checkpoint-advances accepts old new reply c at_stage at_next there same keeps came = advances accepts old reply new keeps reaches
  where
    reaches : (a : Asker) (start : Start) (xs : List Exchange) (request : Request) → request_at a old ≡ Some request → Stands accepts a start old xs
        → Reached new.stage accepts a start (xs ++ record { request = request; reply = reply } ∷ []) (logs_of new) new.checkpoint
    reaches a start xs request asks stands =
        let x : Exchange = record { request = request; reply = reply } in
        let before = stands-at accepts a start old xs stage.Checkpoint old.checkpoint at_stage refl stands in
        let is : request ≡ checkpoint_request a = some-same _ request (asked-at a old stage.Checkpoint old.checkpoint request at_stage refl asks) in
        let asked : AsksCheckpoint a x c = record { asked = is; came = came } in
        let first : Opens a start (x ∷ []) c start.logs true = opens-first a start x c asked in
        let here : Opens a start (xs ++ x ∷ []) c (logs_of new) true =
        subst (λ (l : List Exchange). Opens a start (l ++ x ∷ []) c (logs_of new) true) (sym before.0) (subst (λ (l : Logs). Opens a start (x ∷ []) c l true) (sym (same ∙ before.1)) first) in
        reached-at stage.Page new.stage (Some c) new.checkpoint accepts a start (xs ++ x ∷ []) (logs_of new) (sym at_next) (sym there) here

-- ---- with a page

pub turned-advances : (accepts : Accepts) (old new : UpdateStep) (reply : Reply) (c : SignedCheckpoint) (page : Page) → old.stage ≡ stage.Page → old.checkpoint ≡ Some c → new.checkpoint ≡ old.checkpoint → KeepsOn accepts old new
    → says page_in reply ≡ Ok page → (IsReady accepts old → IsTurned accepts c (logs_of old) page (logs_of new) new.stage) → Advances accepts old reply new
turned-advances accepts old new reply c page at_stage there same keeps came turned = advances accepts old reply new keeps reaches
  where
    reaches : (a : Asker) (start : Start) (xs : List Exchange) (request : Request) → request_at a old ≡ Some request → Stands accepts a start old xs
        → Reached new.stage accepts a start (xs ++ record { request = request; reply = reply } ∷ []) (logs_of new) new.checkpoint
    reaches a start xs request asks stands =
        let x : Exchange = record { request = request; reply = reply } in
        let t = turned stands.ready in
        let opens : Opens a start xs c (logs_of old) true = stands-at accepts a start old xs stage.Page (Some c) at_stage there stands in
        let is : request ≡ page_request a c.contents.log_length (logs_of old) = page-asked old.pages_left _ request (asked-at a old stage.Page (Some c) request at_stage there asks) in
        let turns : Turns a c.contents.log_length (logs_of old) x (logs_of new) page.more = record { asked = is; page = page; came = came; brings = t.brings; kept = t.kept; said = refl } in
        subst (Reached new.stage accepts a start (xs ++ x ∷ []) (logs_of new)) (sym (same ∙ there)) (reached-page new.stage accepts a start xs c (logs_of old) (logs_of new) x page.more opens turns t.follows)

-- ---- with the inclusion

pub heads-advances : (accepts : Accepts) (old new : UpdateStep) (reply : Reply) (c : SignedCheckpoint) → old.stage ≡ stage.Inclusion → old.checkpoint ≡ Some c → new.checkpoint ≡ old.checkpoint → logs_of new ≡ logs_of old
    → KeepsOn accepts old new → (IsReady accepts old → AreShown c.contents (logs_of old) reply) → FollowsHeads old.stored c.contents new.stage → Advances accepts old reply new
heads-advances accepts old new reply c at_stage there same same_logs keeps shown follows = advances accepts old reply new keeps reaches
  where
    reaches : (a : Asker) (start : Start) (xs : List Exchange) (request : Request) → request_at a old ≡ Some request → Stands accepts a start old xs
        → Reached new.stage accepts a start (xs ++ record { request = request; reply = reply } ∷ []) (logs_of new) new.checkpoint
    reaches a start xs request asks stands =
        let x : Exchange = record { request = request; reply = reply } in
        let s = shown stands.ready in
        let before = stands-at accepts a start old xs stage.Inclusion (Some c) at_stage there stands in
        let is : request ≡ inclusion_request a c.contents.log_length (indices_of (logs_of old)) = some-same _ request (asked-at a old stage.Inclusion (Some c) request at_stage there asks) in
        let asked : AsksInclusion a c.contents (logs_of old) x = record { asked = is; bundles = s.bundles; came = s.came; includes = s.includes } in
        let here : Reached new.stage accepts a start (xs ++ x ∷ []) (logs_of old) (Some c) = reached-heads new.stage old.stored accepts a start xs c (logs_of old) x stands.stored before.0 before.1 asked follows in
        subst (λ (l : Logs). Reached new.stage accepts a start (xs ++ x ∷ []) l new.checkpoint) (sym same_logs) (subst (Reached new.stage accepts a start (xs ++ x ∷ []) (logs_of old)) (sym (same ∙ there)) here)

-- ---- with the consistency

pub continued-advances : (accepts : Accepts) (old new : UpdateStep) (reply : Reply) (from : Checkpoint) (c : SignedCheckpoint) → old.stage ≡ stage.Consistency from → old.checkpoint ≡ Some c → new.checkpoint ≡ old.checkpoint
    → logs_of new ≡ logs_of old → new.stage ≡ stage.Proved → KeepsOn accepts old new → IsContinued from c.contents reply → Advances accepts old reply new
continued-advances accepts old new reply from c at_stage there same same_logs at_next keeps shown = advances accepts old reply new keeps reaches
  where
    reaches : (a : Asker) (start : Start) (xs : List Exchange) (request : Request) → request_at a old ≡ Some request → Stands accepts a start old xs
        → Reached new.stage accepts a start (xs ++ record { request = request; reply = reply } ∷ []) (logs_of new) new.checkpoint
    reaches a start xs request asks stands =
        let x : Exchange = record { request = request; reply = reply } in
        let before = stands-at accepts a start old xs (stage.Consistency from) (Some c) at_stage there stands in
        let is : request ≡ consistency_request a from.log_length c.contents.log_length = some-same _ request (asked-at a old (stage.Consistency from) (Some c) request at_stage there asks) in
        let asked : AsksConsistency a from c.contents x = record { asked = is; shown = shown.shown; came = shown.came; continues = shown.continues } in
        let of_stored : AsksConsistency a before.1.contents c.contents x = subst (λ (k : Checkpoint). AsksConsistency a k c.contents x) before.2 asked in
        let here : Proves accepts a start (xs ++ x ∷ []) (logs_of old) c = proves-continued accepts a start xs before.1 c (logs_of old) x before.3 before.0.lawful before.0.signed of_stored in
        subst (λ (l : Logs). Reached new.stage accepts a start (xs ++ x ∷ []) l new.checkpoint) (sym same_logs)
        (reached-at stage.Proved new.stage (Some c) new.checkpoint accepts a start (xs ++ x ∷ []) (logs_of old) (sym at_next) (sym (same ∙ there)) here)

-- ---- faults

pub fault-at : (e : UpdateError) (accepts : Accepts) (said : Bool → Bool) (old : UpdateStep) (reply : Reply) (known : Stage) (there : Option SignedCheckpoint) → old.stage ≡ known → old.checkpoint ≡ there
    → IsFaultIn known e accepts (hints_of old) said (logs_of old) there old.stored reply → IsFeedFault e accepts said old reply
fault-at e accepts said old reply known there at_stage at_checkpoint fault =
    inr (subst (λ (s : Stage). IsFaultIn s e accepts (hints_of old) said (logs_of old) old.checkpoint old.stored reply) (sym at_stage)
    (subst (λ (k : Option SignedCheckpoint). IsFaultIn known e accepts (hints_of old) said (logs_of old) k old.stored reply) (sym at_checkpoint) fault))

-- a step asks nothing where none is asked at its stage
pub nothing-at : (old : UpdateStep) (known : Stage) (there : Option SignedCheckpoint) → old.stage ≡ known → old.checkpoint ≡ there → ((a : Asker) → request_in known there old.pages_left a (logs_of old) ≡ None)
    → (a : Asker) → request_at a old ≡ None
nothing-at old known there at_stage at_checkpoint none a = request-at old.stage known old.checkpoint there old.pages_left a (logs_of old) at_stage at_checkpoint ∙ none a

-- ---- what is left

pub turns-page : (next st : Stage) (left before : ℕ) → st ≡ stage.Page → (next ≡ stage.Page) ⊎ (next ≡ stage.Inclusion) → left + 1 ≡ before → turns_in next left < turns_in st before
turns-page next st left before at_page goes less = subst (λ (s : Stage). turns_in next left < turns_in s before) (sym at_page) (by_stage goes)
  where
    by_stage : (next ≡ stage.Page) ⊎ (next ≡ stage.Inclusion) → turns_in next left < turns_in stage.Page before
    by_stage (inl is) = subst (λ (s : Stage). turns_in s left < turns_in stage.Page before) (sym is) (omega (arith, less))
    by_stage (inr is) = subst (λ (s : Stage). turns_in s left < turns_in stage.Page before) (sym is) (omega (arith, less))

-- good infos are sound
pub sound-of : (accepts : Accepts) (operator : OperatorInfo) (packages : List PackageInfo) → IsGoodOperator accepts operator → AreGood accepts packages → AreSound operator packages
sound-of accepts operator packages good all_good = record { operator = good.sound; packages = λ i d lt. (all_good i d lt).sound }

-- ---- what is asked

asks-some : (r : Option Request) (accepts : Accepts) (a : Asker) (start : Start) (step : UpdateStep) (xs : List Exchange) → r ≡ request_at a step → Stands accepts a start step xs → IfSome r (λ q. Asks a start xs q)
asks-some None accepts a start step xs is stands = tt
asks-some (Some q) accepts a start step xs is stands = asks-at accepts a start step xs q stands (sym is)

-- what is asked at a step is the next request
pub asks-if-ok : (result : Result (Option Request) AskError) (k : Asker) (accepts : Accepts) (a : Asker) (start : Start) (step : UpdateStep) (xs : List Exchange) → k ≡ a → IfOk result (λ r. r ≡ request_at k step)
    → Stands accepts a start step xs → IfOk result (λ r. IfSome r (λ q. Asks a start xs q))
asks-if-ok (Err e) k accepts a start step xs same exact stands = tt
asks-if-ok (Ok r) k accepts a start step xs same exact stands = asks-some r accepts a start step xs (subst (λ (b : Asker). r ≡ request_at b step) same exact) stands
