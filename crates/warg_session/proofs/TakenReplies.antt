-- A reply that a step has taken was a success, and so it asked for no decision.
use Rattle.std.proofs.Common.{◌≡◌, ◌++◌, ◌∷◌, [], inl, inr, List, ℕ, Bool, true, false, Option, Some, None, Result, Ok, Err, refl, sym, subst}
use Rattle.std.specs.Prelude.{if◌then◌else◌}
use Rattle.serde_json.specs.Data.{Data}
use Rattle.warg_hash.specs.Hash.{package_log_id}
use Rattle.warg_log.specs.Rules.{Accepts}
use Rattle.warg_exchange.specs.declared.exchange.Exchange.{Exchange}
use Rattle.warg_exchange.specs.declared.exchange.Request.{Request}
use Rattle.warg_exchange.specs.declared.exchange.Reply.{Reply}
use Rattle.warg_exchange.specs.declared.checkpoint.Checkpoint.{Checkpoint}
use Rattle.warg_exchange.specs.declared.checkpoint.SignedCheckpoint.{SignedCheckpoint}
use Rattle.warg_exchange.specs.declared.service.ServiceError.{ServiceError}
use Rattle.warg_exchange.specs.declared.service.ServiceError.TheVariants.{LogNotFound}
use Rattle.warg_exchange.specs.Requests.{Asker}
use Rattle.warg_exchange.specs.Body.{Meaning}
use Rattle.warg_exchange.specs.Replies.{ReplyFault, Refused, is_success, meant, refusal, refusal_in, says, value_in, checkpoint_in, page_in, bundles_in, proof_in}
use Rattle.warg_page.specs.Logs.{Logs}
use Rattle.warg_update.specs.Proved.{Start, Pages, Opens, Shows, Proves, Succeeds}
use Rattle.warg_update.specs.Standing.{request_in, request_at, logs_of, IsProved, IsRefused, Reached, Stands}
use Rattle.warg_update.specs.FeedFaults.{AsksDecision}
use Rattle.warg_update.specs.declared.stage.Stage.{Stage}
use Rattle.warg_update.specs.declared.stage.Stage.TheVariants as stage
use Rattle.warg_update.specs.declared.step.UpdateStep.{UpdateStep}

-- each of these replies is a success
abbrev AreSuccesses : List Exchange → Type 0
AreSuccesses [] = Unit {0}
AreSuccesses (x ∷ xs) = (is_success x.reply.status ≡ true) × AreSuccesses xs

both : (xs ys : List Exchange) → AreSuccesses xs → AreSuccesses ys → AreSuccesses (xs ++ ys)
both [] ys h k = k
both (x ∷ xs) ys h k = (h.0, both xs ys h.1 k)

last_of : (xs : List Exchange) (x : Exchange) → AreSuccesses (xs ++ x ∷ []) → is_success x.reply.status ≡ true
last_of [] x h = h.0
last_of (y ∷ xs) x h = last_of xs x h.1

-- a reply that says a value is a success, and one that is a success is no error of the registry
by_value : {X : Type 0} (b : Bool) (m : Result X ReplyFault) (f : ReplyFault) (v : X) → (if b then m else Err f) ≡ Ok v → b ≡ true
by_value true m f v e = refl
by_value false m f v e = absurd cc

success : {X : Type 0} (f : Data → Meaning X) (reply : Reply) (v : X) → says f reply ≡ Ok v → is_success reply.status ≡ true
success f reply v e = by_value (is_success reply.status) (meant (value_in f reply)) (refusal (refusal_in reply)) v e

not_refused : {X : Type 0} (b : Bool) (m : Meaning X) (f : ReplyFault) (e : ServiceError) → b ≡ true → (if b then meant m else Err f) ≡ Err (Refused e) → ⊥
not_refused true (Ok x) f e is h = absurd cc
not_refused true (Err g) f e is h = absurd cc
not_refused false m f e is h = absurd cc

-- the exchanges whose replies were taken
by_pages : (a : Asker) (n : ℕ) (before : Logs) (xs : List Exchange) (after : Logs) (more : Bool) → Pages a n before xs after more → AreSuccesses xs
by_pages a n before [] after more h = record {}
by_pages a n before (x ∷ xs) after more (inl h) = (success page_in x.reply h.1.page h.1.came, by_pages a n h.0 xs after more h.2)
by_pages a n before (x ∷ xs) after more (inr h) = (success page_in x.reply h.0.page h.0.came, subst AreSuccesses (sym h.1) (record {}))

by_opens : (a : Asker) (start : Start) (xs : List Exchange) (c : SignedCheckpoint) (logs : Logs) (more : Bool) → Opens a start xs c logs more → AreSuccesses xs
by_opens a start xs c logs more h =
    let first : is_success h.first.reply.status ≡ true = success checkpoint_in h.first.reply c h.asks_checkpoint.came in
    let pages : AreSuccesses h.pages = by_pages a c.contents.log_length start.logs h.pages logs more h.asks_pages in
    let all : AreSuccesses (h.first ∷ h.pages) = (first, pages) in
    subst AreSuccesses (sym h.in_turn) all

by_shows : (a : Asker) (start : Start) (xs : List Exchange) (old c : SignedCheckpoint) (logs : Logs) → Shows a start xs old c logs → AreSuccesses xs
by_shows a start xs old c logs h =
    let last : AreSuccesses (h.inclusion ∷ []) = (success bundles_in h.inclusion.reply h.asks_inclusion.bundles h.asks_inclusion.came, record {}) in
    subst AreSuccesses (sym h.in_turn) (both h.before (h.inclusion ∷ []) (by_opens a start h.before c logs false h.opens) last)

by_succeeds : (a : Asker) (stored : Option SignedCheckpoint) (c : Checkpoint) (xs : List Exchange) → Succeeds a stored c xs → AreSuccesses xs
by_succeeds a None c xs h = subst AreSuccesses (sym h) (record {})
by_succeeds a (Some old) c xs (inl h) = subst AreSuccesses (sym h.1) (record {})
by_succeeds a (Some old) c xs (inr h) =
    let last : AreSuccesses (h.1 ∷ []) = (success proof_in h.1.reply h.2.shown h.2.came, record {}) in
    subst AreSuccesses (sym h.3) last

by_proves : (accepts : Accepts) (a : Asker) (start : Start) (xs : List Exchange) (logs : Logs) (c : SignedCheckpoint) → Proves accepts a start xs logs c → AreSuccesses xs
by_proves accepts a start xs logs c h =
    let first : is_success h.first.reply.status ≡ true = success checkpoint_in h.first.reply c h.asks_checkpoint.came in
    let pages : AreSuccesses h.pages = by_pages a c.contents.log_length start.logs h.pages logs false h.asks_pages in
    let rest : AreSuccesses (h.inclusion ∷ h.rest) = (success bundles_in h.inclusion.reply h.asks_inclusion.bundles h.asks_inclusion.came, by_succeeds a start.stored c.contents h.rest h.succeeds) in
    let all : AreSuccesses (h.first ∷ (h.pages ++ h.inclusion ∷ h.rest)) = (first, both h.pages (h.inclusion ∷ h.rest) pages rest) in
    subst AreSuccesses (sym h.in_turn) all

by_stage : (st : Stage) (ck : Option SignedCheckpoint) (accepts : Accepts) (a : Asker) (start : Start) (xs : List Exchange) (logs : Logs) → Reached st accepts a start xs logs ck → (st ≡ stage.Refused → ⊥) → AreSuccesses xs
by_stage stage.Checkpoint ck accepts a start xs logs reached taken = subst AreSuccesses (sym reached.0) (record {})
by_stage stage.Page (Some c) accepts a start xs logs reached taken = by_opens a start xs c logs true reached
by_stage stage.Page None accepts a start xs logs reached taken = absurd reached
by_stage stage.Inclusion (Some c) accepts a start xs logs reached taken = by_opens a start xs c logs false reached.0
by_stage stage.Inclusion None accepts a start xs logs reached taken = absurd reached
by_stage (stage.Consistency from) (Some c) accepts a start xs logs reached taken = by_shows a start xs reached.1 c logs reached.3
by_stage (stage.Consistency from) None accepts a start xs logs reached taken = absurd reached
by_stage stage.Proved (Some c) accepts a start xs logs reached taken = by_proves accepts a start xs logs c reached
by_stage stage.Proved None accepts a start xs logs reached taken = absurd reached
by_stage stage.Refused ck accepts a start xs logs reached taken = absurd (taken refl)

-- the last reply before them asked for no decision
pub no_decision : (accepts : Accepts) (a : Asker) (start : Start) (old new : UpdateStep) (xs : List Exchange) (x : Exchange) → Stands accepts a start new (xs ++ x ∷ []) → (IsRefused new → ⊥) → AsksDecision old x.reply → ⊥
no_decision accepts a start old new xs x stands taken h =
    let all : AreSuccesses (xs ++ x ∷ []) = by_stage new.stage new.checkpoint accepts a start (xs ++ x ∷ []) (logs_of new) stands.reached taken in
    not_refused (is_success x.reply.status) (value_in page_in x.reply) (refusal (refusal_in x.reply)) (LogNotFound (package_log_id h.name)) (last_of xs x all) h.missing.said

-- a step that asks something has taken each reply
asking : (st : Stage) (ck : Option SignedCheckpoint) (left : ℕ) (a : Asker) (logs : Logs) (r : Request) → request_in st ck left a logs ≡ Some r → st ≡ stage.Refused → ⊥
asking st ck left a logs r asks is =
    let none : request_in stage.Refused ck left a logs ≡ Some r = subst (λ (s : Stage). request_in s ck left a logs ≡ Some r) is asks in
    absurd cc

pub asks_when_taken : (a : Asker) (step : UpdateStep) (r : Request) → request_at a step ≡ Some r → IsRefused step → ⊥
asks_when_taken a step r asks is = asking step.stage step.checkpoint step.pages_left a (logs_of step) r asks is

-- so has one that is over with all checks passed
pub proved_when_taken : (step : UpdateStep) → IsProved step → IsRefused step → ⊥
proved_when_taken step h is = absurd cc
