-- How many pages a step has asked for.
use Rattle.std.proofs.Common.{◌≡◌, ◌≤◌, ◌+◌, ℕ, Bool, true, false, List, [], ◌∷◌, ◌++◌, Option, Some, None, refl, ap, subst, arith, nat_lt}
use Rattle.std.proofs.lemmas.Bool.{ltb-true}
use Rattle.std.specs.Prelude.{if◌then◌else◌}
use Rattle.warg_exchange.specs.declared.exchange.Exchange.{Exchange}
use Rattle.warg_exchange.specs.declared.exchange.Request.{Request}
use Rattle.warg_exchange.specs.declared.exchange.Reply.{Reply}
use Rattle.warg_exchange.specs.declared.checkpoint.SignedCheckpoint.{SignedCheckpoint}
use Rattle.warg_exchange.specs.Requests.{Asker, checkpoint_request, inclusion_request, consistency_request}
use Rattle.warg_page.specs.Logs.{Logs, indices_of}
use Rattle.warg_update.specs.Proved.{page_request}
use Rattle.warg_update.specs.Standing.{Counts, logs_of, pages_in, pages_left, request_at, request_in}
use Rattle.warg_update.specs.declared.stage.Stage.{Stage}
use Rattle.warg_update.specs.declared.stage.Stage.TheVariants as stage
use Rattle.warg_update.specs.declared.step.UpdateStep.{UpdateStep}
use Rattle.warg_session.specs.Pages.{asks_page, pages_asked, pages_of, pages_with}
use Rattle.warg_session.specs.PagesLaws.{pages_more, page_is_asked, checkpoint_is_no_page, inclusion_is_no_page, consistency_is_no_page}
use Rattle.warg_session.specs.Recording.{exchange}

asked_by : (a : Asker) (q r : Request) (asks : Bool) → Some q ≡ Some r → asks_page a q ≡ asks → pages_of (asks_page a r) ≡ pages_of asks
asked_by a q r asks same is = ap (λ b. pages_of b) (subst (λ o. asks_page a o ≡ asks) (the_same q r same) is)
  where
    the_same : (q r : Request) → Some q ≡ Some r → q ≡ r
    the_same q r e = cc

page_by : (a : Asker) (q r : Request) (may : Bool) → (if may then Some q else None) ≡ Some r → asks_page a q ≡ true → pages_of (asks_page a r) ≡ 1
page_by a q r true same is = asked_by a q r true same is
page_by a q r false same is = absurd cc

-- a step asks for as many as its stage says
asks_pages : (st : Stage) (ck : Option SignedCheckpoint) (left : ℕ) (a : Asker) (logs : Logs) (r : Request) → request_in st ck left a logs ≡ Some r → pages_of (asks_page a r) ≡ pages_in st
asks_pages stage.Checkpoint ck left a logs r e = asked_by a (checkpoint_request a) r false e (checkpoint_is_no_page a)
asks_pages stage.Page (Some c) left a logs r e = page_by a (page_request a c.contents.log_length logs) r (nat_lt 0 left) e (page_is_asked a c.contents.log_length logs)
asks_pages stage.Page None left a logs r e = absurd cc
asks_pages stage.Inclusion (Some c) left a logs r e = asked_by a (inclusion_request a c.contents.log_length (indices_of logs)) r false e (inclusion_is_no_page a c.contents.log_length (indices_of logs))
asks_pages stage.Inclusion None left a logs r e = absurd cc
asks_pages (stage.Consistency from) (Some c) left a logs r e = asked_by a (consistency_request a from.log_length c.contents.log_length) r false e (consistency_is_no_page a from.log_length c.contents.log_length)
asks_pages (stage.Consistency from) None left a logs r e = absurd cc
asks_pages stage.Proved ck left a logs r e = absurd cc
asks_pages stage.Refused ck left a logs r e = absurd cc

sum_on : (new old p q asked all limit : ℕ) → new + p ≡ old → q ≡ p → all ≡ asked + q → old + asked ≡ limit → new + all ≡ limit
sum_on new old p q asked all limit step same more counted = omega (arith, step, same, more, counted)

-- with one request more so many are left as were not asked for
pub counted_on : (a : Asker) (old new : UpdateStep) (request : Request) (reply : Reply) (xs : List Exchange) (limit : ℕ) → request_at a old ≡ Some request → Counts old new
    → pages_left old + pages_asked a xs ≡ limit → pages_left new + pages_asked a (xs ++ exchange request reply ∷ []) ≡ limit
counted_on a old new request reply xs limit asked counts counted =
    sum_on (pages_left new) (pages_left old) (pages_in old.stage) (pages_of (asks_page a request)) (pages_asked a xs) (pages_asked a (xs ++ exchange request reply ∷ [])) limit
    (counts a request asked) (asks_pages old.stage old.checkpoint old.pages_left a (logs_of old) request asked) (pages_more a xs (exchange request reply ∷ [])) counted

-- a page is asked for only where one is left
page_left : (q r : Request) (left : ℕ) (may : Bool) → nat_lt 0 left ≡ may → (if may then Some q else None) ≡ Some r → 1 ≤ left
page_left q r left true may is = omega (arith, ltb-true 0 left may)
page_left q r left false may is = absurd cc

no_more : (asks : Bool) (left : ℕ) → pages_of asks ≡ 0 → pages_of asks ≤ left
no_more asks left none = omega (arith, none)

within_left : (st : Stage) (ck : Option SignedCheckpoint) (left : ℕ) (a : Asker) (logs : Logs) (r : Request) → request_in st ck left a logs ≡ Some r → pages_of (asks_page a r) ≤ left
within_left stage.Checkpoint ck left a logs r e = no_more (asks_page a r) left (asks_pages stage.Checkpoint ck left a logs r e)
within_left stage.Page (Some c) left a logs r e =
    let one = asks_pages stage.Page (Some c) left a logs r e in
    let some = page_left (page_request a c.contents.log_length logs) r left (nat_lt 0 left) refl e in
    omega (arith, one, some)
within_left stage.Page None left a logs r e = absurd cc
within_left stage.Inclusion ck left a logs r e = no_more (asks_page a r) left (asks_pages stage.Inclusion ck left a logs r e)
within_left (stage.Consistency from) ck left a logs r e = no_more (asks_page a r) left (asks_pages (stage.Consistency from) ck left a logs r e)
within_left stage.Proved ck left a logs r e = absurd cc
within_left stage.Refused ck left a logs r e = absurd cc

-- with the next request no more are asked for than may be
pub counted_with : (a : Asker) (step : UpdateStep) (request : Request) (xs : List Exchange) (limit : ℕ) → request_at a step ≡ Some request
    → pages_left step + pages_asked a xs ≡ limit → pages_with a xs request ≤ limit
counted_with a step request xs limit asked counted =
    let few = within_left step.stage step.checkpoint step.pages_left a (logs_of step) request asked in
    omega (arith, few, counted)
