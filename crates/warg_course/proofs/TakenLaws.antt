-- That over a link that gives replies which prove logs an update is not refused for any of them.
use Rattle.std.proofs.Common.{◌≡◌, ◌<◌, ◌+◌, ◌++◌, ◌∷◌, [], List, ℕ, suc, Bool, true, Option, Some, None, refl, sym, ◌∙◌, ap, subst, arith}
use Rattle.std.specs.Prelude.{if◌then◌else◌}
use Rattle.std.proofs.lemmas.List.{append-nil}
use Rattle.warg_hint.specs.declared.settings.HintSettings.{HintSettings}
use Rattle.warg_log.specs.Rules.{Accepts}
use Rattle.warg_exchange.specs.declared.exchange.Exchange.{Exchange}
use Rattle.warg_exchange.specs.declared.exchange.Request.{Request}
use Rattle.warg_exchange.specs.declared.exchange.Reply.{Reply}
use Rattle.warg_exchange.specs.declared.checkpoint.SignedCheckpoint.{SignedCheckpoint}
use Rattle.warg_exchange.specs.Requests.{Asker, checkpoint_request, inclusion_request, consistency_request}
use Rattle.warg_api.specs.Link.{Asked, unanswered}
use Rattle.warg_page.specs.Logs.{Logs, indices_of}
use Rattle.warg_update.specs.Proved.{page_request, Start, Opens, Proves, for_checkpoint, for_page, for_inclusion, for_consistency}
use Rattle.warg_update.specs.Standing.{request_at, logs_of, hints_of, Reached, Stands}
use Rattle.warg_update.specs.FeedFaults.{IsFeedFault}
use Rattle.warg_update.specs.Refusals.{IsFaultBehind, of_checkpoint, of_page, of_inclusion, of_consistency}
use Rattle.warg_update.specs.declared.error.UpdateError.{UpdateError}
use Rattle.warg_update.specs.declared.error.UpdateError.TheVariants as error
use Rattle.warg_update.specs.declared.stage.Stage.{Stage}
use Rattle.warg_update.specs.declared.stage.Stage.TheVariants as stage
use Rattle.warg_update.specs.declared.step.UpdateStep.{UpdateStep}
use Rattle.warg_session.specs.Pages.{asks_page, pages_asked}
use Rattle.warg_session.specs.PagesLaws.{pages_more, page_is_asked}
use Rattle.warg_session.specs.Recording.{Transcript}
use Rattle.warg_session.specs.Updating.{HasNoReply, IsReplyRefused, IsLimited, IsUpdated, IsUpdateRefusal}
use Rattle.warg_session.specs.declared.error.UpdateRefusal.{UpdateRefusal}
use Rattle.warg_session.specs.declared.error.UpdateRefusal.TheVariants as refusal
use Rattle.warg_course.specs.Replies.{IsFront, GivesReplies}
use Rattle.warg_course.specs.Refusals.{IsOwnRefusal, IsUnanswered}
use Rattle.warg_course.proofs.GivenLaws.{given-rest, reply-given}
use Rattle.warg_course.proofs.AskLaws.{OneBringing, asks-over, proves-one}
use Rattle.warg_course.proofs.FrontLaws.{Laws, asks-asked, proves-asked, proves-front, proves-last, has-next}

-- ---- an update

-- that the next of exchanges that prove logs is asked for, that its reply has no fault but want of memory, and what faults
-- are behind exchanges
pub record UpdateLaws : Type 0 where
  pub asked : (accepts : Accepts) (a : Asker) (start : Start) (before : List Exchange) (x : Exchange) (after : List Exchange) (logs : Logs) (c : SignedCheckpoint) (step : UpdateStep) (request : Request)
      → Proves accepts a start (before ++ x ∷ after) logs c → Stands accepts a start step before → request_at a step ≡ Some request → request ≡ x.request
  pub taken : (accepts : Accepts) (a : Asker) (start : Start) (before : List Exchange) (x : Exchange) (after : List Exchange) (logs : Logs) (c : SignedCheckpoint) (step : UpdateStep) (request : Request) (said : Bool → Bool) (e : UpdateError)
      → Proves accepts a start (before ++ x ∷ after) logs c → Stands accepts a start step before → request_at a step ≡ Some request → IsFeedFault e accepts said step x.reply → e ≡ error.Memory
  pub behind : (accepts : Accepts) (a : Asker) (start : Start) (xs : List Exchange) (step : UpdateStep) (request : Request) (said : Bool → Bool) (reply : Reply) (e : UpdateError)
      → Stands accepts a start step xs → request_at a step ≡ Some request → IsFeedFault e accepts said step reply → IsFaultBehind e accepts (hints_of step) said a start xs reply

-- behind exchanges that prove logs no reply is refused
none-behind : OneBringing → (e : UpdateError) (accepts : Accepts) (settings : HintSettings) (said : Bool → Bool) (a : Asker) (start : Start) (xs : List Exchange) (reply : Reply) (logs : Logs) (c : SignedCheckpoint) → Proves accepts a start xs logs c
    → IsFaultBehind e accepts settings said a start xs reply → ⊥
none-behind once e accepts settings said a start xs reply logs c p (of_checkpoint none bad) = asks-over once accepts a start xs logs c (checkpoint_request a) p (for_checkpoint none refl)
none-behind once e accepts settings said a start xs reply logs c p (of_page d mid o bad) = asks-over once accepts a start xs logs c (page_request a d.contents.log_length mid) p (for_page d mid o refl)
none-behind once e accepts settings said a start xs reply logs c p (of_inclusion d mid o bad) = asks-over once accepts a start xs logs c (inclusion_request a d.contents.log_length (indices_of mid)) p (for_inclusion d mid o refl)
none-behind once e accepts settings said a start xs reply logs c p (of_consistency old d mid s bad) =
    asks-over once accepts a start xs logs c (consistency_request a old.contents.log_length d.contents.log_length) p (for_consistency old d mid s refl)

-- a step to which a page is next has the checkpoint, and so many pages
at-page : (st : Stage) (ck : Option SignedCheckpoint) (accepts : Accepts) (a : Asker) (start : Start) (xs : List Exchange) (logs : Logs) → Reached st accepts a start xs logs ck → st ≡ stage.Page → (c : SignedCheckpoint) × Opens a start xs c logs true
at-page st (Some c) accepts a start xs logs reached is = (c, subst (λ (s : Stage). Reached s accepts a start xs logs (Some c)) is reached)
at-page st None accepts a start xs logs reached is =
    let none : Reached stage.Page accepts a start xs logs None = subst (λ (s : Stage). Reached s accepts a start xs logs None) is reached in
    absurd none

-- an exchange that asked for a page counts
page-counts : (a : Asker) (x : Exchange) (xs : List Exchange) → asks_page a x.request ≡ true → pages_asked a (x ∷ xs) ≡ suc (pages_asked a xs)
page-counts a x xs is = ap (λ (b : Bool). if b then suc (pages_asked a xs) else pages_asked a xs) is

module _ {T : Type 0} (Steps : T → Asked → T → Type 0) (laws : Laws) (accepts : Accepts) (a : Asker) (start : Start) (ys : List Exchange) (logs : Logs) (c : SignedCheckpoint) (begun now : Transcript T) where
  -- the link gave no reply to the next of these exchanges
  never-replied : Proves accepts a start ys logs c → GivesReplies Steps begun.link ys → (limit : ℕ) → HasNoReply limit a start Steps begun now → IsUnanswered Steps ys begun.link now.link
  never-replied p given limit none =
      let front : IsFront none.exchanges ys = proves-front Steps laws accepts a start none.exchanges ys logs c begun.link none.before.link (asks-asked laws a start none.exchanges none.request none.asks) p given none.kept.passed in
      let next = has-next laws accepts a start none.exchanges ys none.request logs c none.asks p front in
      record {
        done = none.exchanges;
        next = next.next;
        rest = next.rest;
        in_turn = next.parts;
        before = none.before.link;
        passed = none.kept.passed;
        failed = subst (λ (r : Request). Steps none.before.link (unanswered r) now.link) next.asks none.no_reply.passed;
      }

  -- the next of these exchanges asks for a page, and no more may be asked for
  limit-passed : (limit : ℕ) → Proves accepts a start ys logs c → GivesReplies Steps begun.link ys → IsLimited accepts a start Steps begun now limit → limit < pages_asked a ys
  limit-passed limit p given limited =
      let xs : List Exchange = limited.under_way.0 in
      let come = limited.under_way.1 in
      let came : Logs = logs_of limited.step in
      let page = at-page limited.step.stage limited.step.checkpoint accepts a start xs came come.stands.reached limited.none_left.at_page in
      let front : IsFront xs ys = proves-front Steps laws accepts a start xs ys logs c begun.link now.link come.stands.asked p given come.kept.passed in
      let next = has-next laws accepts a start xs ys (page_request a page.0.contents.log_length came) logs c (for_page page.0 came page.1 refl) p front in
      let all : pages_asked a ys ≡ pages_asked a xs + pages_asked a (next.next ∷ next.rest) = ap (pages_asked a) next.parts ∙ pages_more a xs (next.next ∷ next.rest) in
      let one : pages_asked a (next.next ∷ next.rest) ≡ suc (pages_asked a next.rest) = page-counts a next.next next.rest (subst (λ (r : Request). asks_page a r ≡ true) next.asks (page_is_asked a page.0.contents.log_length came)) in
      more-asked limited.step.pages_left (pages_asked a xs) (pages_asked a (next.next ∷ next.rest)) (pages_asked a next.rest) (pages_asked a ys) limit limited.none_left.none_left come.counted all one
    where
      more-asked : (left asked behind rest all limit : ℕ) → left ≡ 0 → left + asked ≡ limit → all ≡ asked + behind → behind ≡ suc rest → limit < all
      more-asked left asked behind rest all limit none counted parts more = omega (arith, none, counted, parts, more)

  -- each reply is taken, but for want of memory
  always-taken : UpdateLaws → (said : Bool → Bool) (limit : ℕ) (e : UpdateError) → Proves accepts a start ys logs c → GivesReplies Steps begun.link ys → IsReplyRefused e accepts said limit a start Steps begun now → e ≡ error.Memory
  always-taken updates said limit e p given bad =
      by_front (proves-front Steps laws accepts a start bad.under_way.0 ys logs c begun.link bad.before.link bad.under_way.1.stands.asked p given bad.under_way.1.kept.passed)
    where
      by_front : IsFront bad.under_way.0 ys → e ≡ error.Memory
      by_front ([], all) =
          let whole : Proves accepts a start bad.under_way.0 logs c = subst (λ (l : List Exchange). Proves accepts a start l logs c) (all ∙ append-nil bad.under_way.0) p in
          absurd (none-behind laws.once e accepts (hints_of bad.step) said a start bad.under_way.0 bad.last.reply logs c whole (updates.behind accepts a start bad.under_way.0 bad.step bad.last.request said bad.last.reply e bad.under_way.1.stands bad.asked bad.fault))
      by_front (x ∷ after, parts) =
          let whole : Proves accepts a start (bad.under_way.0 ++ x ∷ after) logs c = subst (λ (l : List Exchange). Proves accepts a start l logs c) parts p in
          let asked : bad.last.request ≡ x.request = updates.asked accepts a start bad.under_way.0 x after logs c bad.step bad.last.request whole bad.under_way.1.stands bad.asked in
          let left : GivesReplies Steps bad.before.link (x ∷ after) = given-rest Steps bad.under_way.0 (x ∷ after) begun.link bad.before.link (subst (GivesReplies Steps begun.link) parts given) bad.under_way.1.kept.passed in
          let reply : bad.last.reply ≡ x.reply = (reply-given Steps x after bad.before.link now.link bad.last.request bad.last.reply left asked bad.kept.passed).0 in
          updates.taken accepts a start bad.under_way.0 x after logs c bad.step bad.last.request said e whole bad.under_way.1.stands bad.asked (subst (λ (r : Reply). IsFeedFault e accepts said bad.step r) reply bad.fault)

  own-refusal : UpdateLaws → (ids : List (List ℕ)) (limit : ℕ) (said : Bool → Bool) (e : UpdateRefusal) → Proves accepts a start ys logs c → GivesReplies Steps begun.link ys → IsUpdateRefusal e ids accepts said limit a start Steps begun now
      → IsOwnRefusal e ids limit a Steps ys begun.link now.link
  own-refusal updates ids limit said (refusal.SameLog id) p given bad = bad
  own-refusal updates ids limit said refusal.LinkFault p given bad = never-replied p given limit bad
  own-refusal updates ids limit said refusal.RoundLimit p given bad = limit-passed limit p given bad
  own-refusal updates ids limit said refusal.BadHeader p given bad = bad
  own-refusal updates ids limit said (refusal.Reply e) p given bad = always-taken updates said limit e p given bad
  own-refusal updates ids limit said refusal.Memory p given bad = tt

  -- what such an update proves are just these logs, by just these exchanges
  just-these : (other : Logs) (d : SignedCheckpoint) → Proves accepts a start ys logs c → GivesReplies Steps begun.link ys → IsUpdated accepts a start Steps begun now other d → (now.exchanges ≡ begun.exchanges ++ ys) × (other ≡ logs) × (d ≡ c)
  just-these other d p given up =
      let front : IsFront up.exchanges ys = proves-front Steps laws accepts a start up.exchanges ys logs c begun.link now.link up.asked p given up.kept.passed in
      let same : ys ≡ up.exchanges = proves-last laws.once accepts a start ys up.exchanges other d (proves-asked laws accepts a start ys logs c p) up.proves front in
      let one = proves-one laws.once accepts a start ys other logs d c (subst (λ (l : List Exchange). Proves accepts a start l other d) (sym same) up.proves) p in
      (up.kept.exchanges ∙ ap (λ (l : List Exchange). begun.exchanges ++ l) (sym same), one.0, one.1)

pub refused : {T : Type 0} (Steps : T → Asked → T → Type 0) → Laws → UpdateLaws → (accepts : Accepts) (a : Asker) (start : Start) (ys : List Exchange) (logs : Logs) (c : SignedCheckpoint) (ids : List (List ℕ)) (limit : ℕ) (said : Bool → Bool)
    (e : UpdateRefusal) (begun now : Transcript T) → Proves accepts a start ys logs c → GivesReplies Steps begun.link ys → IsUpdateRefusal e ids accepts said limit a start Steps begun now → IsOwnRefusal e ids limit a Steps ys begun.link now.link
refused Steps laws updates accepts a start ys logs c ids limit said e begun now = own-refusal Steps laws accepts a start ys logs c begun now updates ids limit said e

pub proved : {T : Type 0} (Steps : T → Asked → T → Type 0) → Laws → (accepts : Accepts) (a : Asker) (start : Start) (ys : List Exchange) (logs other : Logs) (c d : SignedCheckpoint) (begun now : Transcript T) → Proves accepts a start ys logs c
    → GivesReplies Steps begun.link ys → IsUpdated accepts a start Steps begun now other d → (now.exchanges ≡ begun.exchanges ++ ys) × (other ≡ logs) × (d ≡ c)
proved Steps laws accepts a start ys logs other c d begun now = just-these Steps laws accepts a start ys logs c begun now other d
