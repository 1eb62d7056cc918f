-- That an update over replies which prove logs is the front of what proves them.
use Rattle.std.proofs.Common.{◌≡◌, ◌<◌, ◌⊎◌, ◌++◌, ◌∷◌, [], inl, inr, List, Bool, true, false, Option, Some, None, refl, sym, ◌∙◌, ap, subst, append_assoc}
use Rattle.std.proofs.lemmas.List.{append-nil}
use Rattle.warg_log.specs.Rules.{Accepts}
use Rattle.warg_exchange.specs.declared.exchange.Exchange.{Exchange}
use Rattle.warg_exchange.specs.declared.exchange.Request.{Request}
use Rattle.warg_exchange.specs.declared.checkpoint.SignedCheckpoint.{SignedCheckpoint}
use Rattle.warg_exchange.specs.Requests.{Asker}
use Rattle.warg_api.specs.Link.{Asked, Exchanges}
use Rattle.warg_page.specs.Logs.{Logs}
use Rattle.warg_update.specs.AskedLaws.{asked-at, asked-none, asked-push}
use Rattle.warg_update.specs.Proved.{AsksCheckpoint, Turns, Pages, Succeeds, Start, Opens, Shows, Proves, Asks, AreAsked, for_checkpoint, for_page, for_inclusion, for_consistency}
use Rattle.warg_course.specs.Replies.{IsFront, GivesReplies}
use Rattle.warg_course.proofs.GivenLaws.{same-given}
use Rattle.warg_course.proofs.AskLaws.{OneBringing, asks-once, asks-over, proves-opens}

-- that pages leave logs in one way, and that exchanges come in turn
pub record Laws : Type 0 where
  pub once : OneBringing
  pub first : (a : Asker) (start : Start) (x : Exchange) (c : SignedCheckpoint) → AsksCheckpoint a x c → Opens a start (x ∷ []) c start.logs true
  pub more : (a : Asker) (start : Start) (xs : List Exchange) (c : SignedCheckpoint) (mid after : Logs) (x : Exchange) (more : Bool) → Opens a start xs c mid true → Turns a c.contents.log_length mid x after more → Opens a start (xs ++ x ∷ []) c after more

-- ---- each exchange is asked for

-- pages, behind exchanges that were asked for
pages-asked : Laws → (a : Asker) (start : Start) (c : SignedCheckpoint) (done xs : List Exchange) (mid logs : Logs) (more : Bool) → Opens a start done c mid true → AreAsked a start done → Pages a c.contents.log_length mid xs logs more → AreAsked a start (done ++ xs)
pages-asked laws a start c done [] mid logs more opens asked pages = subst (AreAsked a start) (sym (append-nil done)) asked
pages-asked laws a start c done (x ∷ xs) mid logs more opens asked (inl step) =
    let one : AreAsked a start (done ++ x ∷ []) = asked-push a start done x asked (for_page c mid opens step.1.asked) in
    subst (AreAsked a start) (append_assoc done (x ∷ []) xs) (pages-asked laws a start c (done ++ x ∷ []) xs step.0 logs more (laws.more a start done c mid step.0 x true opens step.1) one step.2)
pages-asked laws a start c done (x ∷ xs) mid logs more opens asked (inr last) =
    let one : AreAsked a start (done ++ x ∷ []) = asked-push a start done x asked (for_page c mid opens last.0.asked) in
    subst (λ (l : List Exchange). AreAsked a start (done ++ x ∷ l)) (sym last.1) one

pub opens-asked : Laws → (a : Asker) (start : Start) (xs : List Exchange) (c : SignedCheckpoint) (logs : Logs) (more : Bool) → Opens a start xs c logs more → AreAsked a start xs
opens-asked laws a start xs c logs more p =
    let first : AreAsked a start (p.first ∷ []) = asked-push a start [] p.first (asked-none a start) (for_checkpoint refl p.asks_checkpoint.asked) in
    subst (AreAsked a start) (sym p.in_turn) (pages-asked laws a start c (p.first ∷ []) p.pages start.logs logs more (laws.first a start p.first c p.asks_checkpoint) first p.asks_pages)

shows-asked : Laws → (a : Asker) (start : Start) (xs : List Exchange) (old c : SignedCheckpoint) (logs : Logs) → Shows a start xs old c logs → AreAsked a start xs
shows-asked laws a start xs old c logs s =
    subst (AreAsked a start) (sym s.in_turn) (asked-push a start s.before s.inclusion (opens-asked laws a start s.before c logs false s.opens) (for_inclusion c logs s.opens s.asks_inclusion.asked))

-- what something is asked behind was asked for
pub asks-asked : Laws → (a : Asker) (start : Start) (xs : List Exchange) (r : Request) → Asks a start xs r → AreAsked a start xs
asks-asked laws a start xs r (for_checkpoint none e) = subst (AreAsked a start) (sym none) (asked-none a start)
asks-asked laws a start xs r (for_page c logs o e) = opens-asked laws a start xs c logs true o
asks-asked laws a start xs r (for_inclusion c logs o e) = opens-asked laws a start xs c logs false o
asks-asked laws a start xs r (for_consistency old c logs s e) = shows-asked laws a start xs old c logs s

-- what the stored checkpoint asks for, behind all else
rest-asked : Laws → (accepts : Accepts) (a : Asker) (start : Start) (before : List Exchange) (inclusion : Exchange) (rest : List Exchange) (logs : Logs) (c : SignedCheckpoint) (stored : Option SignedCheckpoint) → start.stored ≡ stored
    → ((old : SignedCheckpoint) → stored ≡ Some old → old.contents.log_length < c.contents.log_length → Shows a start (before ++ inclusion ∷ []) old c logs) → AreAsked a start (before ++ inclusion ∷ []) → Succeeds a stored c.contents rest
    → AreAsked a start ((before ++ inclusion ∷ []) ++ rest)
rest-asked laws accepts a start before inclusion rest logs c None is shows asked succeeds = subst (AreAsked a start) (sym (ap (λ (l : List Exchange). (before ++ inclusion ∷ []) ++ l) succeeds ∙ append-nil (before ++ inclusion ∷ []))) asked
rest-asked laws accepts a start before inclusion rest logs c (Some old) is shows asked (inl settled) =
    subst (AreAsked a start) (sym (ap (λ (l : List Exchange). (before ++ inclusion ∷ []) ++ l) settled.1 ∙ append-nil (before ++ inclusion ∷ []))) asked
rest-asked laws accepts a start before inclusion rest logs c (Some old) is shows asked (inr longer) =
    subst (λ (l : List Exchange). AreAsked a start ((before ++ inclusion ∷ []) ++ l)) (sym longer.3) (asked-push a start (before ++ inclusion ∷ []) longer.1 asked (for_consistency old c logs (shows old refl longer.0) longer.2.asked))

pub proves-asked : Laws → (accepts : Accepts) (a : Asker) (start : Start) (xs : List Exchange) (logs : Logs) (c : SignedCheckpoint) → Proves accepts a start xs logs c → AreAsked a start xs
proves-asked laws accepts a start xs logs c p =
    let before : List Exchange = p.first ∷ p.pages in
    let opens : Opens a start (p.first ∷ p.pages) c logs false = proves-opens accepts a start xs logs c p in
    let asked : AreAsked a start ((p.first ∷ p.pages) ++ p.inclusion ∷ []) = asked-push a start (p.first ∷ p.pages) p.inclusion (opens-asked laws a start (p.first ∷ p.pages) c logs false opens) (for_inclusion c logs opens p.asks_inclusion.asked) in
    let shows : (old : SignedCheckpoint) → start.stored ≡ Some old → old.contents.log_length < c.contents.log_length → Shows a start ((p.first ∷ p.pages) ++ p.inclusion ∷ []) old c logs = λ old stored shorter.
    record { before = p.first ∷ p.pages; inclusion = p.inclusion; in_turn = refl; opens = opens; asks_inclusion = p.asks_inclusion; stored = stored; shorter = shorter } in
    subst (AreAsked a start) (append_assoc (p.first ∷ p.pages) (p.inclusion ∷ []) p.rest ∙ sym p.in_turn) (rest-asked laws accepts a start (p.first ∷ p.pages) p.inclusion p.rest logs c start.stored refl shows asked p.succeeds)

-- ---- replies that are given

front-more : (x y : Exchange) (xs ys : List Exchange) → x ≡ y → IsFront xs ys ⊎ IsFront ys xs → IsFront (x ∷ xs) (y ∷ ys) ⊎ IsFront (y ∷ ys) (x ∷ xs)
front-more x y xs ys same (inl f) = inl (f.0, ap (λ (l : List Exchange). y ∷ l) f.1 ∙ ap (λ (z : Exchange). z ∷ (xs ++ f.0)) (sym same))
front-more x y xs ys same (inr f) = inr (f.0, ap (λ (l : List Exchange). x ∷ l) f.1 ∙ ap (λ (z : Exchange). z ∷ (ys ++ f.0)) same)

-- nothing is behind exchanges that prove logs
pub proves-last : OneBringing → (accepts : Accepts) (a : Asker) (start : Start) (xs ys : List Exchange) (logs : Logs) (c : SignedCheckpoint) → AreAsked a start xs → Proves accepts a start ys logs c → IsFront ys xs → xs ≡ ys
proves-last once accepts a start xs ys logs c asked p ([], e) = e ∙ append-nil ys
proves-last once accepts a start xs ys logs c asked p (x ∷ more, e) =
    absurd (asks-over once accepts a start ys logs c x.request p (asked-at a start ys more x (subst (AreAsked a start) e asked)))

module _ {T : Type 0} (Steps : T → Asked → T → Type 0) where
  -- behind the same exchanges
  fronts-behind : OneBringing → (a : Asker) (start : Start) (done xs ys : List Exchange) (old new : T) → AreAsked a start (done ++ xs) → AreAsked a start (done ++ ys) → GivesReplies Steps old ys → Exchanges Steps old xs new
      → IsFront xs ys ⊎ IsFront ys xs
  unfolding Exchanges
  fronts-behind once a start done [] ys old new p q given passed = inl (ys, refl)
  fronts-behind once a start done (x ∷ xs) [] old new p q given passed = inr (x ∷ xs, refl)
  fronts-behind once a start done (x ∷ xs) (y ∷ ys) old new p q given passed =
      let asked : x.request ≡ y.request = asks-once once a start done x.request y.request (asked-at a start done xs x p) (asked-at a start done ys y q) in
      let same = same-given Steps x y ys old passed.0 given asked passed.1 in
      let left : AreAsked a start ((done ++ x ∷ []) ++ xs) = subst (AreAsked a start) (sym (append_assoc done (x ∷ []) xs)) p in
      let right : AreAsked a start ((done ++ x ∷ []) ++ ys) = subst (AreAsked a start) (sym (append_assoc done (x ∷ []) ys)) (subst (λ (z : Exchange). AreAsked a start (done ++ z ∷ ys)) (sym same.0) q) in
      front-more x y xs ys same.0 (fronts-behind once a start (done ++ x ∷ []) xs ys passed.0 new left right same.1 passed.2)

  pub proves-front : Laws → (accepts : Accepts) (a : Asker) (start : Start) (xs ys : List Exchange) (logs : Logs) (c : SignedCheckpoint) (old new : T) → AreAsked a start xs → Proves accepts a start ys logs c → GivesReplies Steps old ys
      → Exchanges Steps old xs new → IsFront xs ys
  proves-front laws accepts a start xs ys logs c old new asked p given passed =
      by_front (fronts-behind laws.once a start [] xs ys old new asked (proves-asked laws accepts a start ys logs c p) given passed)
    where
      by_front : IsFront xs ys ⊎ IsFront ys xs → IsFront xs ys
      by_front (inl f) = f
      by_front (inr f) = ([], sym (append-nil xs ∙ proves-last laws.once accepts a start xs ys logs c asked p f))

-- these exchanges are the front of others, of which the next asks this
pub record HasNext (xs ys : List Exchange) (r : Request) : Type 0 where
  pub next : Exchange
  pub rest : List Exchange
  pub parts : ys ≡ xs ++ next ∷ rest
  pub asks : r ≡ next.request

-- what is asked behind a front of exchanges that prove logs is what the next of them asks
pub has-next : Laws → (accepts : Accepts) (a : Asker) (start : Start) (xs ys : List Exchange) (r : Request) (logs : Logs) (c : SignedCheckpoint) → Asks a start xs r → Proves accepts a start ys logs c → IsFront xs ys → HasNext xs ys r
has-next laws accepts a start xs ys r logs c asks p ([], e) =
    absurd (asks-over laws.once accepts a start xs logs c r (subst (λ (l : List Exchange). Proves accepts a start l logs c) (e ∙ append-nil xs) p) asks)
has-next laws accepts a start xs ys r logs c asks p (x ∷ after, e) =
    let asked : AreAsked a start (xs ++ x ∷ after) = subst (AreAsked a start) e (proves-asked laws accepts a start ys logs c p) in
    record { next = x; rest = after; parts = e; asks = asks-once laws.once a start xs r x.request asks (asked-at a start xs after x asked) }
