-- That exchanges which prove logs are never refused.
use Rattle.std.proofs.Common.{◌≡◌, ◌⊎◌, ◌++◌, ◌∷◌, [], inl, inr, List, ℕ, Bool, true, false, Option, Some, None, Ok, refl, sym, ◌∙◌, ap, subst, append_assoc}
use Rattle.std.specs.List.{AllByRecursion}
use Rattle.std.proofs.lemmas.Bool.{false≢true}
use Rattle.warg_hint.specs.declared.settings.HintSettings.{HintSettings}
use Rattle.warg_log.specs.Rules.{Accepts}
use Rattle.warg_record.specs.Record.{Package}
use Rattle.warg_exchange.specs.declared.exchange.Exchange.{Exchange}
use Rattle.warg_exchange.specs.declared.exchange.Request.{Request}
use Rattle.warg_exchange.specs.declared.exchange.Reply.{Reply}
use Rattle.warg_exchange.specs.declared.checkpoint.Checkpoint.{Checkpoint}
use Rattle.warg_exchange.specs.declared.checkpoint.SignedCheckpoint.{SignedCheckpoint}
use Rattle.warg_exchange.specs.Replies.{says, page_in, checkpoint_in}
use Rattle.warg_exchange.specs.Requests.{Asker, checkpoint_request, inclusion_request, consistency_request}
use Rattle.warg_exchange.specs.Views.{Page}
use Rattle.warg_info.specs.Kept.{Kept}
use Rattle.warg_info.specs.Info.{IsLawfulLog}
use Rattle.warg_page.specs.Logs.{Logs, Brings, IsLawfulPackage, EachIsLawful, AreLawful, indices_of}
use Rattle.warg_update.specs.declared.error.UpdateError.{UpdateError}
use Rattle.warg_update.specs.declared.error.UpdateError.TheVariants as update
use Rattle.warg_update.specs.declared.stage.Stage.{Stage}
use Rattle.warg_update.specs.declared.stage.Stage.TheVariants as stage
use Rattle.warg_update.specs.declared.step.UpdateStep.{UpdateStep}
use Rattle.warg_update.specs.FeedFaults.{IsTurnFault, HasTurnFault, IsContinuationFault, IsFaultIn, IsFeedFault}
use Rattle.warg_update.specs.NotFound.{IsNoPageFault}
use Rattle.warg_update.specs.Refusals.{IsFaultBehind, of_checkpoint, of_page, of_inclusion, of_consistency}
use Rattle.warg_update.specs.Proved.{page_request, AsksCheckpoint, AsksInclusion, AsksConsistency, Turns, Pages, Succeeds, Start, Proves, Opens, Shows}
use Rattle.warg_update.specs.Standing.{request_in, request_at, logs_of, hints_of, Reached, AreTrusted, Stands}
use Rattle.warg_update.proofs.FitLaws.{PageLaws, one-value, checkpoint-taken, page-came, turn-taken, may-follow, heads-taken, continuation-taken}
use Rattle.warg_update.proofs.StandingLaws.{some-same, page-asked}

head-is : {A : Type 0} (x y : A) (xs ys : List A) → x ∷ xs ≡ y ∷ ys → x ≡ y
head-is x y xs ys e = cc e

tail-is : {A : Type 0} (x y : A) (xs ys : List A) → x ∷ xs ≡ y ∷ ys → xs ≡ ys
tail-is x y xs ys e = cc e

each-package : (accepts : Accepts) (packages : List (List ℕ × List Kept)) → AllByRecursion (IsLawfulPackage accepts) packages → AllByRecursion (λ p. IsLawfulLog Package accepts p.1) packages
each-package accepts [] are = tt
each-package accepts (p ∷ packages) are = (are.0.1, each-package accepts packages are.1)

pub each-lawful : (accepts : Accepts) (logs : Logs) → AreLawful accepts logs → EachIsLawful accepts logs
each-lawful accepts logs lawful = record { operator = lawful.operator.1; packages = each-package accepts logs.packages lawful.packages }

-- ---- pages

turns-once : PageLaws → (a : Asker) (n : ℕ) (before after other : Logs) (x : Exchange) (more rest : Bool) → Turns a n before x after more → Turns a n before x other rest → (after ≡ other) × (more ≡ rest)
turns-once laws a n before after other x more rest t u =
    let same : t.page ≡ u.page = one-value page_in x.reply t.page u.page t.came u.came in
    (laws.once before after other u.page (subst (λ (p : Page). Brings before p after) same t.brings) u.brings, sym t.said ∙ ap (λ (p : Page). p.more) same ∙ u.said)

lawful-before : PageLaws → (accepts : Accepts) (a : Asker) (n : ℕ) (before logs : Logs) (xs : List Exchange) (more : Bool) → Pages a n before xs logs more → EachIsLawful accepts logs → EachIsLawful accepts before
lawful-before laws accepts a n before logs [] more pages lawful = subst (EachIsLawful accepts) pages.0 lawful
lawful-before laws accepts a n before logs (x ∷ xs) more (inl step) lawful = laws.lawful accepts before step.0 step.1.page step.1.brings (lawful-before laws accepts a n step.0 logs xs more step.2 lawful)
lawful-before laws accepts a n before logs (x ∷ xs) more (inr last) lawful = laws.lawful accepts before logs last.0.page last.0.brings lawful

-- a page of a run, which leaves lawful logs: the last ones where no more is to come
record IsTurnOf (accepts : Accepts) (a : Asker) (n : ℕ) (mid logs : Logs) (x : Exchange) : Type 0 where
  after : Logs
  more : Bool
  turns : Turns a n mid x after more
  lawful : EachIsLawful accepts after
  ended : more ≡ false → after ≡ logs

-- behind some pages of a run the next exchange is a page
page-next : PageLaws → (accepts : Accepts) (a : Asker) (n : ℕ) (before mid logs : Logs) (done pages : List Exchange) (x : Exchange) (after : List Exchange) (inclusion : Exchange) (rest : List Exchange)
    → Pages a n before done mid true → Pages a n before pages logs false → done ++ x ∷ after ≡ pages ++ inclusion ∷ rest → EachIsLawful accepts logs → IsTurnOf accepts a n mid logs x
page-next laws accepts a n before mid logs [] [] x after inclusion rest so_far all e lawful = absurd (false≢true all.1)
page-next laws accepts a n before mid logs [] (y ∷ ys) x after inclusion rest so_far (inl step) e lawful = record {
  after = step.0;
  more = true;
  turns = subst (λ (l : Logs). Turns a n l x step.0 true) (sym so_far.0) (subst (λ (z : Exchange). Turns a n before z step.0 true) (sym (head-is x y after (ys ++ inclusion ∷ rest) e)) step.1);
  lawful = lawful-before laws accepts a n step.0 logs ys false step.2 lawful;
  ended = λ no. absurd (false≢true (sym no));
}
page-next laws accepts a n before mid logs [] (y ∷ ys) x after inclusion rest so_far (inr last) e lawful = record {
  after = logs;
  more = false;
  turns = subst (λ (l : Logs). Turns a n l x logs false) (sym so_far.0) (subst (λ (z : Exchange). Turns a n before z logs false) (sym (head-is x y after (ys ++ inclusion ∷ rest) e)) last.0);
  lawful = lawful;
  ended = λ no. refl;
}
page-next laws accepts a n before mid logs (z ∷ zs) [] x after inclusion rest so_far all e lawful = absurd (false≢true all.1)
page-next laws accepts a n before mid logs (z ∷ zs) (y ∷ ys) x after inclusion rest (inr over) all e lawful = absurd (false≢true (sym over.2))
page-next laws accepts a n before mid logs (z ∷ zs) (y ∷ ys) x after inclusion rest (inl one) (inl step) e lawful =
    let first : z ≡ y = head-is z y (zs ++ x ∷ after) (ys ++ inclusion ∷ rest) e in
    let turns : Turns a n before z step.0 true = subst (λ (w : Exchange). Turns a n before w step.0 true) (sym first) step.1 in
    let same : one.0 ≡ step.0 = (turns-once laws a n before one.0 step.0 z true true one.1 turns).0 in
    page-next laws accepts a n step.0 mid logs zs ys x after inclusion rest (subst (λ (l : Logs). Pages a n l zs mid true) same one.2) step.2 (tail-is z y (zs ++ x ∷ after) (ys ++ inclusion ∷ rest) e) lawful
page-next laws accepts a n before mid logs (z ∷ zs) (y ∷ ys) x after inclusion rest (inl one) (inr last) e lawful =
    let first : z ≡ y = head-is z y (zs ++ x ∷ after) (ys ++ inclusion ∷ rest) e in
    let turns : Turns a n before z logs false = subst (λ (w : Exchange). Turns a n before w logs false) (sym first) last.0 in
    absurd (false≢true (sym (turns-once laws a n before one.0 logs z true false one.1 turns).1))

-- behind all pages of a run the inclusion comes
record IsOver (mid logs : Logs) (x : Exchange) (after : List Exchange) (inclusion : Exchange) (rest : List Exchange) : Type 0 where
  same : mid ≡ logs
  next : x ≡ inclusion
  then : after ≡ rest

pages-over : PageLaws → (a : Asker) (n : ℕ) (before mid logs : Logs) (done pages : List Exchange) (x : Exchange) (after : List Exchange) (inclusion : Exchange) (rest : List Exchange)
    → Pages a n before done mid false → Pages a n before pages logs false → done ++ x ∷ after ≡ pages ++ inclusion ∷ rest → IsOver mid logs x after inclusion rest
pages-over laws a n before mid logs [] pages x after inclusion rest so_far all e = absurd (false≢true so_far.1)
pages-over laws a n before mid logs (z ∷ zs) [] x after inclusion rest so_far all e = absurd (false≢true all.1)
pages-over laws a n before mid logs (z ∷ zs) (y ∷ ys) x after inclusion rest (inl one) (inl step) e =
    let first : z ≡ y = head-is z y (zs ++ x ∷ after) (ys ++ inclusion ∷ rest) e in
    let turns : Turns a n before z step.0 true = subst (λ (w : Exchange). Turns a n before w step.0 true) (sym first) step.1 in
    let same : one.0 ≡ step.0 = (turns-once laws a n before one.0 step.0 z true true one.1 turns).0 in
    pages-over laws a n step.0 mid logs zs ys x after inclusion rest (subst (λ (l : Logs). Pages a n l zs mid false) same one.2) step.2 (tail-is z y (zs ++ x ∷ after) (ys ++ inclusion ∷ rest) e)
pages-over laws a n before mid logs (z ∷ zs) (y ∷ ys) x after inclusion rest (inl one) (inr last) e =
    let first : z ≡ y = head-is z y (zs ++ x ∷ after) (ys ++ inclusion ∷ rest) e in
    let turns : Turns a n before z logs false = subst (λ (w : Exchange). Turns a n before w logs false) (sym first) last.0 in
    absurd (false≢true (sym (turns-once laws a n before one.0 logs z true false one.1 turns).1))
pages-over laws a n before mid logs (z ∷ zs) (y ∷ ys) x after inclusion rest (inr over) (inl step) e =
    let first : z ≡ y = head-is z y (zs ++ x ∷ after) (ys ++ inclusion ∷ rest) e in
    let turns : Turns a n before z step.0 true = subst (λ (w : Exchange). Turns a n before w step.0 true) (sym first) step.1 in
    absurd (false≢true (turns-once laws a n before mid step.0 z false true over.0 turns).1)
pages-over laws a n before mid logs (z ∷ zs) (y ∷ ys) x after inclusion rest (inr over) (inr last) e =
    let first : z ≡ y = head-is z y (zs ++ x ∷ after) (ys ++ inclusion ∷ rest) e in
    let turns : Turns a n before z logs false = subst (λ (w : Exchange). Turns a n before w logs false) (sym first) last.0 in
    let left : x ∷ after ≡ inclusion ∷ rest =
    sym (ap (λ (l : List Exchange). l ++ x ∷ after) over.1) ∙ tail-is z y (zs ++ x ∷ after) (ys ++ inclusion ∷ rest) e ∙ ap (λ (l : List Exchange). l ++ inclusion ∷ rest) last.1 in
    record { same = (turns-once laws a n before mid logs z false false over.0 turns).0; next = head-is x inclusion after rest left; then = tail-is x inclusion after rest left }

-- ---- behind the checkpoint

-- the checkpoint that came is the run's, and so are the pages
record IsOpened (accepts : Accepts) (a : Asker) (start : Start) (before : List Exchange) (x : Exchange) (after : List Exchange) (mid logs : Logs) (c : SignedCheckpoint) (more : Bool) (p : Proves accepts a start (before ++ x ∷ after) logs c) :
    Type 0 where
  pages : List Exchange
  asks_pages : Pages a c.contents.log_length start.logs pages mid more
  in_turn : pages ++ x ∷ after ≡ p.pages ++ p.inclusion ∷ p.rest

same-checkpoint : (accepts : Accepts) (a : Asker) (start : Start) (before : List Exchange) (x : Exchange) (after : List Exchange) (mid logs : Logs) (known c : SignedCheckpoint) (more : Bool)
    → Opens a start before known mid more → (p : Proves accepts a start (before ++ x ∷ after) logs c) → (known ≡ c) × (o : List Exchange) × (Pages a known.contents.log_length start.logs o mid more) × (o ++ x ∷ after ≡ p.pages ++ p.inclusion ∷ p.rest)
same-checkpoint accepts a start before x after mid logs known c more opens p =
    let whole : opens.first ∷ (opens.pages ++ x ∷ after) ≡ p.first ∷ (p.pages ++ p.inclusion ∷ p.rest) = sym (ap (λ (l : List Exchange). l ++ x ∷ after) opens.in_turn) ∙ p.in_turn in
    let first : opens.first ≡ p.first = head-is opens.first p.first (opens.pages ++ x ∷ after) (p.pages ++ p.inclusion ∷ p.rest) whole in
    let came : says checkpoint_in p.first.reply ≡ Ok known = subst (λ (z : Exchange). says checkpoint_in z.reply ≡ Ok known) first opens.asks_checkpoint.came in (
      one-value checkpoint_in p.first.reply known c came p.asks_checkpoint.came,
      opens.pages,
      opens.asks_pages,
      tail-is opens.first p.first (opens.pages ++ x ∷ after) (p.pages ++ p.inclusion ∷ p.rest) whole,
    )

opened : (accepts : Accepts) (a : Asker) (start : Start) (before : List Exchange) (x : Exchange) (after : List Exchange) (mid logs : Logs) (known c : SignedCheckpoint) (more : Bool)
    → Opens a start before known mid more → (p : Proves accepts a start (before ++ x ∷ after) logs c) → IsOpened accepts a start before x after mid logs c more p
opened accepts a start before x after mid logs known c more opens p =
    let parts = same-checkpoint accepts a start before x after mid logs known c more opens p in
    record { pages = parts.1; asks_pages = subst (λ (k : SignedCheckpoint). Pages a k.contents.log_length start.logs parts.1 mid more) parts.0 parts.2; in_turn = parts.3 }

-- the next exchange of a run, where a page is to come
next-turn : PageLaws → (accepts : Accepts) (a : Asker) (start : Start) (before : List Exchange) (x : Exchange) (after : List Exchange) (mid logs : Logs) (known c : SignedCheckpoint)
    → Opens a start before known mid true → Proves accepts a start (before ++ x ∷ after) logs c → IsTurnOf accepts a known.contents.log_length mid logs x
next-turn laws accepts a start before x after mid logs known c opens p =
    let o = opened accepts a start before x after mid logs known c true opens p in
    let same : known ≡ c = (same-checkpoint accepts a start before x after mid logs known c true opens p).0 in
    subst (λ (k : SignedCheckpoint). IsTurnOf accepts a k.contents.log_length mid logs x) (sym same)
    (page-next laws accepts a c.contents.log_length start.logs mid logs o.pages p.pages x after p.inclusion p.rest o.asks_pages p.asks_pages o.in_turn (each-lawful accepts logs p.lawful))

over : PageLaws → (accepts : Accepts) (a : Asker) (start : Start) (before : List Exchange) (x : Exchange) (after : List Exchange) (mid logs : Logs) (known c : SignedCheckpoint)
    → Opens a start before known mid false → (p : Proves accepts a start (before ++ x ∷ after) logs c) → IsOver mid logs x after p.inclusion p.rest
over laws accepts a start before x after mid logs known c opens p =
    let o = opened accepts a start before x after mid logs known c false opens p in
    pages-over laws a c.contents.log_length start.logs mid logs o.pages p.pages x after p.inclusion p.rest o.asks_pages p.asks_pages o.in_turn

-- the inclusion of a run
next-heads : PageLaws → (accepts : Accepts) (a : Asker) (start : Start) (before : List Exchange) (x : Exchange) (after : List Exchange) (mid logs : Logs) (known c : SignedCheckpoint)
    → Opens a start before known mid false → Proves accepts a start (before ++ x ∷ after) logs c → AsksInclusion a known.contents mid x × Succeeds a start.stored known.contents after
next-heads laws accepts a start before x after mid logs known c opens p =
    let end = over laws accepts a start before x after mid logs known c opens p in
    let same : known ≡ c = (same-checkpoint accepts a start before x after mid logs known c false opens p).0 in
    let asks : AsksInclusion a c.contents mid x = subst (λ (l : Logs). AsksInclusion a c.contents l x) (sym end.same) (subst (AsksInclusion a c.contents logs) (sym end.next) p.asks_inclusion) in (
      subst (λ (k : SignedCheckpoint). AsksInclusion a k.contents mid x) (sym same) asks,
      subst (λ (k : SignedCheckpoint). Succeeds a start.stored k.contents after) (sym same) (subst (Succeeds a start.stored c.contents) (sym end.then) p.succeeds),
    )

-- the consistency of a run
continues : (a : Asker) (old : SignedCheckpoint) (new : Checkpoint) (x : Exchange) (after : List Exchange) → Succeeds a (Some old) new (x ∷ after) → AsksConsistency a old.contents new x
continues a old new x after (inl settled) = absurd (elim_none settled.1)
  where
    elim_none : x ∷ after ≡ [] → ⊥
    elim_none e = absurd cc
continues a old new x after (inr longer) = subst (AsksConsistency a old.contents new) (sym (head-is x longer.1 after [] longer.3)) longer.2

next-continuation : PageLaws → (accepts : Accepts) (a : Asker) (start : Start) (before : List Exchange) (x : Exchange) (after : List Exchange) (mid logs : Logs) (old known c : SignedCheckpoint)
    → Shows a start before old known mid → Proves accepts a start (before ++ x ∷ after) logs c → AsksConsistency a old.contents known.contents x
next-continuation laws accepts a start before x after mid logs old known c shows p =
    let whole : before ++ x ∷ after ≡ shows.before ++ shows.inclusion ∷ (x ∷ after) = ap (λ (l : List Exchange). l ++ x ∷ after) shows.in_turn ∙ append_assoc shows.before (shows.inclusion ∷ []) (x ∷ after) in
    let q : Proves accepts a start (shows.before ++ shows.inclusion ∷ (x ∷ after)) logs c = subst (λ (l : List Exchange). Proves accepts a start l logs c) whole p in
    let heads = next-heads laws accepts a start shows.before shows.inclusion (x ∷ after) mid logs known c shows.opens q in
    continues a old known.contents x after (subst (λ (s : Option SignedCheckpoint). Succeeds a s known.contents (x ∷ after)) shows.stored heads.1)

-- ---- at each stage

first-is : (accepts : Accepts) (a : Asker) (start : Start) (before : List Exchange) (x : Exchange) (after : List Exchange) (logs : Logs) (c : SignedCheckpoint) → before ≡ [] → Proves accepts a start (before ++ x ∷ after) logs c
    → AsksCheckpoint a x c
first-is accepts a start before x after logs c none p =
    let whole : x ∷ after ≡ p.first ∷ (p.pages ++ p.inclusion ∷ p.rest) = sym (ap (λ (l : List Exchange). l ++ x ∷ after) none) ∙ p.in_turn in
    subst (λ (z : Exchange). AsksCheckpoint a z c) (sym (head-is x p.first after (p.pages ++ p.inclusion ∷ p.rest) whole)) p.asks_checkpoint

page-taken : PageLaws → (e : UpdateError) (accepts : Accepts) (settings : HintSettings) (said : Bool → Bool) (a : Asker) (start : Start) (before : List Exchange) (x : Exchange) (after : List Exchange) (mid logs : Logs) (known c : SignedCheckpoint)
    → Opens a start before known mid true → Proves accepts a start (before ++ x ∷ after) logs c → IsNoPageFault e settings said mid.packages x.reply ⊎ HasTurnFault e accepts mid known x.reply → e ≡ update.Memory
page-taken laws e accepts settings said a start before x after mid logs known c opens p (inl none) =
    let turn = next-turn laws accepts a start before x after mid logs known c opens p in
    page-came e settings said mid.packages x.reply turn.turns.page turn.turns.came none
page-taken laws e accepts settings said a start before x after mid logs known c opens p (inr bad) =
    let turn = next-turn laws accepts a start before x after mid logs known c opens p in
    let page = turn.turns.page in
    let same : bad.page ≡ page = one-value page_in x.reply bad.page page bad.came turn.turns.came in
    let same_checkpoint : known ≡ c = (same-checkpoint accepts a start before x after mid logs known c true opens p).0 in
    let at_end : AreTrusted accepts logs known = subst (AreTrusted accepts logs) (sym same_checkpoint) (record { lawful = p.lawful; signed = p.signed }) in
    let trusted : page.more ≡ false → AreTrusted accepts turn.after known = λ last. subst (λ (l : Logs). AreTrusted accepts l known) (sym (turn.ended (sym turn.turns.said ∙ last))) at_end in
    turn-taken laws e accepts mid turn.after known page turn.turns.brings turn.turns.kept turn.lawful trusted (subst (IsTurnFault e accepts mid known) same bad.fault)

taken-in : PageLaws → (st : Stage) (e : UpdateError) (accepts : Accepts) (settings : HintSettings) (said : Bool → Bool) (a : Asker) (start : Start) (before : List Exchange) (x : Exchange) (after : List Exchange) (mid logs : Logs)
    (ck : Option SignedCheckpoint) (c : SignedCheckpoint) → Reached st accepts a start before mid ck → Proves accepts a start (before ++ x ∷ after) logs c → IsFaultIn st e accepts settings said mid ck start.stored x.reply → e ≡ update.Memory
taken-in laws stage.Checkpoint e accepts settings said a start before x after mid logs ck c reached p bad = checkpoint-taken e x.reply c (first-is accepts a start before x after logs c reached.0 p).came bad
taken-in laws stage.Page e accepts settings said a start before x after mid logs (Some known) c reached p bad = page-taken laws e accepts settings said a start before x after mid logs known c reached p bad
taken-in laws stage.Page e accepts settings said a start before x after mid logs None c reached p bad = absurd bad
taken-in laws stage.Inclusion e accepts settings said a start before x after mid logs (Some known) c reached p bad =
    let heads = next-heads laws accepts a start before x after mid logs known c reached.0 p in
    heads-taken e mid known.contents start.stored x.reply heads.0.bundles heads.0.came heads.0.includes (may-follow a start.stored known.contents after heads.1) bad
taken-in laws stage.Inclusion e accepts settings said a start before x after mid logs None c reached p bad = absurd bad
taken-in laws (stage.Consistency from) e accepts settings said a start before x after mid logs (Some known) c reached p bad =
    let asks = next-continuation laws accepts a start before x after mid logs reached.1 known c reached.3 p in
    continuation-taken e reached.1.contents known.contents x.reply asks.shown asks.came asks.continues (subst (λ (k : Checkpoint). IsContinuationFault e k known.contents x.reply) reached.2 bad)
taken-in laws (stage.Consistency from) e accepts settings said a start before x after mid logs None c reached p bad = absurd bad
taken-in laws stage.Proved e accepts settings said a start before x after mid logs ck c reached p bad = absurd bad
taken-in laws stage.Refused e accepts settings said a start before x after mid logs ck c reached p bad = absurd bad

asked-in : PageLaws → (st : Stage) (accepts : Accepts) (a : Asker) (start : Start) (before : List Exchange) (x : Exchange) (after : List Exchange) (mid logs : Logs) (left : ℕ) (ck : Option SignedCheckpoint) (c : SignedCheckpoint) (r : Request)
    → Reached st accepts a start before mid ck → Proves accepts a start (before ++ x ∷ after) logs c → request_in st ck left a mid ≡ Some r → r ≡ x.request
asked-in laws stage.Checkpoint accepts a start before x after mid logs left ck c r reached p asks =
    some-same (checkpoint_request a) r asks ∙ sym (first-is accepts a start before x after logs c reached.0 p).asked
asked-in laws stage.Page accepts a start before x after mid logs left (Some known) c r reached p asks =
    page-asked left (page_request a known.contents.log_length mid) r asks ∙ sym (next-turn laws accepts a start before x after mid logs known c reached p).turns.asked
asked-in laws stage.Page accepts a start before x after mid logs left None c r reached p asks = absurd reached
asked-in laws stage.Inclusion accepts a start before x after mid logs left (Some known) c r reached p asks =
    some-same (inclusion_request a known.contents.log_length (indices_of mid)) r asks ∙ sym (next-heads laws accepts a start before x after mid logs known c reached.0 p).0.asked
asked-in laws stage.Inclusion accepts a start before x after mid logs left None c r reached p asks = absurd reached
asked-in laws (stage.Consistency from) accepts a start before x after mid logs left (Some known) c r reached p asks =
    some-same (consistency_request a from.log_length known.contents.log_length) r asks ∙ ap (λ (k : Checkpoint). consistency_request a k.log_length known.contents.log_length) reached.2
    ∙ sym (next-continuation laws accepts a start before x after mid logs reached.1 known c reached.3 p).asked
asked-in laws (stage.Consistency from) accepts a start before x after mid logs left None c r reached p asks = absurd reached
asked-in laws stage.Proved accepts a start before x after mid logs left (Some known) c r reached p asks = absurd cc
asked-in laws stage.Proved accepts a start before x after mid logs left None c r reached p asks = absurd reached
asked-in laws stage.Refused accepts a start before x after mid logs left ck c r reached p asks = absurd cc

-- ---- at a step

pub run-asked : PageLaws → (accepts : Accepts) (a : Asker) (start : Start) (before : List Exchange) (x : Exchange) (after : List Exchange) (logs : Logs) (c : SignedCheckpoint) (step : UpdateStep) (r : Request)
    → Proves accepts a start (before ++ x ∷ after) logs c → Stands accepts a start step before → request_at a step ≡ Some r → r ≡ x.request
run-asked laws accepts a start before x after logs c step r p stands asks = asked-in laws step.stage accepts a start before x after (logs_of step) logs step.pages_left step.checkpoint c r stands.reached p asks

asks-none : (r : Option Request) (q : Request) → r ≡ Some q → r ≡ None → ⊥
asks-none r q is none = absurd cc

pub run-taken : PageLaws → (accepts : Accepts) (a : Asker) (start : Start) (before : List Exchange) (x : Exchange) (after : List Exchange) (logs : Logs) (c : SignedCheckpoint) (step : UpdateStep) (r : Request) (said : Bool → Bool) (e : UpdateError)
    → Proves accepts a start (before ++ x ∷ after) logs c → Stands accepts a start step before → request_at a step ≡ Some r → IsFeedFault e accepts said step x.reply → e ≡ update.Memory
run-taken laws accepts a start before x after logs c step r said e p stands asks (inl silent) = absurd (asks-none (request_at a step) r asks (silent.1 a))
run-taken laws accepts a start before x after logs c step r said e p stands asks (inr bad) =
    taken-in laws step.stage e accepts (hints_of step) said a start before x after (logs_of step) logs step.checkpoint c stands.reached p
    (subst (λ (s : Option SignedCheckpoint). IsFaultIn step.stage e accepts (hints_of step) said (logs_of step) step.checkpoint s x.reply) stands.stored bad)

-- ---- by what came

behind-in : (st : Stage) (e : UpdateError) (accepts : Accepts) (settings : HintSettings) (said : Bool → Bool) (a : Asker) (start : Start) (xs : List Exchange) (logs : Logs) (ck : Option SignedCheckpoint) (reply : Reply)
    → Reached st accepts a start xs logs ck → IsFaultIn st e accepts settings said logs ck start.stored reply → IsFaultBehind e accepts settings said a start xs reply
behind-in stage.Checkpoint e accepts settings said a start xs logs ck reply reached bad = of_checkpoint reached.0 bad
behind-in stage.Page e accepts settings said a start xs logs (Some c) reply reached bad = of_page c logs reached bad
behind-in stage.Page e accepts settings said a start xs logs None reply reached bad = absurd bad
behind-in stage.Inclusion e accepts settings said a start xs logs (Some c) reply reached bad = of_inclusion c logs reached.0 bad
behind-in stage.Inclusion e accepts settings said a start xs logs None reply reached bad = absurd bad
behind-in (stage.Consistency from) e accepts settings said a start xs logs (Some c) reply reached bad =
    of_consistency reached.1 c logs reached.3 (subst (λ (k : Checkpoint). IsContinuationFault e k c.contents reply) reached.2 bad)
behind-in (stage.Consistency from) e accepts settings said a start xs logs None reply reached bad = absurd bad
behind-in stage.Proved e accepts settings said a start xs logs ck reply reached bad = absurd bad
behind-in stage.Refused e accepts settings said a start xs logs ck reply reached bad = absurd bad

pub fault-behind : (accepts : Accepts) (a : Asker) (start : Start) (xs : List Exchange) (step : UpdateStep) (r : Request) (said : Bool → Bool) (reply : Reply) (e : UpdateError)
    → Stands accepts a start step xs → request_at a step ≡ Some r → IsFeedFault e accepts said step reply → IsFaultBehind e accepts (hints_of step) said a start xs reply
fault-behind accepts a start xs step r said reply e stands asks (inl silent) = absurd (asks-none (request_at a step) r asks (silent.1 a))
fault-behind accepts a start xs step r said reply e stands asks (inr bad) =
    behind-in step.stage e accepts (hints_of step) said a start xs (logs_of step) step.checkpoint reply stands.reached
    (subst (λ (s : Option SignedCheckpoint). IsFaultIn step.stage e accepts (hints_of step) said (logs_of step) step.checkpoint s reply) stands.stored bad)
