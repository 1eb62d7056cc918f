-- That what an update asks next is determined by the exchanges before, and what it proves by all of them.
use Rattle.std.proofs.Common.{◌≡◌, ◌<◌, ◌++◌, ◌∷◌, [], inl, inr, List, ℕ, Bool, true, false, Option, Some, Ok, refl, sym, ◌∙◌, ap, subst, arith}
use Rattle.std.proofs.lemmas.Bool.{false≢true}
use Rattle.warg_log.specs.Rules.{Accepts}
use Rattle.warg_exchange.specs.declared.exchange.Exchange.{Exchange}
use Rattle.warg_exchange.specs.declared.exchange.Request.{Request}
use Rattle.warg_exchange.specs.declared.checkpoint.Checkpoint.{Checkpoint}
use Rattle.warg_exchange.specs.declared.checkpoint.SignedCheckpoint.{SignedCheckpoint}
use Rattle.warg_exchange.specs.Replies.{says, checkpoint_in, page_in}
use Rattle.warg_exchange.specs.Requests.{Asker, inclusion_request, consistency_request}
use Rattle.warg_exchange.specs.Views.{Page}
use Rattle.warg_page.specs.Logs.{Logs, Brings, indices_of}
use Rattle.warg_course.proofs.ReplyLaws.{head-is, tail-is, cons-none, one-value}
use Rattle.warg_update.specs.Proved.{page_request, AsksCheckpoint, Turns, Pages, Succeeds, Start, Opens, Shows, Proves, Asks, for_checkpoint, for_page, for_inclusion, for_consistency}

-- a page leaves logs in one way
abbrev pub OneBringing : Type 0
OneBringing = (before after other : Logs) (page : Page) → Brings before page after → Brings before page other → after ≡ other

some-is : {A : Type 0} (x y : A) → Some x ≡ Some y → x ≡ y
some-is x y e = cc e

-- a reply gives one checkpoint
one-checkpoint : (a : Asker) (x y : Exchange) (c d : SignedCheckpoint) → x ≡ y → AsksCheckpoint a x c → AsksCheckpoint a y d → c ≡ d
one-checkpoint a x y c d same p q = one-value checkpoint_in y.reply c d (subst (λ (z : Exchange). says checkpoint_in z.reply ≡ Ok c) same p.came) q.came

-- ---- pages

turns-once : OneBringing → (a : Asker) (n : ℕ) (before after other : Logs) (x : Exchange) (more rest : Bool) → Turns a n before x after more → Turns a n before x other rest → (after ≡ other) × (more ≡ rest)
turns-once once a n before after other x more rest t u =
    let same : t.page ≡ u.page = one-value page_in x.reply t.page u.page t.came u.came in
    (once before after other u.page (subst (λ (p : Page). Brings before p after) same t.brings) u.brings, sym t.said ∙ ap (λ (p : Page). p.more) same ∙ u.said)

-- more is to come behind a page, or not
not-both : OneBringing → (a : Asker) (n : ℕ) (before after other : Logs) (x : Exchange) → Turns a n before x after true → Turns a n before x other false → ⊥
not-both once a n before after other x t u = false≢true (sym (turns-once once a n before after other x true false t u).1)

-- the same pages leave the same logs
pages-same : OneBringing → (a : Asker) (n : ℕ) (before after other : Logs) (xs : List Exchange) (more rest : Bool) → Pages a n before xs after more → Pages a n before xs other rest → (after ≡ other) × (more ≡ rest)
pages-same once a n before after other [] more rest p q = (p.0 ∙ sym q.0, p.1 ∙ sym q.1)
pages-same once a n before after other (x ∷ xs) more rest (inl p) (inl q) =
    let same : p.0 ≡ q.0 = (turns-once once a n before p.0 q.0 x true true p.1 q.1).0 in
    pages-same once a n q.0 after other xs more rest (subst (λ (l : Logs). Pages a n l xs after more) same p.2) q.2
pages-same once a n before after other (x ∷ xs) more rest (inl p) (inr q) = absurd (not-both once a n before p.0 other x p.1 q.0)
pages-same once a n before after other (x ∷ xs) more rest (inr p) (inl q) = absurd (not-both once a n before q.0 after x q.1 p.0)
pages-same once a n before after other (x ∷ xs) more rest (inr p) (inr q) = ((turns-once once a n before after other x false false p.0 q.0).0, p.2 ∙ sym q.2)

-- where exchanges agree, pages that end do so at one place
pages-once : OneBringing → (a : Asker) (n : ℕ) (before after other : Logs) (xs ys us vs : List Exchange) → Pages a n before xs after false → Pages a n before ys other false → xs ++ us ≡ ys ++ vs → (after ≡ other) × (us ≡ vs)
pages-once once a n before after other [] ys us vs p q e = absurd (false≢true p.1)
pages-once once a n before after other (x ∷ xs) [] us vs p q e = absurd (false≢true q.1)
pages-once once a n before after other (x ∷ xs) (y ∷ ys) us vs (inl p) (inl q) e =
    let turns : Turns a n before x q.0 true = subst (λ (z : Exchange). Turns a n before z q.0 true) (sym (head-is x y (xs ++ us) (ys ++ vs) e)) q.1 in
    let same : p.0 ≡ q.0 = (turns-once once a n before p.0 q.0 x true true p.1 turns).0 in
    pages-once once a n q.0 after other xs ys us vs (subst (λ (l : Logs). Pages a n l xs after false) same p.2) q.2 (tail-is x y (xs ++ us) (ys ++ vs) e)
pages-once once a n before after other (x ∷ xs) (y ∷ ys) us vs (inl p) (inr q) e =
    let turns : Turns a n before x other false = subst (λ (z : Exchange). Turns a n before z other false) (sym (head-is x y (xs ++ us) (ys ++ vs) e)) q.0 in
    absurd (not-both once a n before p.0 other x p.1 turns)
pages-once once a n before after other (x ∷ xs) (y ∷ ys) us vs (inr p) (inl q) e =
    let turns : Turns a n before x q.0 true = subst (λ (z : Exchange). Turns a n before z q.0 true) (sym (head-is x y (xs ++ us) (ys ++ vs) e)) q.1 in
    absurd (not-both once a n before q.0 after x turns p.0)
pages-once once a n before after other (x ∷ xs) (y ∷ ys) us vs (inr p) (inr q) e =
    let turns : Turns a n before x other false = subst (λ (z : Exchange). Turns a n before z other false) (sym (head-is x y (xs ++ us) (ys ++ vs) e)) q.0 in
    let left : us ≡ vs = sym (ap (λ (l : List Exchange). l ++ us) p.1) ∙ tail-is x y (xs ++ us) (ys ++ vs) e ∙ ap (λ (l : List Exchange). l ++ vs) q.1 in
    ((turns-once once a n before after other x false false p.0 turns).0, left)

-- behind pages that end no page comes
pages-ended : OneBringing → (a : Asker) (n : ℕ) (before after other : Logs) (xs ys : List Exchange) (y : Exchange) (more : Bool) → Pages a n before xs after false → Pages a n before (xs ++ y ∷ ys) other more → ⊥
pages-ended once a n before after other [] ys y more p q = false≢true p.1
pages-ended once a n before after other (x ∷ xs) ys y more (inl p) (inl q) =
    let same : p.0 ≡ q.0 = (turns-once once a n before p.0 q.0 x true true p.1 q.1).0 in
    pages-ended once a n q.0 after other xs ys y more (subst (λ (l : Logs). Pages a n l xs after false) same p.2) q.2
pages-ended once a n before after other (x ∷ xs) ys y more (inl p) (inr q) = not-both once a n before p.0 other x p.1 q.0
pages-ended once a n before after other (x ∷ xs) ys y more (inr p) (inl q) = not-both once a n before q.0 after x q.1 p.0
pages-ended once a n before after other (x ∷ xs) ys y more (inr p) (inr q) = cons-none y ys (sym (ap (λ (l : List Exchange). l ++ y ∷ ys) p.1) ∙ q.1)

-- ---- behind the checkpoint

opens-same : OneBringing → (a : Asker) (start : Start) (xs : List Exchange) (c d : SignedCheckpoint) (logs other : Logs) (more rest : Bool) → Opens a start xs c logs more → Opens a start xs d other rest
    → (c ≡ d) × (logs ≡ other) × (more ≡ rest)
opens-same once a start xs c d logs other more rest p q =
    let whole : p.first ∷ p.pages ≡ q.first ∷ q.pages = sym p.in_turn ∙ q.in_turn in
    let same : c ≡ d = one-checkpoint a p.first q.first c d (head-is p.first q.first p.pages q.pages whole) p.asks_checkpoint q.asks_checkpoint in
    let pages : Pages a d.contents.log_length start.logs p.pages logs more = subst (λ (k : SignedCheckpoint). Pages a k.contents.log_length start.logs p.pages logs more) same p.asks_pages in
    let moved : Pages a d.contents.log_length start.logs q.pages logs more = subst (λ (l : List Exchange). Pages a d.contents.log_length start.logs l logs more) (tail-is p.first q.first p.pages q.pages whole) pages in
    let left = pages-same once a d.contents.log_length start.logs logs other q.pages more rest moved q.asks_pages in
    (same, left.0, left.1)

opens-once : OneBringing → (a : Asker) (start : Start) (xs ys us vs : List Exchange) (c d : SignedCheckpoint) (logs other : Logs) → Opens a start xs c logs false → Opens a start ys d other false → xs ++ us ≡ ys ++ vs
    → (c ≡ d) × (logs ≡ other) × (us ≡ vs)
opens-once once a start xs ys us vs c d logs other p q e =
    let whole : p.first ∷ (p.pages ++ us) ≡ q.first ∷ (q.pages ++ vs) = sym (ap (λ (l : List Exchange). l ++ us) p.in_turn) ∙ e ∙ ap (λ (l : List Exchange). l ++ vs) q.in_turn in
    let same : c ≡ d = one-checkpoint a p.first q.first c d (head-is p.first q.first (p.pages ++ us) (q.pages ++ vs) whole) p.asks_checkpoint q.asks_checkpoint in
    let pages : Pages a d.contents.log_length start.logs p.pages logs false = subst (λ (k : SignedCheckpoint). Pages a k.contents.log_length start.logs p.pages logs false) same p.asks_pages in
    let left = pages-once once a d.contents.log_length start.logs logs other p.pages q.pages us vs pages q.asks_pages (tail-is p.first q.first (p.pages ++ us) (q.pages ++ vs) whole) in
    (same, left.0, left.1)

opens-ended : OneBringing → (a : Asker) (start : Start) (xs ys : List Exchange) (y : Exchange) (c d : SignedCheckpoint) (logs other : Logs) (more : Bool) → Opens a start xs c logs false → Opens a start (xs ++ y ∷ ys) d other more → ⊥
opens-ended once a start xs ys y c d logs other more p q =
    let whole : p.first ∷ (p.pages ++ y ∷ ys) ≡ q.first ∷ q.pages = sym (ap (λ (l : List Exchange). l ++ y ∷ ys) p.in_turn) ∙ q.in_turn in
    let same : c ≡ d = one-checkpoint a p.first q.first c d (head-is p.first q.first (p.pages ++ y ∷ ys) q.pages whole) p.asks_checkpoint q.asks_checkpoint in
    let pages : Pages a d.contents.log_length start.logs p.pages logs false = subst (λ (k : SignedCheckpoint). Pages a k.contents.log_length start.logs p.pages logs false) same p.asks_pages in
    let longer : Pages a d.contents.log_length start.logs (p.pages ++ y ∷ ys) other more = subst (λ (l : List Exchange). Pages a d.contents.log_length start.logs l other more) (sym (tail-is p.first q.first (p.pages ++ y ∷ ys) q.pages whole)) q.asks_pages in
    pages-ended once a d.contents.log_length start.logs logs other p.pages ys y more pages longer

-- ---- what is asked next

opens-none : (a : Asker) (start : Start) (xs : List Exchange) (c : SignedCheckpoint) (logs : Logs) (more : Bool) → Opens a start xs c logs more → xs ≡ [] → ⊥
opens-none a start xs c logs more p none = cons-none p.first p.pages (sym p.in_turn ∙ none)

shows-none : (a : Asker) (start : Start) (xs : List Exchange) (old c : SignedCheckpoint) (logs : Logs) → Shows a start xs old c logs → xs ≡ [] → ⊥
shows-none a start xs old c logs s none =
    cons-none s.opens.first (s.opens.pages ++ s.inclusion ∷ []) (sym (ap (λ (l : List Exchange). l ++ s.inclusion ∷ []) s.opens.in_turn) ∙ sym s.in_turn ∙ none)

-- all pages came and the inclusion, so it is neither a page nor the inclusion that comes next
shows-ended : OneBringing → (a : Asker) (start : Start) (xs : List Exchange) (old c d : SignedCheckpoint) (logs other : Logs) (more : Bool) → Shows a start xs old c logs → Opens a start xs d other more → ⊥
shows-ended once a start xs old c d logs other more s o =
    opens-ended once a start s.before [] s.inclusion c d logs other more s.opens (subst (λ (l : List Exchange). Opens a start l d other more) s.in_turn o)

pub asks-once : OneBringing → (a : Asker) (start : Start) (xs : List Exchange) (r q : Request) → Asks a start xs r → Asks a start xs q → r ≡ q
asks-once once a start xs r q (for_checkpoint none e) (for_checkpoint also f) = e ∙ sym f
asks-once once a start xs r q (for_checkpoint none e) (for_page d other o f) = absurd (opens-none a start xs d other true o none)
asks-once once a start xs r q (for_checkpoint none e) (for_inclusion d other o f) = absurd (opens-none a start xs d other false o none)
asks-once once a start xs r q (for_checkpoint none e) (for_consistency old d other s f) = absurd (shows-none a start xs old d other s none)
asks-once once a start xs r q (for_page c logs p e) (for_checkpoint none f) = absurd (opens-none a start xs c logs true p none)
asks-once once a start xs r q (for_page c logs p e) (for_page d other o f) =
    let same = opens-same once a start xs c d logs other true true p o in
    e ∙ ap (λ (k : SignedCheckpoint). page_request a k.contents.log_length logs) same.0 ∙ ap (λ (l : Logs). page_request a d.contents.log_length l) same.1 ∙ sym f
asks-once once a start xs r q (for_page c logs p e) (for_inclusion d other o f) = absurd (false≢true (sym (opens-same once a start xs c d logs other true false p o).2))
asks-once once a start xs r q (for_page c logs p e) (for_consistency old d other s f) = absurd (shows-ended once a start xs old d c other logs true s p)
asks-once once a start xs r q (for_inclusion c logs p e) (for_checkpoint none f) = absurd (opens-none a start xs c logs false p none)
asks-once once a start xs r q (for_inclusion c logs p e) (for_page d other o f) = absurd (false≢true (opens-same once a start xs c d logs other false true p o).2)
asks-once once a start xs r q (for_inclusion c logs p e) (for_inclusion d other o f) =
    let same = opens-same once a start xs c d logs other false false p o in
    e ∙ ap (λ (k : SignedCheckpoint). inclusion_request a k.contents.log_length (indices_of logs)) same.0 ∙ ap (λ (l : Logs). inclusion_request a d.contents.log_length (indices_of l)) same.1 ∙ sym f
asks-once once a start xs r q (for_inclusion c logs p e) (for_consistency old d other s f) = absurd (shows-ended once a start xs old d c other logs false s p)
asks-once once a start xs r q (for_consistency old c logs s e) (for_checkpoint none f) = absurd (shows-none a start xs old c logs s none)
asks-once once a start xs r q (for_consistency old c logs s e) (for_page d other o f) = absurd (shows-ended once a start xs old c d logs other true s o)
asks-once once a start xs r q (for_consistency old c logs s e) (for_inclusion d other o f) = absurd (shows-ended once a start xs old c d logs other false s o)
asks-once once a start xs r q (for_consistency old c logs s e) (for_consistency kept d other t f) =
    let same : c ≡ d = (opens-once once a start s.before t.before (s.inclusion ∷ []) (t.inclusion ∷ []) c d logs other s.opens t.opens (sym s.in_turn ∙ t.in_turn)).0 in
    let stored : old ≡ kept = some-is old kept (sym s.stored ∙ t.stored) in
    e ∙ ap (λ (k : SignedCheckpoint). consistency_request a k.contents.log_length c.contents.log_length) stored ∙ ap (λ (k : SignedCheckpoint). consistency_request a kept.contents.log_length k.contents.log_length) same ∙ sym f

-- ---- what is proved

-- exchanges that prove logs open with the checkpoint and all pages
pub proves-opens : (accepts : Accepts) (a : Asker) (start : Start) (xs : List Exchange) (logs : Logs) (c : SignedCheckpoint) → (p : Proves accepts a start xs logs c) → Opens a start (p.first ∷ p.pages) c logs false
proves-opens accepts a start xs logs c p = record { first = p.first; pages = p.pages; in_turn = refl; asks_checkpoint = p.asks_checkpoint; asks_pages = p.asks_pages }

pub proves-one : OneBringing → (accepts : Accepts) (a : Asker) (start : Start) (xs : List Exchange) (logs other : Logs) (c d : SignedCheckpoint) → Proves accepts a start xs logs c → Proves accepts a start xs other d → (logs ≡ other) × (c ≡ d)
proves-one once accepts a start xs logs other c d p q =
    let one = opens-once once a start (p.first ∷ p.pages) (q.first ∷ q.pages) (p.inclusion ∷ p.rest) (q.inclusion ∷ q.rest) c d logs other (proves-opens accepts a start xs logs c p) (proves-opens accepts a start xs other d q) (sym p.in_turn ∙ q.in_turn) in
    (one.1, one.0)

-- where the stored checkpoint is shorter, its consistency is shown
no-more : (a : Asker) (old : SignedCheckpoint) (new : Checkpoint) (rest : List Exchange) → Succeeds a (Some old) new rest → rest ≡ [] → old.contents.log_length < new.log_length → ⊥
no-more a old new rest (inl settled) none shorter = let same = settled.0.same_length in absurd (omega (arith, same, shorter))
no-more a old new rest (inr longer) none shorter = cons-none longer.1 [] (sym longer.3 ∙ none)

-- behind exchanges that prove logs nothing is asked
pub asks-over : OneBringing → (accepts : Accepts) (a : Asker) (start : Start) (xs : List Exchange) (logs : Logs) (c : SignedCheckpoint) (r : Request) → Proves accepts a start xs logs c → Asks a start xs r → ⊥
asks-over once accepts a start xs logs c r p (for_checkpoint none e) = cons-none p.first (p.pages ++ p.inclusion ∷ p.rest) (sym p.in_turn ∙ none)
asks-over once accepts a start xs logs c r p (for_page d other o e) =
    opens-ended once a start (p.first ∷ p.pages) p.rest p.inclusion c d logs other true (proves-opens accepts a start xs logs c p) (subst (λ (l : List Exchange). Opens a start l d other true) p.in_turn o)
asks-over once accepts a start xs logs c r p (for_inclusion d other o e) =
    opens-ended once a start (p.first ∷ p.pages) p.rest p.inclusion c d logs other false (proves-opens accepts a start xs logs c p) (subst (λ (l : List Exchange). Opens a start l d other false) p.in_turn o)
asks-over once accepts a start xs logs c r p (for_consistency old d other s e) =
    let one = opens-once once a start s.before (p.first ∷ p.pages) (s.inclusion ∷ []) (p.inclusion ∷ p.rest) d c other logs s.opens (proves-opens accepts a start xs logs c p) (sym s.in_turn ∙ p.in_turn) in
    let none : p.rest ≡ [] = sym (tail-is s.inclusion p.inclusion [] p.rest one.2) in
    no-more a old c.contents p.rest (subst (λ (k : Option SignedCheckpoint). Succeeds a k c.contents p.rest) s.stored p.succeeds) none (subst (λ (k : SignedCheckpoint). old.contents.log_length < k.contents.log_length) one.0 s.shorter)
