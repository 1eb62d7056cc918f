-- Pages in turn, and what an update proves in the end.
use Rattle.std.proofs.Common.{◌≡◌, ◌++◌, ◌∷◌, [], inl, inr, List, ℕ, Bool, true, false, Option, refl, sym, ◌∙◌, ap, subst, append_assoc}
use Rattle.warg_log.specs.Rules.{Accepts}
use Rattle.warg_exchange.specs.declared.exchange.Exchange.{Exchange}
use Rattle.warg_exchange.specs.declared.checkpoint.SignedCheckpoint.{SignedCheckpoint}
use Rattle.warg_exchange.specs.Requests.{Asker}
use Rattle.warg_page.specs.Logs.{Logs, AreLawful}
use Rattle.warg_update.specs.Proved.{Turns, Pages, Start, Opens, Shows, Proves, IsSigned, AsksCheckpoint, AsksInclusion, AsksConsistency, Succeeds}

-- a further page
pub pages-push : (a : Asker) (n : ℕ) (before mid after : Logs) (xs : List Exchange) (x : Exchange) (more : Bool) → Pages a n before xs mid true → Turns a n mid x after more
    → Pages a n before (xs ++ x ∷ []) after more
pages-push a n before mid after [] x true pages turn = inl (after, subst (λ (l : Logs). Turns a n l x after true) pages.0 turn, (refl, refl))
pages-push a n before mid after [] x false pages turn = inr (subst (λ (l : Logs). Turns a n l x after false) pages.0 turn, refl, refl)
pages-push a n before mid after (y ∷ xs) x more (inl step) turn = inl (step.0, step.1, pages-push a n step.0 mid after xs x more step.2 turn)
pages-push a n before mid after (y ∷ xs) x more (inr ended) turn = absurd cc

-- the checkpoint
pub opens-first : (a : Asker) (start : Start) (x : Exchange) (c : SignedCheckpoint) → AsksCheckpoint a x c → Opens a start (x ∷ []) c start.logs true
opens-first a start x c asks = record { first = x; pages = []; in_turn = refl; asks_checkpoint = asks; asks_pages = (refl, refl) }

-- a further page, behind the checkpoint and the pages before it
pub opens-push : (a : Asker) (start : Start) (xs : List Exchange) (c : SignedCheckpoint) (mid after : Logs) (x : Exchange) (more : Bool) → Opens a start xs c mid true → Turns a c.contents.log_length mid x after more
    → Opens a start (xs ++ x ∷ []) c after more
opens-push a start xs c mid after x more opens turn = record {
  first = opens.first;
  pages = opens.pages ++ x ∷ [];
  in_turn = ap (λ (l : List Exchange). l ++ x ∷ []) opens.in_turn;
  asks_checkpoint = opens.asks_checkpoint;
  asks_pages = pages-push a c.contents.log_length start.logs mid after opens.pages x more opens.asks_pages turn;
}

-- the checkpoint came, all pages, the inclusion, and what the stored checkpoint asks for
pub proves-all : (accepts : Accepts) (a : Asker) (start : Start) (xs : List Exchange) (c : SignedCheckpoint) (logs : Logs) (x : Exchange) (rest : List Exchange)
    → Opens a start xs c logs false → AreLawful accepts logs → IsSigned accepts logs.operator c → AsksInclusion a c.contents logs x → Succeeds a start.stored c.contents rest
    → Proves accepts a start (xs ++ x ∷ rest) logs c
proves-all accepts a start xs c logs x rest opens lawful signed included succeeds = record {
  first = opens.first;
  pages = opens.pages;
  inclusion = x;
  rest = rest;
  in_turn = ap (λ (l : List Exchange). l ++ x ∷ rest) opens.in_turn;
  asks_checkpoint = opens.asks_checkpoint;
  asks_pages = opens.asks_pages;
  lawful = lawful;
  signed = signed;
  asks_inclusion = included;
  succeeds = succeeds;
}

-- the inclusion was shown, and then the consistency with a shorter checkpoint
pub proves-continued : (accepts : Accepts) (a : Asker) (start : Start) (xs : List Exchange) (old c : SignedCheckpoint) (logs : Logs) (x : Exchange)
    → Shows a start xs old c logs → AreLawful accepts logs → IsSigned accepts logs.operator c → AsksConsistency a old.contents c.contents x → Proves accepts a start (xs ++ x ∷ []) logs c
proves-continued accepts a start xs old c logs x shows lawful signed asks =
    let succeeds : Succeeds a start.stored c.contents (x ∷ []) = subst (λ (s : Option SignedCheckpoint). Succeeds a s c.contents (x ∷ [])) (sym shows.stored) (inr (shows.shorter, x, asks, refl)) in
    let joined : xs ++ x ∷ [] ≡ shows.before ++ shows.inclusion ∷ x ∷ [] = ap (λ (l : List Exchange). l ++ x ∷ []) shows.in_turn ∙ append_assoc shows.before (shows.inclusion ∷ []) (x ∷ []) in
    subst (λ (l : List Exchange). Proves accepts a start l logs c) (sym joined) (proves-all accepts a start shows.before c logs shows.inclusion (x ∷ []) shows.opens lawful signed shows.asks_inclusion succeeds)
