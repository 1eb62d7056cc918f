-- What is kept of exchanges, one after the other.
use Rattle.std.proofs.Common.{◌≡◌, true, false, List, [], ◌∷◌, ◌++◌, refl, sym, ap, subst, ◌∙◌, append_assoc, inl, inr}
use Rattle.std.proofs.lemmas.List.{append-nil}
use Rattle.warg_exchange.specs.declared.exchange.Exchange.{Exchange}
use Rattle.warg_api.specs.Link.{Asked, answered, Exchanges}
use Rattle.warg_session.specs.Recording.{Transcript, IsKept, IsRecorded, AreKept}

true_false : {P : Type 0} → true ≡ false → P
true_false e = absurd cc

module _ {T : Type 0} (Steps : T → Asked → T → Type 0) where
  -- a reply that was lost stays lost
  pub stays_lost : (old new : Transcript T) (xs : List Exchange) → Exchanges (IsRecorded Steps) old xs new
      → old.is_whole ≡ false → new.is_whole ≡ false
  unfolding Exchanges
  stays_lost old new [] e is = ap (λ (t : Transcript T). t.is_whole) e ∙ is
  stays_lost old new (x ∷ xs) e is = stays_lost e.0 new xs e.2 (by e.1)
    where
      by : IsRecorded Steps old (answered x.request x.reply) e.0 → e.0.is_whole ≡ false
      by (inl kept) = kept.whole ∙ is
      by (inr lost) = lost.whole

  pub none_kept : (t : Transcript T) → AreKept Steps t [] t
  unfolding Exchanges
  none_kept t = record { passed = refl; exchanges = sym (append-nil t.exchanges); whole = refl }

  -- an exchange before others
  pub first_kept : (old mid new : Transcript T) (x : Exchange) (xs : List Exchange)
      → IsKept Steps old (answered x.request x.reply) mid → AreKept Steps mid xs new → AreKept Steps old (x ∷ xs) new
  unfolding Exchanges
  first_kept old mid new x xs one more = record {
    passed = (mid.link, one.passed, more.passed);
    exchanges = more.exchanges ∙ ap (λ l. l ++ xs) one.exchanges ∙ append_assoc old.exchanges (x ∷ []) xs;
    whole = more.whole ∙ one.whole;
  }

  -- an exchange more
  exchanges_more : (old mid new : T) (xs : List Exchange) (x : Exchange) → Exchanges Steps old xs mid
      → Steps mid (answered x.request x.reply) new → Exchanges Steps old (xs ++ x ∷ []) new
  unfolding Exchanges
  exchanges_more old mid new [] x e one = (new, subst (λ t. Steps t (answered x.request x.reply) new) e one, refl)
  exchanges_more old mid new (y ∷ xs) x e one = (e.0, e.1, exchanges_more e.0 mid new xs x e.2 one)

  pub one_more_kept : (old mid new : Transcript T) (xs : List Exchange) (x : Exchange) → AreKept Steps old xs mid
      → IsKept Steps mid (answered x.request x.reply) new → AreKept Steps old (xs ++ x ∷ []) new
  one_more_kept old mid new xs x all one = record {
    passed = exchanges_more old.link mid.link new.link xs x all.passed one.passed;
    exchanges = one.exchanges ∙ ap (λ l. l ++ x ∷ []) all.exchanges ∙ append_assoc old.exchanges xs (x ∷ []);
    whole = one.whole ∙ all.whole;
  }

  -- where no reply was lost, what is kept is what was said
  pub all_kept : (old new : Transcript T) (xs : List Exchange) → Exchanges (IsRecorded Steps) old xs new
      → new.is_whole ≡ true → AreKept Steps old xs new
  unfolding Exchanges
  all_kept old new [] e is = subst (λ t. AreKept Steps old [] t) (sym e) (none_kept old)
  all_kept old new (x ∷ xs) e is = by (all_kept e.0 new xs e.2 is) e.1
    where
      by : AreKept Steps e.0 xs new → IsRecorded Steps old (answered x.request x.reply) e.0
          → AreKept Steps old (x ∷ xs) new
      by more (inl kept) = first_kept old e.0 new x xs kept more
      by more (inr lost) = true_false (sym is ∙ stays_lost e.0 new xs e.2 lost.whole)
