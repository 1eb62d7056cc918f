-- Laws of exchanges in turn, and of the URLs that are left to be tried.
use Rattle.std.proofs.Common.{◌≡◌, ◌∷◌, [], ◌++◌, inl, inr, List, ℕ, true, false, Some, None, Ok, refl, sym, subst}
use Rattle.warg_exchange.specs.declared.content.ContentSource.{ContentSource}
use Rattle.warg_exchange.specs.declared.exchange.Exchange.{Exchange}
use Rattle.warg_exchange.specs.declared.exchange.Reply.{Reply}
use Rattle.warg_exchange.specs.declared.exchange.Request.{Request}
use Rattle.warg_exchange.specs.Replies.{says, sources_in}
use Rattle.warg_exchange.specs.Requests.{Asker, plain_get, sources_request}
use Rattle.warg_exchange.specs.Views.{Sources}
use Rattle.warg_api.specs.Link.{Asked, answered, unanswered, Exchanges}
use Rattle.warg_api.specs.Download.{is_url, source_url, urls, Turns, Loses, Tried, one_more, Finds, TriesNext, Tries, urls_of, Lists, Downloads, AllFail, GetsNext, Begins}

-- one exchange more at the end
pub exchanges-push : {T : Type 0} (Steps : T → Asked → T → Type 0) (old last new : T) (xs : List Exchange) (x : Exchange)
    → Exchanges Steps old xs last → Steps last (answered x.request x.reply) new → Exchanges Steps old (xs ++ x ∷ []) new
unfolding Exchanges
exchanges-push Steps old last new [] x same step = (new, subst (λ t. Steps t (answered x.request x.reply) new) same step, refl)
exchanges-push Steps old last new (y ∷ ys) x before step = (before.0, before.1, exchanges-push Steps before.0 last new ys x before.2 step)

pub url_first : (s : ContentSource) (sources : List ContentSource) → is_url (source_url s) ≡ true → urls (s ∷ sources) ≡ source_url s ∷ urls sources
url_first s sources is = rw is refl

pub no_url : (s : ContentSource) (sources : List ContentSource) → is_url (source_url s) ≡ false → urls (s ∷ sources) ≡ urls sources
no_url s sources is = rw is refl

-- nothing was asked yet
pub no_exchanges : {T : Type 0} (Steps : T → Asked → T → Type 0) (t : T) → Exchanges Steps t [] t
unfolding Exchanges
no_exchanges Steps t = refl

-- one source more is tried, behind others
module _ {T : Type 0} (Steps : T → Asked → T → Type 0) (old last new : T) (all : List (List ℕ)) (s : ContentSource) (rest : List ContentSource)
    (xs : List Exchange) (before : Exchanges Steps old xs last) (tried : Tried all (urls (s ∷ rest)) xs) where
  next_url : is_url (source_url s) ≡ true → Tried all (source_url s ∷ urls rest) xs
  next_url is = subst (λ (left : List (List ℕ)). Tried all left xs) (url_first s rest is) tried

  get_of : Reply → Exchange
  get_of reply = record { request = plain_get (source_url s); reply = reply }

  pub one_found : (body : List ℕ) → Turns Steps last (source_url s) new (Some body)
      → (ys : List Exchange) × Exchanges Steps old ys new × Finds all ys body
  unfolding get_of
  one_found body turn =
      let x = get_of turn.0 in
      let finds : Finds all (xs ++ x ∷ []) body = record {
        tried = xs;
        url = source_url s;
        left = urls rest;
        reply = turn.0;
        so_far = next_url turn.1;
        in_turn = refl;
        success = turn.3;
        gives = turn.4;
      } in
      (xs ++ x ∷ [], exchanges-push Steps old last new xs x before turn.2, finds)

  pub none_found : Turns Steps last (source_url s) new None
      → (ys : List Exchange) × Exchanges Steps old ys new × Tried all (urls rest) ys
  unfolding get_of
  none_found (inl turn) =
      (xs, subst (λ t. Exchanges Steps old xs t) (sym turn.1) before, subst (λ (left : List (List ℕ)). Tried all left xs) (no_url s rest turn.0) tried)
  none_found (inr turn) =
      let x = get_of turn.0 in
      (xs ++ x ∷ [], exchanges-push Steps old last new xs x before turn.2, one_more (source_url s) (urls rest) xs turn.0 (next_url turn.1) turn.3)

  pub reply_lost : Loses Steps last (source_url s) new → (ys : List Exchange) × Exchanges Steps old ys new × Tries all ys
  unfolding get_of
  reply_lost (inl same) = (xs, subst (λ t. Exchanges Steps old xs t) (sym same) before, inl (urls (s ∷ rest), tried))
  reply_lost (inr turn) =
      let x = get_of turn.0 in
      let next : TriesNext all xs x.request = record { url = source_url s; left = urls rest; so_far = next_url turn.1; asks = refl } in
      (xs ++ x ∷ [], exchanges-push Steps old last new xs x before turn.2, inr (xs, x, next, refl))

-- a registry was asked where a content is, and told it; and then its URLs are tried
module _ {T : Type 0} (Steps : T → Asked → T → Type 0) (old mid new : T) (a : Asker) (digest : List ℕ) (reply : Reply)
    (step : Steps old (answered (sources_request a digest) reply) mid) (sources : Sources) (says_so : says sources_in reply ≡ Ok sources)
    (all : List (List ℕ)) (lists : urls_of digest sources ≡ all) where
  first : Exchange
  first = record { request = sources_request a digest; reply = reply }

  lists_in : (rest : List Exchange) → Lists a digest (first ∷ rest) rest all
  unfolding first
  lists_in rest = record { first = first; in_turn = refl; asks = refl; sources = sources; says_so = says_so; lists = lists }

  behind_first : (last : T) (rest : List Exchange) → Exchanges Steps mid rest last → Exchanges Steps old (first ∷ rest) last
  unfolding first Exchanges
  behind_first last rest behind = (mid, step, behind)

  pub downloads : (body : List ℕ) → (rest : List Exchange) × Exchanges Steps mid rest new × Finds all rest body
      → (xs : List Exchange) × Exchanges Steps old xs new × Downloads a digest xs body
  downloads body found = (first ∷ found.0, behind_first new found.0 found.1, (found.0, all, lists_in found.0, found.2))

  pub all_fail : (rest : List Exchange) × Exchanges Steps mid rest new × Tried all [] rest
      → (xs : List Exchange) × Exchanges Steps old xs new × AllFail a digest xs
  all_fail tried = (first ∷ tried.0, behind_first new tried.0 tried.1, (tried.0, all, lists_in tried.0, tried.2))

  pub gets_next : (rest : List Exchange) × (last : T) × (next : Request) × Exchanges Steps mid rest last × TriesNext all rest next × Steps last (unanswered next) new
      → (xs : List Exchange) × (last : T) × (next : Request) × Exchanges Steps old xs last × GetsNext a digest xs next × Steps last (unanswered next) new
  gets_next tried = (first ∷ tried.0, tried.1, tried.2, behind_first tried.1 tried.0 tried.3, (tried.0, all, lists_in tried.0, tried.4), tried.5)

  pub begins : (rest : List Exchange) × Exchanges Steps mid rest new × Tries all rest
      → (xs : List Exchange) × Exchanges Steps old xs new × Begins a digest xs
  begins tried = (first ∷ tried.0, behind_first new tried.0 tried.1, (tried.0, all, lists_in tried.0, tried.2))
